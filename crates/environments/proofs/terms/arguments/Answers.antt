-- `environments::terms::arguments` meets its contract. The loop's invariant: the numbers so far, with those of the terms from
-- number i on, are what is asked, and zeros stand behind.
use Prim.Native.Nat.{ℕ, ◌-◌}
use native.Mathlib.Omega.{arith}
use mathlib.Core.Path.{◌≡◌, sym, ap, ap₂, ◌∙◌}
use mathlib.Core.List.{List, ◌++◌}
use lib.ListN.{length, replicate, length-set, take-append-drop}
use lib.IntN.{ℤ, pos}
use mir.Syntax.{w32}
use mir.Val.{to_z, of_z}
use borrow.Author.Rules.{rules}
use Rattle.model.specs.Reading.{in_scope}
use Rattle.policies.proofs.TermLaws.{place-holds}
use Rattle.environments.proofs.TermLaws.{numbers-first, numbers-next, numbers-last, zeros-next}
use Rattle.environments.proofs.terms.arguments.Goals as goal

pub loop-i-init : goal.loop-i-init
loop-i-init c =
    let t = c.args.terms in (
      ap length c.requires.1,
      c.requires.1,
      λ e h. numbers-first e t.words.now t.first t.n,
    )

pub number-requires : goal.number-requires
number-requires c =
    let t = c.args.terms in (
      c.requires.0,
      omega (arith, t.near),
      place-holds (in_scope t.words.now 16) t.first t.n c.loop-i.i t.known c.loop-i-test.true,
    )

pub loop-i-preserved : goal.loop-i-preserved
loop-i-preserved c =
    let t = c.args.terms in
    let i = c.loop-i.i in
    let v = to_z w32 (of_z w32 c.number.result) in
    let back : v ≡ c.number.result = search rules in (
      length-set c.loop-i.arguments i v ∙ c.loop-i.invariant.0,
      zeros-next c.loop-i.arguments 6 i v (omega (arith, t.few)) c.loop-i.invariant.1,
      λ e h.
          c.loop-i.invariant.2 e h
          ∙ numbers-next e t.words.now t.first t.n c.loop-i.arguments i v
          c.loop-i-test.true (omega (arith, t.few, c.loop-i.invariant.0)) (back ∙ c.number.ensures e h),
    )

pub returns : goal.returns
returns c =
    λ e h. let t = c.args.terms in let all : c.loop-i.i ≡ t.n = omega arith in sym
    (take-append-drop c.loop-i.i c.loop-i.arguments) ∙ ap₂ (λ (p q : List ℤ). p ++ q)
    (sym
    (c.loop-i.invariant.2 e h ∙ numbers-last e t.words.now t.first t.n c.loop-i.arguments c.loop-i.i
    c.loop-i-test.false)) (c.loop-i.invariant.1 ∙ ap (λ (k : ℕ). replicate (6 - k) (pos 0)) all)

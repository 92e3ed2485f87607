-- `modes::marks::Marks::with_terms` meets its contract. The loop's invariant: the set so far, with the terms from number i on, is what is asked.
use Prim.Native.Nat.{ℕ, ◌+◌, ◌*◌, ◌<◌}
use native.Mathlib.Omega.{arith}
use mathlib.Core.Path.{◌≡◌, sym, ap, ◌∙◌}
use mathlib.Core.Bool.{Bool, true, false}
use borrow.Author.Rules.{rules}
use lib.ListN.{length, set, length-set}
use mathlib.Core.List.{List, ◌∷◌}
use Rattle.model.specs.Tree.{Term}
use Rattle.model.specs.Words.{value}
use Rattle.model.specs.Reading.{term_at, in_scope}
use Rattle.policies.specs.Standing.{terms_at}
use Rattle.modes.specs.Mode.{marked, set_of, with_terms}
use Rattle.policies.proofs.TermLaws.{place-holds, terms_from, terms-first, terms-next, terms-last, term-constant, term-variable}
use Rattle.policies.proofs.TermLaws.{variable-small}
use Rattle.modes.proofs.ModeTerms.{with_constant, with_variable, with_none}
use Rattle.modes.proofs.marks.Marks.with_terms.Goals as goal
use Rattle.modes.proofs.marks.Marks.with_terms.Goals.{then-not-is, else-not-is}

pub loop-i-init : goal.loop-i-init
loop-i-init c = (
  omega arith,
  search rules,
  ap (with_terms (set_of c.args.self)) (terms-first c.args.terms.words.now c.args.terms.first c.args.terms.n),
)

pub bounds-marks-x : goal.bounds-marks-x
bounds-marks-x c =
    let small : c.is.result ≡ false → value c.args.terms.words.now (c.args.terms.first + 2 * c.loop-i.i + 1) < 16 = λ e. variable-small c.args.terms.words.now (c.args.terms.first + 2 * c.loop-i.i) 16
    (place-holds (in_scope c.args.terms.words.now 16) c.args.terms.first c.args.terms.n c.loop-i.i c.args.terms.known c.loop-i-test.true)
    (sym c.is.ensures ∙ e) in
    omega (arith, c.value-x.ensures, small (c.if-not-is.true))

pub loop-i-preserved : goal.loop-i-preserved
loop-i-preserved c =
    let small : c.is.result ≡ false → value c.args.terms.words.now (c.args.terms.first + 2 * c.loop-i.i + 1) < 16 = λ e. variable-small c.args.terms.words.now (c.args.terms.first + 2 * c.loop-i.i) 16
    (place-holds (in_scope c.args.terms.words.now 16) c.args.terms.first c.args.terms.n c.loop-i.i c.args.terms.known c.loop-i-test.true)
    (sym c.is.ensures ∙ e) in
    let a = c.args in
    let i = c.loop-i.i in
    let at = a.terms.first + 2 * i in
    let next :
    with_terms (set_of a.self) (terms_at a.terms.words.now a.terms.first a.terms.n)
    ≡ with_terms (marked c.loop-i.marks)
    (term_at a.terms.words.now at ∷ terms_from a.terms.words.now a.terms.first a.terms.n (i + 1)) =
    c.loop-i.invariant.2 ∙ ap (with_terms (marked c.loop-i.marks))
    (terms-next a.terms.words.now a.terms.first a.terms.n i c.loop-i-test.true) in
    elim c.if-not-is.branch [
      | then-not-is w ↦ let no-constant = w.if-not-is.true in let marks = c.loop-i.marks in let v = value a.terms.words.now
          (at + 1) in let is : c.if-not-is.marks ≡ set marks v true = w.marks-is ∙ ap (λ (k : ℕ). set marks k true) w.value-x.ensures in (
            omega arith,
            ap length is ∙ length-set marks v true ∙ c.loop-i.invariant.1,
            next ∙ ap
                (λ (t : Term). with_terms (marked marks) (t ∷ terms_from a.terms.words.now a.terms.first a.terms.n (i + 1)))
                (term-variable a.terms.words.now at (sym c.is.ensures ∙ no-constant)) ∙ with_variable marks v _
                (omega (arith, small no-constant, c.loop-i.invariant.1)) ∙ ap
                (λ (m : List Bool). with_terms (marked m) (terms_from a.terms.words.now a.terms.first a.terms.n (i + 1))) (sym is),
          )
      | else-not-is w ↦ let constantly = w.if-not-is.false in (
        omega arith,
        ap length w.marks-is ∙ c.loop-i.invariant.1,
        next ∙ ap
            (λ (t : Term). with_terms (marked c.loop-i.marks) (t ∷ terms_from a.terms.words.now a.terms.first a.terms.n (i + 1)))
            (term-constant a.terms.words.now at (sym c.is.ensures ∙ constantly)) ∙ with_constant
            (marked c.loop-i.marks) _ _ ∙ ap
            (λ (m : List Bool). with_terms (marked m) (terms_from a.terms.words.now a.terms.first a.terms.n (i + 1))) (sym w.marks-is),
      )
    ]

pub returns : goal.returns
returns c =
    let a = c.args in
    sym
    (c.loop-i.invariant.2
    ∙ ap (with_terms (marked c.loop-i.marks)) (terms-last a.terms.words.now a.terms.first a.terms.n c.loop-i.i c.loop-i-test.false)
    ∙ with_none (marked c.loop-i.marks))

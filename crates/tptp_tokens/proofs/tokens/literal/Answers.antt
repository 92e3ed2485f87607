-- `tptp_tokens::tokens::literal` meets its contract. The loop's invariant: the bytes so far stand here.
use native.Mathlib.Omega.{arith}
use Prim.Native.Nat.{◌+◌, ◌<◌}
use mathlib.Core.Path.{◌≡◌, refl, sym, ap, ◌∙◌}
use lib.ListN.{length, drop}
use borrow.Author.Rules.{rules}
use Rattle.text.specs.declared.cursor.Cursor.{Cursor}
use Rattle.tptp_tokens.proofs.MovedLaws.{past}
use Rattle.tptp_tokens.proofs.TokenLaws.{literal-more, literal-other, literal_end}
use Rattle.tptp_tokens.proofs.tokens.literal.Goals as goal

pub returns-then-ne : goal.returns-then-ne
returns-then-ne c =
    let l = c.loop-i in
    let old = c.args.here.now in
    let end = c.pass.ensures.at ∙ ap (λ (h : Cursor). h.at + l.i) l.invariant.0 in
    rw end (l.invariant.2 ∙ literal-other c.args.word.now old.rest.now l.i old.at c.loop-i-test.true (search rules))

pub loop-i-preserved : goal.loop-i-preserved
loop-i-preserved c =
    let l = c.loop-i in
    let old = c.args.here.now in
    let there : l.i < length old.rest.now = search rules in (
      l.invariant.0,
      omega (arith, there),
      l.invariant.2 ∙ literal-more c.args.word.now old.rest.now l.i old.at c.loop-i-test.true there (search rules),
    )

pub returns : goal.returns
returns c =
    let l = c.loop-i in
    let old = c.args.here.now in
    let word = c.args.word.now in
    let p = c.pass-2.ensures in
    let all : length word ≡ l.i = omega (arith, l.auto.i-end, c.loop-i-test.false) in
    let rest = p.rest ∙ ap (λ (h : Cursor). drop (length word) h.rest.now) l.invariant.0 in
    let at = p.at ∙ ap (λ (h : Cursor). h.at + length word) l.invariant.0 in
    record {
      moved = past old c.pass-2.new.self _ (omega (arith, all, l.invariant.1)) rest at;
      reads =
          l.invariant.2
          ∙ literal_end word (drop l.i old.rest.now) l.i (old.at + l.i) (omega (arith, all))
          ∙ rw (sym all, sym rest, sym at) refl;
    }

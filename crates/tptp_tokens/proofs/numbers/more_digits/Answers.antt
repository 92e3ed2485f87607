-- `tptp_tokens::numbers::more_digits` meets its contract. The loop's invariant: the digits so far lead from the start to here.
use native.Mathlib.Omega.{arith}
use borrow.Author.Rules.{rules}
use Prim.Native.Nat.{◌+◌, ◌*◌, ◌-◌, ◌≤◌}
use mathlib.Core.Path.{◌≡◌, sym, ap, ◌∙◌}
use Rattle.text.specs.declared.cursor.Cursor.{Cursor}
use lib.ListN.{length, get_or}
use Rattle.laws.specs.Decimal.{digit-range}
use Rattle.tptp_tokens.proofs.NumberLaws.{digits_more, digits_bad, digits-stop, digits_end, digits_done}
use Rattle.tptp_tokens.proofs.numbers.more_digits.Goals as goal

pub returns-then-not-digit : goal.returns-then-not-digit
returns-then-not-digit c =
    let l = c.loop-i in
    let old = c.args.here.now in
    let other = sym c.digit.ensures ∙ c.if-not-digit.true in
    let stop = l.invariant.3 ∙ digits-stop old.rest.now l.i c.args.most l.n old.at c.loop-i-test.true other in (
      digits_done old l.here c.pass.new.self l.i c.args.most c.args.first l.n l.invariant.0 (omega arith) c.pass.ensures.rest
          c.pass.ensures.at stop,
      l.invariant.1,
      l.invariant.2,
    )

pub overflow_sub-raised : goal.overflow_sub-raised
overflow_sub-raised c =
    let range = digit-range _ (sym c.digit.ensures ∙ c.if-not-digit.false) in
    omega (arith, range)

pub returns-then-n-most : goal.returns-then-n-most
returns-then-n-most c =
    let l = c.loop-i in
    let old = c.args.here.now in
    let d = sym c.digit.ensures ∙ c.if-not-digit.false in
    let end = c.pass-then-n-most.ensures.at ∙ ap (λ (h : Cursor). h.at + l.i) l.invariant.0 in
    rw end (l.invariant.3 ∙ digits_bad old.rest.now l.i c.args.most l.n old.at c.loop-i-test.true d (search rules))

pub loop-i-preserved : goal.loop-i-preserved
loop-i-preserved c =
    let l = c.loop-i in
    let old = c.args.here.now in
    let d = sym c.digit.ensures ∙ c.if-not-digit.false in
    let some : 1 ≤ l.n = search rules in
    let few : 10 * l.n + (get_or old.rest.now l.i 0 - 48) ≤ c.args.most = search rules in (
      l.invariant.0,
      omega (arith, l.invariant.1),
      few,
      l.invariant.3 ∙ digits_more old.rest.now l.i c.args.most l.n old.at c.loop-i-test.true d some few,
    )

pub returns : goal.returns
returns c =
    let l = c.loop-i in
    let old = c.args.here.now in
    let all : length old.rest.now ≡ l.i = omega (arith, l.auto.i-end, c.loop-i-test.false) in
    let end = l.invariant.3 ∙ digits_end old.rest.now l.i c.args.most l.n old.at (omega (arith, all)) in (
      digits_done old l.here c.pass-2.new.self _ c.args.most c.args.first l.n l.invariant.0 (omega arith) c.pass-2.ensures.rest
          c.pass-2.ensures.at (rw all end),
      l.invariant.1,
      l.invariant.2,
    )

-- `text::reading::leading` meets its contract. The loop's invariant: all bytes so far are digits, and the number is followed.
use mathlib.Core.Path.{sym, ◌∙◌}
use borrow.Author.Rules.{rules}
use Rattle.model.specs.Bytes.{digit}
use Rattle.text.proofs.ReadingLaws.{counted_none, counted-more, counted_all}
use Rattle.text.proofs.PassingLaws.{stops-at}
use Rattle.text.proofs.reading.leading.Goals as goal

pub loop-count-init : goal.loop-count-init
loop-count-init c = counted_none c.args.text.now

pub returns-then-not-digit : goal.returns-then-not-digit
returns-then-not-digit c =
    let l = c.loop-count in
    record {
      to = l.invariant.to;
      digits = l.invariant.digits;
      stop = stops-at digit c.args.text.now l.count (λ h. sym c.digit.ensures ∙ c.if-not-digit.true);
      follows = l.invariant.follows;
    }

pub loop-count-preserved : goal.loop-count-preserved
loop-count-preserved c =
    let a = c.args in
    counted-more a.text.now c.loop-count.count c.loop-count.magnitude _ c.loop-count.invariant c.loop-count-test.true
    (sym c.digit.ensures ∙ c.if-not-digit.false)
    c.raised-magnitude.ensures

pub returns : goal.returns
returns c = counted_all c.args.text.now c.loop-count.count c.loop-count.magnitude c.loop-count.invariant (search rules)

-- `cases::given::split` meets its contract.
use Rattle.std.proofs.Common.{rules, ◌≤◌, ◌<◌, get_or, arith}
use Rattle.cases.proofs.Splits.{first-stop, first-more, first-end, parted}
use Rattle.cases.proofs.given.split.Goals as goal

pub returns-then-text-i : goal.returns-then-text-i
returns-then-text-i c =
    let stops : get_or c.args.text.now c.loop-i.i 0 ≤ c.args.last = search rules in
    parted _ _ _ c.loop-i-test.true (first-stop _ _ _ c.loop-i.invariant c.loop-i-test.true stops)

pub loop-i-preserved : goal.loop-i-preserved
loop-i-preserved c =
    let above : c.args.last < get_or c.args.text.now c.loop-i.i 0 = search rules in
    first-more _ _ _ c.loop-i.invariant c.loop-i-test.true above

pub returns : goal.returns
returns c = first-end _ _ _ c.loop-i.invariant (omega (arith, c.loop-i.auto.i-end, c.loop-i-test.false))

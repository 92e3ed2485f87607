-- `tptp_binders::tuples::further` meets its contract. The loop's invariant: so many numbers were read and laid.
use native.Mathlib.Omega.{arith}
use Rattle.laws.specs.Answer.{passed_on}
use Rattle.tptp_binders.proofs.TupleLaws.{furthering_none, furthering_stop, furthering_refused, furthering_more, furthering_end}
use Rattle.tptp_binders.proofs.tuples.further.Goals as goal

pub loop-i-init : goal.loop-i-init
loop-i-init c = let a = c.args in furthering_none a.n a.x a.w a.here.now a.out.now

pub returns-in_err-expect : goal.returns-in_err-expect
returns-in_err-expect c =
    let a = c.args in
    rw (passed_on _ c.from_residual.ensures.1)
    (furthering_stop a.n a.x a.w a.here.now a.out.now c.loop-i.invariant c.loop-i-test.true _ _ c.in_err-expect.ensures)

pub returns-in_err-unequal : goal.returns-in_err-unequal
returns-in_err-unequal c =
    let a = c.args in
    rw (passed_on _ c.from_residual-in_err-unequal.ensures.1)
    (furthering_refused a.n a.x a.w a.here.now a.out.now c.loop-i.invariant c.loop-i-test.true c.expect.new.here c.in_ok-expect.ensures
    _ (omega arith) _ _ c.in_err-unequal.ensures)

pub loop-i-preserved : goal.loop-i-preserved
loop-i-preserved c =
    let a = c.args in
    furthering_more a.n a.x a.w a.here.now a.out.now c.loop-i.invariant c.loop-i-test.true c.expect.new.here c.in_ok-expect.ensures
    _ (omega arith) _ c.unequal.new.here c.in_ok-unequal.ensures

pub returns : goal.returns
returns c =
    let a = c.args in
    furthering_end a.n a.x a.w a.here.now a.out.now c.loop-i.invariant (omega (arith, c.loop-i.auto.i-end, c.loop-i-test.false))

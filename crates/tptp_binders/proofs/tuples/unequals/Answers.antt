-- `tptp_binders::tuples::unequals` meets its contract.
use Prim.Native.Nat.{◌-◌}
use Rattle.laws.specs.Answer.{passed_on}
use Rattle.tptp_binders.proofs.TupleLaws.{first-refused, unequals-read}
use Rattle.tptp_binders.proofs.tuples.unequals.Goals as goal

pub returns-in_err-unequal : goal.returns-in_err-unequal
returns-in_err-unequal c =
    let a = c.args in
    rw (passed_on _ c.from_residual.ensures.1) (first-refused (a.v - 1) a.x a.here.now _ _ c.in_err-unequal.ensures)

pub returns : goal.returns
returns c =
    let a = c.args in
    unequals-read a.x a.v a.w a.out.now c.unequal.new.out c.further.new.out c.requires.0 a.here.now c.unequal.new.here c.further.new.here
    c.in_ok-unequal.ensures c.further.result c.further.ensures

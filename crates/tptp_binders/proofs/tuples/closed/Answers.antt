-- `tptp_binders::tuples::closed` meets its contract.
use Rattle.tptp_binders.proofs.TupleLaws.{closing_one, closing_more}
use Rattle.tptp_binders.proofs.tuples.closed.Goals as goal

pub returns-then-v-eq1 : goal.returns-then-v-eq1
returns-then-v-eq1 c = let a = c.args in closing_one 0 a.v a.here.now c.if-v-eq1.true

pub returns : goal.returns
returns c =
    let a = c.args in closing_more 0 a.v a.here.now c.if-v-eq1.false c.expect.new.here c.expect.result c.expect.ensures

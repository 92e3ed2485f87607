-- `tptp_binders::tuples::opened` meets its contract.
use Rattle.tptp_binders.proofs.TupleLaws.{opening_one, opening_more}
use Rattle.tptp_binders.proofs.tuples.opened.Goals as goal

pub returns-then-v-eq1 : goal.returns-then-v-eq1
returns-then-v-eq1 c = let a = c.args in opening_one a.room a.v a.here.now c.if-v-eq1.true

pub returns : goal.returns
returns c =
    let a = c.args in opening_more a.room a.v a.here.now c.if-v-eq1.false c.opening.new.here c.opening.result c.opening.ensures

-- `tptp_reading::formula::read_leaf` meets its contract.
use Rattle.model.specs.Reading.{is_formula}
use Rattle.laws.specs.Answer.{passed_on}
use Rattle.policies.specs.Node.{as_role}
use Rattle.tptp_reading.proofs.OperandLaws.{leaf-refused, leaf-stands, leaf-read}
use Rattle.tptp_reading.proofs.formula.read_leaf.Goals as goal

pub returns-in_err-leaf : goal.returns-in_err-leaf
returns-in_err-leaf c =
    let a = c.args in
    rw (passed_on _ c.from_residual.ensures.1)
    (leaf-refused a.room (is_formula (as_role a.role)) a.scope a.here.now c.requires.1 c.requires.2 _ _ c.in_err-leaf.ensures.reads)

pub settle_leaf-requires : goal.settle_leaf-requires
settle_leaf-requires c =
    let a = c.args in
    let stands =
    leaf-stands a.room (is_formula (as_role a.role)) a.scope a.here.now c.requires.1 c.requires.2 c.in_ok-leaf.ensures.reads in
    (c.requires.0, stands, c.leaf.ensures.kept.long)

pub returns : goal.returns
returns c =
    let a = c.args in
    leaf-read a.room (is_formula (as_role a.role)) a.scope a.here.now c.requires.1 c.requires.2 c.in_ok-leaf.ensures.reads _
    c.settle_leaf.ensures

-- `tptp_reading::formula::implies` meets its contract: the sign of a for-all, and of an exists.
use Rattle.model.specs.Bytes.{bytes}
use Rattle.tptp_reading.proofs.formula.implies.Goals as goal

pub returns-then-every : goal.returns-then-every
unfolding bytes
returns-then-every c = rw c.if-every.true c.token.ensures

pub returns : goal.returns
unfolding bytes
returns c = rw c.if-every.false c.expect.ensures

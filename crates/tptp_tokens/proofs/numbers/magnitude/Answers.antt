-- `tptp_tokens::numbers::magnitude` meets its contract.
use Rattle.tptp_tokens.proofs.NumberLaws.{magnitude-number}
use Rattle.tptp_tokens.proofs.numbers.magnitude.Goals as goal

pub returns : goal.returns
returns c = magnitude-number c.args.here.now c.number.new.here c.number.result c.number.ensures

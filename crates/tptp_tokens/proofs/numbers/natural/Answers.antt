-- `tptp_tokens::numbers::natural` meets its contract.
use Rattle.tptp_tokens.proofs.NumberLaws.{natural-number}
use Rattle.tptp_tokens.proofs.numbers.natural.Goals as goal

pub returns : goal.returns
returns c = natural-number c.args.here.now c.number.new.here c.number.result c.number.ensures

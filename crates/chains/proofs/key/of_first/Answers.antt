-- `chains::key::of_first` meets its contract: both products have less than 61 bits.
use Rattle.chains.proofs.Keys.{first_of}
use Rattle.chains.proofs.key.of_first.Goals as goal

pub returns : goal.returns
returns c = first_of c.args.predicate _ _ c.offset.ensures

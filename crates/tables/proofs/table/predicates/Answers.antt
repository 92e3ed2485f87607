-- `tables::table::predicates` meets its contract: it is the definition.
use mathlib.Core.Path.{refl}
use Rattle.model.specs.Table.{predicates}
use Rattle.tables.proofs.table.predicates.Goals as goal

pub returns : goal.returns
unfolding predicates
returns c = refl

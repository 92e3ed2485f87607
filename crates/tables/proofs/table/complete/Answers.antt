-- `tables::table::complete` meets its contract: it tests the record's third word.
use mathlib.Core.Path.{ap, ◌∙◌}
use lib.IntN.{ℤ, pos}
use Rattle.model.specs.Words.{equal}
use Rattle.model.specs.Table.{complete}
use Rattle.tables.proofs.table.complete.Goals as goal

pub returns : goal.returns
unfolding complete
returns c = c.is.ensures ∙ ap (λ (z : ℤ). equal z (pos 1)) c.index.ensures

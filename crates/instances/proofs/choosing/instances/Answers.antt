-- `instances::choosing::instances` meets its contract, by key or by pairs.
use mathlib.Core.Path.{sym, ◌∙◌}
use Rattle.instances.proofs.KeyLaws.{serves-few}
use Rattle.instances.proofs.choosing.instances.Goals as goal

pub by_key-requires : goal.by_key-requires
by_key-requires c =
    (c.requires.0, c.requires.1, serves-few _ (sym c.table_serves.ensures ∙ c.if-table_serves.true))

-- `tables::table::arity` meets its contract: it reads the record's first word.
use Prim.Native.Nat.{◌*◌}
use native.Mathlib.Nat.{add-zero}
use mathlib.Core.Path.{ap, ◌∙◌}
use lib.IntN.{nat_abs}
use Rattle.model.specs.Words.{record_words, word, value}
use Rattle.model.specs.Table.{arity}
use Rattle.tables.proofs.table.arity.Goals as goal

pub returns : goal.returns
unfolding arity value
returns c =
    let a = c.args in
    c.value.ensures
    ∙ ap nat_abs (c.index.ensures ∙ ap (word a.table.now) (add-zero (record_words * a.p)))

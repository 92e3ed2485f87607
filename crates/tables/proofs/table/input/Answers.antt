-- `tables::table::input` meets its contract: the shift is the division of the definition.
use Prim.Native.Nat.{ℕ, ◌/◌, ◌%◌, ◌^◌}
use mathlib.Core.Path.{ap, ◌∙◌}
use lib.Dec.{eqb}
use lib.IntN.{nat_abs}
use Rattle.model.specs.Words.{value}
use Rattle.model.specs.Table.{input}
use Rattle.tables.proofs.table.input.Goals as goal

pub returns : goal.returns
unfolding input value
returns c =
    let i = c.args.i in
    ap (λ (m : ℕ). eqb (m / 2 ^ i % 2) 1) (c.value.ensures ∙ ap nat_abs c.index.ensures)

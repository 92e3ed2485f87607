-- `csv_reading::record::spells` meets its contract, from the test of the row and the arity of its predicate.
use Prim.Native.Nat.{◌<◌, ◌≤◌}
use native.Mathlib.Omega.{arith}
use mathlib.Core.Path.{◌≡◌, sym, ap, ◌∙◌}
use Rattle.model.specs.Words.{value}
use Rattle.model.specs.Table.{predicates, arity}
use Rattle.laws.specs.LogText.Back.{good-arity}
use Rattle.csv_reading.proofs.RecordLaws.{spells_bad, spells-good}
use Rattle.csv_reading.proofs.record.spells.Goals as goal

pub returns-then-not-good_row : goal.returns-then-not-good_row
returns-then-not-good_row c =
    spells_bad c.args.table.words.now c.args.row.now c.args.fields (sym c.good_row.ensures ∙ c.if-not-good_row.true)

pub overflow_add-result : goal.overflow_add-result
overflow_add-result c =
    let table = c.args.table.words.now in
    let row = c.args.row.now in
    let there : (value row 0 < predicates table) × (arity table (value row 0) ≤ 6) =
    good-arity table c.args.table.accepted row (sym c.good_row.ensures ∙ c.if-not-good_row.false) in
    let arity-is : c.arity.result ≡ arity table (value row 0) = c.arity.ensures ∙ ap (arity table) c.value.ensures in
    omega (arith, arity-is, there.1)

pub returns : goal.returns
returns c =
    let table = c.args.table.words.now in
    let row = c.args.row.now in
    let arity-is : c.arity.result ≡ arity table (value row 0) = c.arity.ensures ∙ ap (arity table) c.value.ensures in
    rw (arity-is) (spells-good table row c.args.fields (sym c.good_row.ensures ∙ c.if-not-good_row.false))

-- `csv_writing::row::put_row` meets its contract: the fields, and the end of the line.
use native.Mathlib.Omega.{arith}
use mathlib.Core.Path.{refl}
use Rattle.csv_writing.proofs.RowLaws.{arity-few, line_adds}
use Rattle.csv_writing.proofs.row.put_row.Goals as goal

pub overflow_add-n : goal.overflow_add-n
overflow_add-n c =
    omega (arith, arity-few c.args.table.words.now c.args.row.now _ _ c.value.ensures c.arity-n.ensures c.args.table.accepted c.requires.1)

pub put_fields-requires : goal.put_fields-requires
put_fields-requires c =
    omega (arith, arity-few c.args.table.words.now c.args.row.now _ _ c.value.ensures c.arity-n.ensures c.args.table.accepted c.requires.1, c.requires)

pub returns : goal.returns
returns c = line_adds c.args.table.words.now c.args.row.now _ _ c.value.ensures c.arity-n.ensures c.put_fields.ensures c.bytes.ensures refl

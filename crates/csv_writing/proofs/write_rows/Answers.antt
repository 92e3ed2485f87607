-- `csv_writing::write_rows` meets its contract. The loop's invariant: the lines of the rows passed stand, and those of the others are left
-- of the text.
use Prim.Native.Nat.{◌/◌}
use lib.ListN.{length}
use Rattle.std.proofs.Common.{rules}
use Rattle.text.proofs.PutLaws.{left_more, left_full, left_end, writes_whole}
use Rattle.csv_writing.proofs.RowLaws.{row-good, lines_start, lines_more, lines_none}
use Rattle.csv_writing.proofs.write_rows.Goals as goal

pub loop-row-init : goal.loop-row-init
loop-row-init c = lines_start c.args.table.words.now c.args.log.now c.new-w.result

pub put_row-requires : goal.put_row-requires
put_row-requires c =
    let g = row-good c.args.table.words.now c.args.log.now c.loop-row.row c.requires c.loop-row-test.true in
    (g.0, g.1)

pub returns-in_err-w : goal.returns-in_err-w
returns-in_err-w c =
    rw (c.from_residual.ensures, ← c.in_err-w.was)
    (writes_whole c.new-w.ensures (left_full c.loop-row.invariant c.in_err-w.was) (search rules))

pub loop-row-preserved : goal.loop-row-preserved
loop-row-preserved c =
    let a = c.args in
    left_more c.loop-row.invariant _ _
    (lines_more a.table.words.now a.log.now c.loop-row.row (length a.log.now / 8) c.loop-row-test.true)
    c.put_row.ensures

pub returns : goal.returns
returns c =
    let a = c.args in
    writes_whole c.new-w.ensures
    (left_end c.loop-row.invariant (lines_none a.table.words.now a.log.now c.loop-row.row (length a.log.now / 8) c.loop-row-test.false))
    (search rules)

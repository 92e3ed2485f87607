-- `csv_writing::row::put_fields` meets its contract: the first field, and those behind it. The loop's invariant: the fields behind the
-- first stand up to the word reached.
use Rattle.text.proofs.PutLaws.{adds_then, adds_is, left_more, left_end}
use Rattle.csv_writing.proofs.RowLaws.{fields-first, behind_more, behind-none}
use Rattle.csv_writing.proofs.row.put_fields.Goals as goal

pub loop-i-preserved : goal.loop-i-preserved
loop-i-preserved c =
    let a = c.args in
    left_more c.loop-i.invariant _ _ (behind_more a.row.now a.n c.loop-i.i c.loop-i-test.true c.requires)
    (adds_then c.bytes.ensures c.word-in-loop-i.ensures)

pub returns : goal.returns
returns c =
    let a = c.args in
    adds_is
    (fields-first a.row.now a.n)
    (adds_then c.word.ensures (left_end c.loop-i.invariant (behind-none a.row.now a.n c.loop-i.i c.loop-i-test.false)))

-- `csv_writing::row::put_fields` meets its contract: the first field, and those behind it. The loop's invariant: the fields behind the
-- first stand up to the word reached.
use Rattle.text.proofs.PutLaws.{Left}
use Rattle.csv_writing.proofs.RowLaws.{behind}
use Rattle.csv_writing.proofs.row.put_fields.Given as goal

abbrev pub invariant-loop-i : goal.invariant-loop-i
invariant-loop-i l = Left (behind l.row l.n 1) (behind l.row l.n l.i) l.initial.w l.w

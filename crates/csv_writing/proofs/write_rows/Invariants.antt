-- `csv_writing::write_rows` meets its contract. The loop's invariant: the lines of the rows passed stand, and those of the others are left
-- of the text.
use Prim.Native.Nat.{◌/◌, ◌-◌}
use lib.ListN.{length}
use Rattle.model.specs.LogText.{log_text}
use Rattle.text.proofs.PutLaws.{Left}
use Rattle.csv_writing.proofs.RowLaws.{lines_from}
use Rattle.csv_writing.proofs.write_rows.Given as goal

abbrev pub invariant-loop-row : goal.invariant-loop-row
invariant-loop-row l = Left (log_text l.table.words.now l.log) (lines_from l.table.words.now l.log l.row (length l.log / 8 - l.row)) l.initial.w l.w

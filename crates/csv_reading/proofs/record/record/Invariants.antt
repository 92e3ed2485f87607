-- `csv_reading::record::record` meets its contract. The loop's invariant: the fields read so far belong to the record, and their numbers
-- make the row.
use lib.ListN.{length}
use Rattle.csv_reading.proofs.RecordLaws.{Held}
use Rattle.csv_reading.proofs.record.record.Given as goal

abbrev pub invariant-loop-value : goal.invariant-loop-value
invariant-loop-value l = Held l.fn.here l.here l.fields l.good l.row

abbrev pub decreases-loop-value : goal.decreases-loop-value
decreases-loop-value l = length l.here.rest.now

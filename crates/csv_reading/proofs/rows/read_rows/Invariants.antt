-- `csv_reading::rows::read_rows` meets its contract. The loop's invariant: the records before this place are read, and their rows stand at
-- the front if they fit.
use mathlib.Core.Path.{◌≡◌}
use lib.ListN.{length}
use Rattle.csv_reading.proofs.RowsLaws.{Gone}
use Rattle.csv_reading.proofs.rows.read_rows.Given as goal

abbrev pub invariant-loop-here : goal.invariant-loop-here
invariant-loop-here l = Gone l.table.words.now l.text l.here l.count l.bad l.rows × (length l.rows ≡ length l.initial.rows)

abbrev pub decreases-loop-here : goal.decreases-loop-here
decreases-loop-here l = length l.here.rest.now

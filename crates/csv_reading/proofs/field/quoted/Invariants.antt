-- `csv_reading::field::quoted` meets its contract. The loop's invariant: the bytes so far stand in quotes, so that the reading goes on there.
use Prim.Native.Nat.{◌-◌}
use mathlib.Core.Path.{◌≡◌}
use lib.ListN.{length}
use Rattle.csv_reading.proofs.FieldLaws.{InQuotes}
use Rattle.csv_reading.proofs.field.quoted.Given as goal

abbrev pub invariant-loop-i : goal.invariant-loop-i
invariant-loop-i l = InQuotes l.here l.i × (l.here ≡ l.fn.here)

abbrev pub decreases-loop-i : goal.decreases-loop-i
decreases-loop-i l = length l.here.rest.now - l.i

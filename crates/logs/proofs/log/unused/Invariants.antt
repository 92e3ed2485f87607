-- `logs::log::unused` meets its contract. The invariant: the test comes to whether the arguments that are not 0 so far stand
-- before the n-th, and the test of those from i on that are unused.
use Prim.Native.Nat.{◌≤◌, max}
use mathlib.Core.Path.{◌≡◌}
use mathlib.Core.Bool.{◌&&◌}
use lib.Dec.{leb}
use Rattle.logs.specs.Log.{unused_from}
use Rattle.logs.proofs.log.unused.Given as goal

abbrev pub invariant-loop-i : goal.invariant-loop-i
invariant-loop-i l = (l.i ≤ 6) × (l.used ≤ l.i) × (unused_from l.row l.n ≡ (leb l.used l.n && unused_from l.row (max l.n l.i)))

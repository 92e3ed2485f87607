-- `instances::closing::closed` meets its contract. The loop's invariant: as many trees as are left stand at the index reached, up to
-- the end of the restriction, and it is closed exactly if these are.
use Prim.Native.Nat.{◌-◌}
use lib.ListN.{length}
use Rattle.instances.proofs.ClosedLaws.{Closing}
use Rattle.instances.proofs.closing.closed.Given as goal

abbrev pub invariant-loop-walk : goal.invariant-loop-walk
invariant-loop-walk l = Closing l.table l.words l.at l.walk

abbrev pub decreases-loop-walk : goal.decreases-loop-walk
decreases-loop-walk l = length l.words - l.walk.at

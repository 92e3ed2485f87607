-- `trees::walk::tree_end` meets its contract. The loop's invariant: as many trees as are left stand at the index reached, up to the
-- end of the tree.
use Prim.Native.Nat.{◌-◌}
use lib.ListN.{length}
use Rattle.trees.proofs.Walking.{Walking}
use Rattle.trees.proofs.walk.tree_end.Given as goal

abbrev pub invariant-loop-walk : goal.invariant-loop-walk
invariant-loop-walk l = Walking l.words l.at l.walk

abbrev pub decreases-loop-walk : goal.decreases-loop-walk
decreases-loop-walk l = length l.words - l.walk.at

-- `trees::putting::put` meets its contract. The loop's invariant: the words of the nodes passed are copied, and the trees that are left
-- stand at the index reached.
use Prim.Native.Nat.{◌-◌}
use lib.ListN.{length}
use Rattle.trees.proofs.TreeWalk.{Treewise}
use Rattle.trees.proofs.putting.put.Given as goal

abbrev pub invariant-loop-walk : goal.invariant-loop-walk
invariant-loop-walk l = Treewise l.numbers l.words l.at l.initial.out l.walk l.out

abbrev pub decreases-loop-walk : goal.decreases-loop-walk
decreases-loop-walk l = length l.words - l.walk.at

-- `duals::dual_words::swap` meets its contract. The loop's invariant: words of the dual, then the old words, where the formulas that are
-- left stand.
use Prim.Native.Nat.{◌-◌}
use lib.ListN.{length, drop}
use Rattle.duals.proofs.DualSwap.{Swapping}
use Rattle.duals.proofs.dual_words.swap.Given as goal

abbrev pub invariant-loop-walk : goal.invariant-loop-walk
invariant-loop-walk l = Swapping l.words (drop (length l.words) l.initial.buffer) l.walk l.buffer

abbrev pub decreases-loop-walk : goal.decreases-loop-walk
decreases-loop-walk l = length l.words - l.walk.at

-- `environments::environment::numbers_at` meets its contract. The loop's invariant: the first i words are there.
use mathlib.Core.Path.{◌≡◌}
use lib.ListN.{length, take, drop}
use Rattle.environments.proofs.environment.numbers_at.Given as goal

abbrev pub invariant-loop-i : goal.invariant-loop-i
invariant-loop-i l = (length l.numbers ≡ 16) × (take l.i l.numbers ≡ take l.i (drop l.at l.words))

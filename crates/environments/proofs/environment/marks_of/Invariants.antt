-- `environments::environment::marks_of` meets its contract. The loop's invariant: the marks so far, and those that the rest of the
-- number has, are the marks asked for.
use Prim.Native.Nat.{◌-◌}
use mathlib.Core.Path.{◌≡◌}
use mathlib.Core.List.{◌++◌}
use lib.ListN.{length, take}
use Rattle.environments.specs.Environment.{unbits}
use Rattle.environments.proofs.environment.marks_of.Given as goal

abbrev pub invariant-loop-mark : goal.invariant-loop-mark
invariant-loop-mark l =
    (length l.mark-items ≡ 16) × (unbits 16 l.word ≡ take l.mark-index l.mark-items ++ unbits (16 - l.mark-index) l.left)

-- `modes::marks::Marks::both` meets its contract. The loop's invariant: the marks below i are those of both sets.
use Prim.Native.Nat.{◌≤◌}
use Rattle.modes.proofs.ModeTerms.{Joining}
use Rattle.modes.proofs.marks.Marks.both.Given as goal

abbrev pub invariant-loop-i : goal.invariant-loop-i
invariant-loop-i l = (l.i ≤ 16) × Joining l.initial.marks l.other.marks l.marks l.i

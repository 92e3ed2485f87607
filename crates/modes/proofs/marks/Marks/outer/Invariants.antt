-- `modes::marks::Marks::outer` meets its contract. The loop's invariant: the marks below i are set, and no others.
use Prim.Native.Nat.{◌≤◌}
use Rattle.modes.proofs.ModeFormulaSets.{Marked}
use Rattle.modes.proofs.marks.Marks.outer.Given as goal

abbrev pub invariant-loop-i : goal.invariant-loop-i
invariant-loop-i l = (l.i ≤ l.scope) × Marked l.marks l.i

-- `nodes::ground::instance` meets its contract. The loop's invariant: the environment so far binds i variables more, to the first
-- i numbers of the instance.
use Prim.Native.Nat.{◌-◌, ◌≤◌}
use Rattle.nodes.proofs.GroundLaws.{Binding}
use Rattle.nodes.proofs.ground.instance.Given as goal

abbrev pub invariant-loop-i : goal.invariant-loop-i
invariant-loop-i l = (l.i ≤ l.v) × Binding l.scratch l.from l.scope l.initial.bound l.bound l.i

abbrev pub decreases-loop-i : goal.decreases-loop-i
decreases-loop-i l = l.v - l.i

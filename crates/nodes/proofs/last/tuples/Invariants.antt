-- `nodes::last::tuples` meets its contract. The loop's invariant: the first j tuples stand one behind another.
use Prim.Native.Nat.{◌+◌, ◌*◌}
use Rattle.nodes.proofs.LastLaws.{Copied}
use Rattle.nodes.proofs.last.tuples.Given as goal

abbrev pub invariant-loop-j : goal.invariant-loop-j
invariant-loop-j l = Copied l.scratch l.v (17 * l.from + l.scope) l.k l.initial.out l.to l.j l.out

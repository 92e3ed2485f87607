-- The proof of the cycle of calls {join, node, operands, quantifier, some}. The measure is three times the levels left: `node`
-- calls the others at its own level, `join` calls `operands` a level down, which calls `node` there, and `quantifier` and
-- `some` call `node` a level down. The loop of `operands`: the operands behind the first stand up to the one reached, whatever
-- nodes they are.
use Prim.Native.Nat.{◌*◌, ◌-◌}
use Rattle.tptp_writing.specs.Printing.{PrintableAll}
use Rattle.tptp_writing.proofs.PrintableLaws.{Headed}
use Rattle.tptp_writing.proofs.WalkLaws.{More}
use Rattle.tptp_writing.proofs.tree.+join_node_operands_quantifier_some.Given as goal

abbrev pub decreases-join : goal.decreases-join
decreases-join l = 191 - 3 * l.depth.level

abbrev pub decreases-node : goal.decreases-node
decreases-node l = 192 - 3 * l.depth.level

abbrev pub decreases-operands : goal.decreases-operands
decreases-operands l = 193 - 3 * l.depth.level

abbrev pub decreases-quantifier : goal.decreases-quantifier
decreases-quantifier l = 191 - 3 * l.depth.level

abbrev pub decreases-some : goal.decreases-some
decreases-some l = 191 - 3 * l.depth.level

abbrev pub invariant-operands-loop : goal.invariant-operands-loop
invariant-operands-loop l =
    (h : PrintableAll l.words l.depth.level l.depth.scope l.n l.at) (f : Headed l.words l.depth.level l.depth.scope l.n l.at h) →
    More l.words l.depth.level l.depth.scope l.n l.at l.every h f l.counter l.initial.w l.w l.next

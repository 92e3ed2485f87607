-- The proof of the cycle of calls {chain, children, excluding, operand, quantifier, restricted, some, whole}. The measure is five times the
-- room for parentheses, and more for those that call others in the same room: one more for `operand`, which calls `quantifier` and `some`
-- there, two for `children`, `excluding` and `restricted`, which call `operand`, three for `chain`, which calls `children`, and four for
-- `whole`, which calls `chain`. All other calls are behind a parenthesis.
-- The loop of `children`: the operands passed are read and told behind the first, and there is fuel for those left.
use Prim.Native.Nat.{◌+◌, ◌*◌}
use lib.ListN.{length}
use Rattle.policies.specs.Node.{as_role}
use Rattle.tptp_reading.proofs.ChildrenLaws.{Joining}
use Rattle.tptp_reading.proofs.formula.+chain_children_excluding_operand_quantifier_restricted_some_whole.Given as goal

abbrev pub decreases-chain : goal.decreases-chain
decreases-chain l = 5 * l.room + 3

abbrev pub decreases-children : goal.decreases-children
decreases-children l = 5 * l.room + 2

abbrev pub decreases-excluding : goal.decreases-excluding
decreases-excluding l = 5 * l.room + 2

abbrev pub decreases-operand : goal.decreases-operand
decreases-operand l = 5 * l.room + 1

abbrev pub decreases-quantifier : goal.decreases-quantifier
decreases-quantifier l = 5 * l.room

abbrev pub decreases-restricted : goal.decreases-restricted
decreases-restricted l = 5 * l.room + 2

abbrev pub decreases-some : goal.decreases-some
decreases-some l = 5 * l.room

abbrev pub decreases-whole : goal.decreases-whole
decreases-whole l = 5 * l.room + 4

abbrev pub invariant-children-loop-marks : goal.invariant-children-loop-marks
invariant-children-loop-marks l =
    Joining l.room l.every l.table (as_role l.role) l.above l.scope l.start l.initial.state l.fn.here l.here l.initial.out l.out l.state l.n

abbrev pub decreases-children-loop-marks : goal.decreases-children-loop-marks
decreases-children-loop-marks l = length l.here.rest.now

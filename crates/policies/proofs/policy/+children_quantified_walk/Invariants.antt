-- The proof of the cycle of calls {children, quantified, walk}. The measure is twice the levels left, and one more for
-- `children` and `quantified`, which call `walk` at their own level; `walk` calls each of the three a level down.
-- The loop of `children`: the nodes left tell what all of them do, given the greatest level of those behind.
use Prim.Native.Nat.{◌*◌, ◌-◌, ◌≤◌}
use lib.ListN.{length}
use Rattle.policies.specs.Node.{as_role}
use Rattle.policies.proofs.PolicyRead.{Left}
use Rattle.policies.proofs.policy.+children_quantified_walk.Given as goal

abbrev pub decreases-children : goal.decreases-children
decreases-children l = 131 - 2 * l.depth.level

abbrev pub decreases-quantified : goal.decreases-quantified
decreases-quantified l = 131 - 2 * l.depth.level

abbrev pub decreases-walk : goal.decreases-walk
decreases-walk l = 130 - 2 * l.depth.level

abbrev pub invariant-children-loop : goal.invariant-children-loop
invariant-children-loop l =
    (l.counter ≤ l.n)
    × (l.next ≤ length l.words)
    × (l.depth.level ≤ l.level)
    × Left l.table l.words (as_role l.role) l.depth.level l.depth.scope l.n l.at l.counter l.next l.level

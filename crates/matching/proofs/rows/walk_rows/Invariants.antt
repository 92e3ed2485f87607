-- `matching::rows::walk_rows` meets its contract. The invariant: the rows passed made the environments that stand in the
-- places filled, and the link is that of the rows left of the chain. The measure is the link, which falls along a chain.
use Prim.Native.Nat.{◌≤◌}
use Rattle.model.specs.Listing.{Environment}
use Rattle.policies.specs.Standing.{terms_at}
use Rattle.environments.specs.Environment.{Holds}
use Rattle.matching.proofs.RowLaws.{Walk, SoFar}
use Rattle.matching.proofs.rows.walk_rows.Given as goal

abbrev pub invariant-loop-link : goal.invariant-loop-link
invariant-loop-link l =
    (w : Walk l.log l.links l.way.keys l.way.key l.link)
    × (l.made ≤ l.left)
    × ((e : Environment) →
    Holds l.environment e →
    SoFar l.log l.predicate (terms_at l.terms.words.now l.terms.first l.terms.n) e w.key l.way.key w.from l.base l.made l.initial.scratch l.scratch)

abbrev pub decreases-loop-link : goal.decreases-loop-link
decreases-loop-link l = l.link

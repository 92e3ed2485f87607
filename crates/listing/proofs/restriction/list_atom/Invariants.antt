-- `listing::restriction::list_atom` meets its contract. The invariant: what the environments before the i-th gave stands from the
-- first free place on.
use Prim.Native.Nat.{◌+◌, ◌-◌, ◌≤◌}
use mathlib.Core.List.{List}
use Rattle.model.specs.Log.{rows}
use Rattle.model.specs.Listing.{Environment, matches}
use Rattle.policies.specs.Standing.{terms_at}
use Rattle.listing.specs.Restrictions as R
use Rattle.listing.proofs.MapLaws.{Mapping}
use Rattle.listing.proofs.restriction.list_atom.Given as goal

abbrev pub invariant-loop-i : goal.invariant-loop-i
invariant-loop-i l =
    (l.made ≤ l.room.limit - l.room.used)
    × ((es : List Environment) →
    R.Holding l.room l.initial.scratch es →
    Mapping (λ e. matches (rows l.log.rows.now) l.predicate (terms_at l.words (l.at + 3) l.n) e) es l.i l.room.base l.made l.initial.scratch l.scratch)

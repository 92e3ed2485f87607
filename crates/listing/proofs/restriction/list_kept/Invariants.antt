-- `listing::restriction::list_kept` meets its contract. The invariant: the environments kept of those before the i-th stand from
-- the first free place on.
use Prim.Native.Nat.{ℕ, ◌-◌, ◌≤◌}
use mathlib.Core.List.{List}
use Rattle.model.specs.Log.{rows}
use Rattle.model.specs.Tree.{Tree}
use Rattle.model.specs.Level.{restriction}
use Rattle.model.specs.Listing.{Environment}
use Rattle.laws.specs.Reading.Nodes.{Node}
use Rattle.listing.specs.Keeping.{keeps_of}
use Rattle.listing.specs.Restrictions as R
use Rattle.listing.proofs.MapLaws.{Mapping}
use Rattle.listing.proofs.LeafLaws.{kept}
use Rattle.listing.proofs.restriction.list_kept.Given as goal

abbrev pub invariant-loop-i : goal.invariant-loop-i
invariant-loop-i l =
    (l.made ≤ l.room.limit - l.room.used)
    × ((es : List Environment) →
    R.Holding l.room l.initial.scratch es →
    (above scope : ℕ) (t : Tree) (next : ℕ) →
    Node l.log.table.now l.words restriction above scope l.at t next →
    Mapping (kept (keeps_of l.log.table.now (rows l.log.rows.now) t)) es l.i l.room.base l.made l.initial.scratch l.scratch)

-- Lists made in a room: they ran out of places, or stand in the first free ones.
use Prim.Native.Nat.{ℕ, ◌+◌, ◌*◌, ◌-◌, ◌≤◌, ◌<◌}
use native.Mathlib.Omega.{arith}
use mathlib.Core.Path.{◌≡◌, sym, ap, ◌∙◌, subst}
use mathlib.Core.List.{List}
use lib.ListN.{length, take}
use lib.Seq.{take-take}
use Rattle.model.specs.Words.{Words}
use Rattle.model.specs.Lists.{gather}
use Rattle.model.specs.Listing.{Environment}
use Rattle.listing.specs.declared.room.Room.{Room}
use Rattle.listing.specs.declared.room.Made.{Made}
use Rattle.std.specs.Prelude.{Option, None, Some}
use Rattle.environments.specs.Listed.{Listed}
use Rattle.environments.proofs.ListedLaws.{environment_of}
use Rattle.matching.specs.Rows.{Adds}
use Rattle.listing.specs.Restrictions.{Holding, Placed, Tells, Filled}
use Rattle.listing.proofs.MapLaws.{Mapping, map-short, map_end}

-- where the list stands
pub map_placed : {room : Room} {made next : ℕ} {m : Made} → Filled room made m.room → m.next ≡ next → Placed room next m
map_placed e behind = record {
  low = omega (arith, e.is-from);
  free = omega (arith, e.is-from, e.is-count, e.is-base);
  limit = e.is-limit;
  behind = behind;
}

module _
    {f : Environment → List Environment} {es : List Environment} {i : ℕ} {room : Room} {made : ℕ} {before scratch : Words}
    (s : Mapping f es i room.base made before scratch) (few : made ≤ room.limit - room.used) (h : Holding room before es) where
  -- the places ran out at the i-th environment
  pub map_ran_out :
      i < room.count →
      {after : Words} →
      length after ≡ length before →
      Adds (f (environment_of es i)) (room.base + made) (room.limit - room.used - made) scratch after None →
      Tells (gather f es) (length (gather f es)) room before after None
  map_ran_out inside {after} long adds =
      let n = h.long in
      let b = room.within in
      let short = map-short s (room.limit - room.used - made) (omega arith) adds.came in
      record {
        told = omega arith;
        long = long;
        front =
            sym (take-take (17 * room.base) (17 * (room.base + made)) after (omega arith))
            ∙ ap (take (17 * room.base)) adds.front
            ∙ take-take (17 * room.base) (17 * (room.base + made)) scratch (omega arith)
            ∙ s.front;
      }

  -- all environments gave what they give: the list stands in the first free places
  pub map_stood :
      room.count ≤ i →
      length scratch ≡ length before →
      {m : Made} →
      Filled room made m.room →
      Tells (gather f es) (length (gather f es)) room before scratch (Some m)
  map_stood all long {m} e =
      let n = h.long in
      let (count, listed) = map_end s (omega arith) in
      record {
        told = record {
          counted = omega (arith, e.is-used, count);
          high = omega (arith, e.is-base, count);
          holds = record { listed = subst (λ (k : ℕ). Listed scratch k (gather f es)) (sym e.is-from) listed; long = count ∙ sym e.is-count };
        };
        long = long;
        front = s.front;
      }

-- the same of other names of the list and its cost
pub makes_same :
    {made other : List Environment} {cost same : ℕ} {room : Room} {before after : Words} {r : Option Made} →
    made ≡ other →
    cost ≡ same →
    Tells made cost room before after r →
    Tells other same room before after r
makes_same {made} {same = same} {room} {before} {after} {r} e f m =
    subst (λ (l : List Environment). Tells l same room before after r) e (subst (λ (k : ℕ). Tells made k room before after r) f m)

pub at-list :
    {made other : List Environment} {room : Room} {before after : Words} {r : Option Made} →
    made ≡ other →
    Tells made (length made) room before after r →
    Tells other (length other) room before after r
at-list e m = makes_same e (ap length e) m

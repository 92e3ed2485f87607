-- The children of an all-of, one after another: those passed made the list that is handed to those left.
use Prim.Native.Nat.{ℕ, ◌+◌, ◌*◌, ◌-◌, ◌≤◌, ◌<◌}
use native.Mathlib.Omega.{arith}
use mathlib.Core.Path.{◌≡◌, refl, sym, ap, ◌∙◌, subst}
use mathlib.Core.Bool.{true}
use mathlib.Core.List.{List}
use lib.ListN.{length, take}
use lib.Seq.{take-take}
use Rattle.model.specs.Words.{Words}
use Rattle.model.specs.Log.{rows}
use Rattle.model.specs.Tree.{Tree, Trees, join, nil, cons}
use Rattle.model.specs.Listing.{Environment, list, list_all, entries, entries_all}
use Rattle.environments.specs.Listed.{Listed}
use Rattle.listing.specs.declared.room.Room.{Room}
use Rattle.listing.specs.declared.room.Made.{Made}
use Rattle.std.specs.Prelude.{Option, None, Some}
use Rattle.listing.specs.Restrictions.{Holding, Placed, Tells, MakesTree, Counted}

-- words up to a place, given those up to a later one
pub fewer : (before after : Words) (k n : ℕ) → k ≤ n → take n after ≡ take n before → take k after ≡ take k before
fewer before after k n h e = sym (take-take k n after h) ∙ ap (take k) e ∙ take-take k n before h

-- where the list stands that is handed on, i children having been passed
pub record AllPlace (room : Room) (i : ℕ) (to : Room) : Type 0 where
  pub limit : to.limit ≡ room.limit
  pub base : room.base ≤ to.base
  pub low : 1 ≤ i → room.base ≤ to.from
  pub free : 1 ≤ i → to.base ≡ to.from + to.count

pub all_place : (room : Room) → AllPlace room 0 room
all_place room = record { limit = refl; base = omega arith; low = λ l. absurd (omega arith); free = λ l. absurd (omega arith) }

pub all-placed : {room to : Room} {i next : ℕ} {m : Made} → AllPlace room i to → Placed to next m → AllPlace room (i + 1) m.room
all-placed p q = record { limit = q.limit ∙ p.limit; base = omega (arith, p.base, q.low, q.free); low = λ l. omega (arith, p.base, q.low); free = λ l. q.free }

-- the children `ts` of which `rest` are left, in a room that the last list was handed on in
pub record AllFar (table log : Words) (scope : ℕ) (ts rest : Trees) (es : List Environment) (room : Room) (before : Words) (to : Room) (scratch : Words) : Type 0 where
  pub handed : List Environment
  pub cost : ℕ
  pub lists : list_all table (rows log) ts scope es ≡ list_all table (rows log) rest scope handed
  pub costs : entries_all table (rows log) ts scope es ≡ cost + entries_all table (rows log) rest scope handed
  pub used : to.used ≡ room.used + cost
  pub high : to.base ≤ room.base + cost
  pub holds : Holding to scratch handed
  pub front : take (17 * room.base) scratch ≡ take (17 * room.base) before

module _ (table log : Words) (scope : ℕ) (ts : Trees) (es : List Environment) (room : Room) (before : Words) where
  pub all_start : Holding room before es → AllFar table log scope ts ts es room before room before
  all_start h = record { handed = es; cost = 0; lists = refl; costs = omega arith; used = omega arith; high = omega arith; holds = h; front = refl }

  -- what is told of the all-of
  abbrev AllTells : (after : Words) (r : Option Made) → Type 0
  AllTells after r = Tells (list table (rows log) (join true ts) scope es) (entries table (rows log) (join true ts) scope es) room before after r

  module _
      (rest : Trees) (i : ℕ) (to : Room) (scratch : Words) (place : AllPlace room i to)
      (far : AllFar table log scope ts rest es room before to scratch) (long : length scratch ≡ length before)
    where
      module _ (t : Tree) (us : Trees) (is : rest ≡ cons t us) (next : ℕ) (after : Words) where
        abbrev cost_of : ℕ
        cost_of = entries table (rows log) t scope far.handed

        costs_cons : entries_all table (rows log) ts scope es ≡ far.cost + (cost_of + entries_all table (rows log) us scope (list table (rows log) t scope far.handed))
        unfolding entries_all
        costs_cons = far.costs ∙ ap (λ (l : Trees). far.cost + entries_all table (rows log) l scope far.handed) is

        front_kept : take (17 * to.base) after ≡ take (17 * to.base) scratch → take (17 * room.base) after ≡ take (17 * room.base) before
        front_kept e =
            let low = place.base in
            fewer scratch after (17 * room.base) (17 * to.base) (omega arith) e ∙ far.front

        -- the child made its list
        pub all-step : (m : Made) → MakesTree table log t scope next to scratch after (Some m) → AllFar table log scope ts us es room before m.room after
        unfolding list_all entries_all
        all-step m makes =
            let tells = makes.1 far.handed far.holds in
            let stood = tells.told in record {
              handed = list table (rows log) t scope far.handed;
              cost = far.cost + cost_of;
              lists = far.lists ∙ ap (λ (l : Trees). list_all table (rows log) l scope far.handed) is;
              costs = omega (arith, costs_cons);
              used = omega (arith, stood.counted, far.used);
              high = omega (arith, stood.high, far.high);
              holds = stood.holds;
              front = front_kept tells.front;
            }

        -- the places ran out
        pub all_short : MakesTree table log t scope next to scratch after None → AllTells after None
        unfolding entries
        all_short makes =
            let tells = makes.1 far.handed far.holds in
            let short : to.limit < to.used + cost_of = tells.told in
            record { told = omega (arith, short, far.used, place.limit, costs_cons); long = tells.long ∙ long; front = front_kept tells.front }

      -- no child is left: the last list is counted once more
      module _ (none : rest ≡ nil) where
        all_list : list table (rows log) (join true ts) scope es ≡ far.handed
        unfolding list list_all
        all_list = far.lists ∙ ap (λ (l : Trees). list_all table (rows log) l scope far.handed) none

        all-cost : entries table (rows log) (join true ts) scope es ≡ far.cost + to.count
        unfolding entries entries_all
        all-cost =
            let c : entries_all table (rows log) ts scope es ≡ far.cost + 0 =
            far.costs ∙ ap (λ (l : Trees). far.cost + entries_all table (rows log) l scope far.handed) none in
            let n : length (list table (rows log) (join true ts) scope es) ≡ to.count = ap length all_list ∙ far.holds.long in
            omega arith

        pub all-full : to.limit - to.used < to.count → AllTells scratch None
        all-full h = record { told = omega (arith, h, far.used, place.limit, all-cost); long = long; front = far.front }

        pub all_end : {m : Made} → Counted to m.room → AllTells scratch (Some m)
        all_end {m} e = record {
          told = record {
            counted = omega (arith, e.is-used, far.used, all-cost);
            high = omega (arith, e.is-base, far.high, all-cost);
            holds = record {
              listed =
                  subst (λ (k : ℕ). Listed scratch k (list table (rows log) (join true ts) scope es)) (sym e.is-from)
                  (subst (Listed scratch to.from) (sym all_list) far.holds.listed);
              long = ap length all_list ∙ far.holds.long ∙ sym e.is-count;
            };
          };
          long = long;
          front = far.front;
        }

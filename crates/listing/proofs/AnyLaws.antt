-- The branches of an any-of, one after another: the lists of those passed stand one behind another from the first free place on.
use Prim.Native.Nat.{ℕ, ◌+◌, ◌*◌, ◌-◌, ◌≤◌, ◌<◌}
use native.Mathlib.Omega.{arith}
use mathlib.Core.Path.{◌≡◌, refl, sym, ap, ◌∙◌, subst}
use mathlib.Core.Bool.{false}
use mathlib.Core.List.{List, [], ◌++◌, append_assoc, append-nil}
use lib.ListN.{length, take, length-append}
use Rattle.model.specs.Words.{Words}
use Rattle.model.specs.Log.{rows}
use Rattle.model.specs.Tree.{Tree, Trees, join, nil, cons}
use Rattle.model.specs.Listing.{Environment, list, list_any, entries, entries_any}
use Rattle.listing.specs.declared.room.Room.{Room}
use Rattle.listing.specs.declared.room.Made.{Made}
use Rattle.std.specs.Prelude.{Option, None, Some}
use Rattle.environments.specs.Listed.{Listed}
use Rattle.environments.proofs.ListedLaws.{listed-none, listed_kept}
use Rattle.environments.specs.Lists.{Moved}
use Rattle.environments.proofs.ListsLaws.{listed-append, outside-front}
use Rattle.listing.specs.Restrictions.{Holding, Tells, MakesTree, NextBranch, Joined}
use Rattle.listing.proofs.AllLaws.{fewer}

-- the room for the next branch, which is handed the list that all are handed
pub record AnyPlace (room branch : Room) : Type 0 where
  pub from : branch.from ≡ room.from
  pub count : branch.count ≡ room.count
  pub limit : branch.limit ≡ room.limit
  pub base : room.base ≤ branch.base

pub any_place : (room : Room) → AnyPlace room room
any_place room = record { from = refl; count = refl; limit = refl; base = omega arith }

pub any-placed : {room branch passed : Room} (to : Room) → AnyPlace room branch → NextBranch branch to passed → AnyPlace room passed
any-placed to p e = record {
  from = e.is-from ∙ p.from;
  count = e.is-count ∙ p.count;
  limit = e.is-limit ∙ p.limit;
  base = omega (arith, p.base, e.is-base);
}

-- the branches `ts` of which `rest` are left, in the room for the next one
pub record AnyFar (table log : Words) (scope : ℕ) (ts rest : Trees) (es : List Environment) (room : Room) (before : Words) (branch : Room) (scratch : Words) : Type 0 where
  pub done : List Environment
  pub cost : ℕ
  pub lists : list_any table (rows log) ts scope es ≡ done ++ list_any table (rows log) rest scope es
  pub costs : entries_any table (rows log) ts scope es ≡ cost + entries_any table (rows log) rest scope es
  pub used : branch.used ≡ room.used + cost
  pub base : branch.base ≡ room.base + length done
  pub few : length done ≤ cost
  pub listed : Listed scratch room.base done
  pub front : take (17 * room.base) scratch ≡ take (17 * room.base) before

module _ (table log : Words) (scope : ℕ) (ts : Trees) (es : List Environment) (room : Room) (before : Words) where
  pub any-start : AnyFar table log scope ts ts es room before room before
  any-start = record {
    done = [];
    cost = 0;
    lists = refl;
    costs = omega arith;
    used = omega arith;
    base = omega arith;
    few = omega arith;
    listed = listed-none before room.base;
    front = refl;
  }

  -- what is told of the any-of
  abbrev AnyTells : (after : Words) (r : Option Made) → Type 0
  AnyTells after r = Tells (list table (rows log) (join false ts) scope es) (entries table (rows log) (join false ts) scope es) room before after r

  module _
      (h : Holding room before es) (rest : Trees) (branch : Room) (scratch : Words) (place : AnyPlace room branch)
      (far : AnyFar table log scope ts rest es room before branch scratch) (long : length scratch ≡ length before)
    where
      -- the list handed in still stands
      any-holds : Holding branch scratch es
      any-holds =
          let b = room.before in
          let n = h.long in
          record {
            listed =
                subst (λ (k : ℕ). Listed scratch k es) (sym place.from)
                (listed_kept before room.from scratch es h.listed
                (fewer before scratch (17 * (room.from + length es)) (17 * room.base) (omega arith) far.front));
            long = h.long ∙ sym place.count;
          }

      module _ (t : Tree) (us : Trees) (is : rest ≡ cons t us) (next : ℕ) (after : Words) where
        abbrev cost_of : ℕ
        cost_of = entries table (rows log) t scope es

        abbrev made : List Environment
        made = list table (rows log) t scope es

        costs_cons : entries_any table (rows log) ts scope es ≡ far.cost + (cost_of + entries_any table (rows log) us scope es)
        unfolding entries_any
        costs_cons = far.costs ∙ ap (λ (l : Trees). far.cost + entries_any table (rows log) l scope es) is

        -- the branch made its list, which was moved down to the first free places
        pub any_step :
            (m : Made) → MakesTree table log t scope next branch scratch after (Some m) →
            (last : Words) → Moved after last m.room.from m.room.count branch.base →
            {passed : Room} → NextBranch branch m.room passed → AnyFar table log scope ts us es room before passed last
        unfolding list_any
        any_step m (placed, makes) last moved e =
            let tells = makes es any-holds in
            let stood = tells.told in
            let n : length made ≡ m.room.count = stood.holds.long in
            let same : (j : ℕ) → j ≤ 17 * branch.base → take j last ≡ take j scratch =
            λ j b. outside-front after last branch.base m.room.count moved.outside j b ∙ fewer scratch after j (17 * branch.base) b tells.front in
            let more : length (far.done ++ made) ≡ length far.done + m.room.count = length-append far.done made ∙ ap (λ (j : ℕ). length far.done + j) n in
            record {
              done = far.done ++ made;
              cost = far.cost + cost_of;
              lists =
                  far.lists
                  ∙ ap (λ (l : Trees). far.done ++ list_any table (rows log) l scope es) is
                  ∙ sym (append_assoc far.done made (list_any table (rows log) us scope es));
              costs = omega (arith, costs_cons);
              used = omega (arith, e.is-used, stood.counted, far.used);
              base = omega (arith, e.is-base, far.base, more);
              few = omega (arith, more, far.few, placed.low, placed.free, stood.high);
              listed =
                  listed-append last room.base far.done made
                  (listed_kept scratch room.base last far.done far.listed (same (17 * (room.base + length far.done)) (omega (arith, far.base))))
                  (subst (λ (j : ℕ). Listed last j made) far.base (moved.listed made stood.holds.listed n));
              front = same (17 * room.base) (omega (arith, place.base)) ∙ far.front;
            }

        -- the places ran out
        pub any-short : MakesTree table log t scope next branch scratch after None → AnyTells after None
        unfolding entries
        any-short (placed, makes) =
            let tells = makes es any-holds in
            let short : branch.limit < branch.used + cost_of = tells.told in
            record {
              told = omega (arith, short, far.used, place.limit, costs_cons);
              long = tells.long ∙ long;
              front = fewer scratch after (17 * room.base) (17 * branch.base) (omega (arith, place.base)) tells.front ∙ far.front;
            }

      -- no branch is left
      module _ (none : rest ≡ nil) where
        any-list : list table (rows log) (join false ts) scope es ≡ far.done
        unfolding list list_any
        any-list = far.lists ∙ ap (λ (l : Trees). far.done ++ list_any table (rows log) l scope es) none ∙ append-nil far.done

        any-cost : entries table (rows log) (join false ts) scope es ≡ far.cost + length far.done
        unfolding entries entries_any
        any-cost =
            let c : entries_any table (rows log) ts scope es ≡ far.cost + 0 =
            far.costs ∙ ap (λ (l : Trees). far.cost + entries_any table (rows log) l scope es) none in
            let n : length (list table (rows log) (join false ts) scope es) ≡ length far.done = ap length any-list in
            omega arith

        pub any-full : branch.limit - branch.used < branch.base - room.base → AnyTells scratch None
        any-full l = record { told = omega (arith, l, far.used, place.limit, far.base, any-cost); long = long; front = far.front }

        pub any_end : {m : Made} → Joined branch room.base (branch.base - room.base) m.room → AnyTells scratch (Some m)
        any_end {m} e = record {
          told = record {
            counted = omega (arith, e.is-used, far.used, far.base, any-cost);
            high = omega (arith, e.is-base, far.base, any-cost);
            holds = record {
              listed =
                  subst (λ (k : ℕ). Listed scratch k (list table (rows log) (join false ts) scope es)) (sym e.is-from)
                  (subst (Listed scratch room.base) (sym any-list) far.listed);
              long = omega (arith, ap length any-list, e.is-count, far.base);
            };
          };
          long = long;
          front = far.front;
        }

-- The list of a "some": its child's list with the variable dropped in each environment, counted once more.
use Prim.Native.Nat.{ℕ, ◌+◌, ◌*◌, ◌-◌, ◌<◌}
use native.Mathlib.Omega.{arith}
use mathlib.Core.Path.{◌≡◌, sym, ◌∙◌, subst}
use mathlib.Core.List.{List, map}
use lib.ListN.{length, take, length-map}
use Rattle.model.specs.Words.{Words}
use Rattle.model.specs.Log.{rows}
use Rattle.model.specs.Tree.{Tree, some}
use Rattle.model.specs.Listing.{Environment, release, list, entries}
use Rattle.environments.specs.Listed.{Listed}
use Rattle.listing.specs.declared.room.Room.{Room}
use Rattle.listing.specs.declared.room.Made.{Made}
use Rattle.std.specs.Prelude.{None, Some}
use Rattle.environments.specs.Lists.{Released}
use Rattle.environments.proofs.ListsLaws.{outside-front}
use Rattle.listing.specs.Restrictions.{Holding, ListStands, MakesTree, Counted}

module _ (table log : Words) (scope : ℕ) (c : Tree) (room : Room) (before after : Words) (next : ℕ) where
  -- the places ran out in the child
  pub some-short : MakesTree table log c (scope + 1) next room before after None → MakesTree table log (some c) scope next room before after None
  unfolding entries
  some-short makes = (
    tt,
    λ es h.
        let tells = makes.1 es h in
        let short : room.limit < room.used + entries table (rows log) c (scope + 1) es = tells.told in
        record { told = omega arith; long = tells.long; front = tells.front },
  )

  module _
      (m : Made) (makes : MakesTree table log c (scope + 1) next room before after (Some m)) (last : Words)
      (drops : (es : List Environment) → Listed after m.room.from es → length es ≡ m.room.count → Released scope after last m.room.from es)
    where
      module _ (es : List Environment) (h : Holding room before es) where
        abbrev made : List Environment
        made = list table (rows log) c (scope + 1) es

        abbrev cost : ℕ
        cost = entries table (rows log) c (scope + 1) es

        stood : ListStands made cost room after m.room
        stood = (makes.1 es h).told

        released : Released scope after last m.room.from made
        released = drops made stood.holds.listed stood.holds.long

        some-long : length last ≡ length before
        some-long = released.outside.long ∙ (makes.1 es h).long

        some-front : take (17 * room.base) last ≡ take (17 * room.base) before
        some-front =
            let l = makes.0.low in
            outside-front after last m.room.from (length made) released.outside (17 * room.base) (omega arith) ∙ (makes.1 es h).front

        some-cost : entries table (rows log) (some c) scope es ≡ cost + m.room.count
        unfolding entries list
        some-cost =
            let n : length (map (λ e. release e scope) made) ≡ m.room.count = length-map made (λ e. release e scope) ∙ stood.holds.long in
            omega arith

      pub some-full : m.room.limit - m.room.used < m.room.count → MakesTree table log (some c) scope next room before last None
      some-full full = (
        tt,
        λ es h. record {
          told = omega (arith, full, (stood es h).counted, makes.0.limit, some-cost es h);
          long = some-long es h;
          front = some-front es h;
        },
      )

      pub some_end : {to : Made} → Counted m.room to.room → to.next ≡ m.next → MakesTree table log (some c) scope next room before last (Some to)
      unfolding list
      some_end {to} e behind = (
        record {
          low = omega (arith, e.is-from, makes.0.low);
          free = omega (arith, e.is-base, e.is-from, e.is-count, makes.0.free);
          limit = e.is-limit ∙ makes.0.limit;
          behind = behind ∙ makes.0.behind;
        },
        λ es h.
            let s = stood es h in record {
              told = record {
                counted = omega (arith, e.is-used, s.counted, some-cost es h);
                high = omega (arith, e.is-base, s.high, some-cost es h);
                holds = record {
                  listed = subst (λ (k : ℕ). Listed last k (map (λ d. release d scope) (made es h))) (sym e.is-from) (released es h).listed;
                  long = length-map (made es h) (λ d. release d scope) ∙ s.holds.long ∙ sym e.is-count;
                };
              };
              long = some-long es h;
              front = some-front es h;
            },
      )

-- The children of an all-of (true) or the branches of an any-of, one after another: what is known after i of them, one more of them, the
-- places run out, and the end.
use Prim.Native.Nat.{ℕ, ◌+◌, ◌*◌, ◌≤◌, ◌<◌}
use native.Mathlib.Omega.{arith}
use mathlib.Core.Path.{◌≡◌, sym, ap, ◌∙◌, subst}
use mathlib.Core.Bool.{Bool, true, false}
use mathlib.Core.List.{List}
use lib.ListN.{length}
use Rattle.model.specs.Words.{Words}
use Rattle.model.specs.Log.{rows}
use Rattle.model.specs.Tree.{Tree, Trees, join, nil, cons, count}
use Rattle.model.specs.Level.{restriction}
use Rattle.model.specs.Listing.{Environment, list, entries}
use Rattle.laws.specs.Reading.Nodes.{Node, Nodes}
use Rattle.laws.specs.Reading.Parts.{first-parts, rest-parts}
use Rattle.policies.specs.Standing.{Here, HereAll}
use Rattle.policies.proofs.Standing.{first-left, none_left}
use Rattle.listing.specs.declared.room.Room.{Room}
use Rattle.listing.specs.declared.room.Made.{Made}
use Rattle.std.specs.Prelude.{Option, Some, None, IfSome}
use Rattle.listing.specs.Restrictions.{Holding, Placed, Tells, MakesTree, MakesNode, MakesJoin, Passing, Passed, Closes}
use Rattle.listing.proofs.AllLaws.{AllPlace, all_place, all-placed, AllFar, all_start, all-step, all_short, all-full, all_end}
use Rattle.listing.proofs.AnyLaws.{AnyPlace, any_place, any-placed, AnyFar, any-start, any_step, any-short, any-full, any_end}

-- the room for the next child; and the lists that those passed made of a list
abbrev pub Place : (every : Bool) (room : Room) (i : ℕ) (handed : Room) → Type 0
Place true room i handed = AllPlace room i handed
Place false room i handed = AnyPlace room handed

abbrev pub Far :
    (every : Bool) (table log : Words) (scope : ℕ) (ts rest : Trees) (es : List Environment) (room : Room) (before : Words) (handed : Room)
    (scratch : Words) → Type 0
Far true table log scope ts rest es room before handed scratch = AllFar table log scope ts rest es room before handed scratch
Far false table log scope ts rest es room before handed scratch = AnyFar table log scope ts rest es room before handed scratch

-- i children have been passed, and those left stand at the index reached
abbrev pub SoFar :
    (every : Bool) (table words log : Words) (above scope n at : ℕ) (room : Room) (before : Words) (i next : ℕ) (handed : Room)
    (scratch : Words) → Type 0
SoFar every table words log above scope n at room before i next handed scratch =
    Place every room i handed
    × ((ts : Trees) (end : ℕ) →
    Nodes table words restriction above scope at ts end →
    count ts ≡ n →
    (rest : Trees)
    × Nodes table words restriction above scope next rest end
    × (count rest + i ≡ n)
    × ((es : List Environment) → Holding room before es → Far every table log scope ts rest es room before handed scratch))

module _ (table words log : Words) (above scope n at : ℕ) (room : Room) (before : Words) where
  pub join_first : (every : Bool) → SoFar every table words log above scope n at room before 0 at room before
  join_first true = (all_place room, λ ts end s e. (ts, s, omega arith, λ es h. all_start table log scope ts es room before h))
  join_first false = (any_place room, λ ts end s e. (ts, s, omega arith, λ es h. any-start table log scope ts es room before))

  module _
      (here : HereAll table words restriction above scope n at) (i next : ℕ) (handed : Room) (scratch : Words)
      (long : length scratch ≡ length before) (every : Bool)
      (far : SoFar every table words log above scope n at room before i next handed scratch)
    where
      -- the next child of those left
      next_child :
          (rest : Trees) (end : ℕ) → count rest + i ≡ n → i < n → Nodes table words restriction above scope next rest end →
          (t : Tree) × (us : Trees) × (behind : ℕ) × (rest ≡ cons t us) × Node table words restriction above scope next t behind
          × Nodes table words restriction above scope behind us end × (count us + (i + 1) ≡ n)
      unfolding count
      next_child rest end left h s =
          let (t, us, q) = first-left table words above scope next n i rest end left h s in
          let s' = subst (λ (l : Trees). Nodes table words restriction above scope next l end) q s in
          (t, us, _, q, first-parts table words restriction above scope next end t us s', rest-parts table words restriction above scope next end t us s', omega (arith, ap count q))

      -- what the walk of the next child asks
      pub join_asks : i < n → Here table words restriction above scope next
      join_asks h =
          let (ts, end, e, s) = here in
          let (rest, s', left, f) = far.1 ts end s e in
          let (t, us, behind, q, node, s'', l) = next_child rest end left h s' in
          (t, behind, node)

      -- the room in scratch
      pub join_room : 17 * room.limit ≤ length before → 17 * handed.limit ≤ length scratch
      join_room there = omega (arith, limit every far.0, long)
        where
          limit : (every : Bool) → Place every room i handed → handed.limit ≡ room.limit
          limit true p = p.limit
          limit false p = p.limit

      -- the places ran out in it
      pub join-stop :
          i < n → (after : Words) → MakesNode table words log above scope next handed scratch after None →
          MakesJoin every table words log above scope n at room before after None
      join-stop h after child ts end s e =
          let (rest, s', left, f) = far.1 ts end s e in
          let (t, us, behind, q, node, s'', l) = next_child rest end left h s' in
          (tt, λ es k. stop every far.0 es k ts rest (f es k) t us q behind (child t behind node))
        where
          stop :
              (every : Bool) → Place every room i handed → (es : List Environment) → Holding room before es → (ts rest : Trees) →
              Far every table log scope ts rest es room before handed scratch → (t : Tree) (us : Trees) → rest ≡ cons t us →
              (behind : ℕ) → MakesTree table log t scope behind handed scratch after None →
              Tells (list table (rows log) (join every ts) scope es) (entries table (rows log) (join every ts) scope es) room before after None
          stop true p es k ts rest f t us q behind made = all_short table log scope ts es room before rest i handed scratch p f long t us q behind after made
          stop false p es k ts rest f t us q behind made = any-short table log scope ts es room before k rest handed scratch p f long t us q behind after made

      module _ (h : i < n) (after : Words) (m : Made) (child : MakesNode table words log above scope next handed scratch after (Some m)) where
        -- its list
        placed : (behind : ℕ) × Placed handed behind m
        placed =
            let (t, behind, node) = join_asks h in
            (behind, (child t behind node).0)

        -- is passed on
        pub join_passing : 17 * room.limit ≤ length before → length after ≡ length scratch → Passing every handed m.room after
        join_passing there kept = go every
          where
            go : (every : Bool) → Passing every handed m.room after
            go true = tt
            go false = let p = placed.1 in (p.low, p.limit, omega (arith, join_room there, kept))

        pub join-next :
            (last : Words) (passed : Room) → Passed every handed m.room after last passed →
            SoFar every table words log above scope n at room before (i + 1) m.next passed last
        join-next last passed p = (
          place every far.0 p,
          λ ts end s e.
              let (rest, s', left, f) = far.1 ts end s e in
              let (t, us, behind, q, node, s'', l) = next_child rest end left h s' in
              let made = child t behind node in (
                us,
                subst (λ (j : ℕ). Nodes table words restriction above scope j us end) (sym made.0.behind) s'',
                l,
                λ es k. step every far.0 es k ts rest (f es k) t us q behind made p,
              ),
        )
          where
            place : (every : Bool) → Place every room i handed → Passed every handed m.room after last passed → Place every room (i + 1) passed
            place true q (is, same) = subst (AllPlace room (i + 1)) (sym is) (all-placed q placed.1)
            place false q (is, moved) = any-placed m.room q is

            step :
                (every : Bool) → Place every room i handed → (es : List Environment) → Holding room before es → (ts rest : Trees) →
                Far every table log scope ts rest es room before handed scratch → (t : Tree) (us : Trees) → rest ≡ cons t us →
                (behind : ℕ) → MakesTree table log t scope behind handed scratch after (Some m) →
                Passed every handed m.room after last passed → Far every table log scope ts us es room before passed last
            step true p es k ts rest f t us q behind made (is, same) =
                subst (λ (r : Room). AllFar table log scope ts us es room before r last) (sym is)
                (subst (AllFar table log scope ts us es room before m.room) (sym same)
                (all-step table log scope ts es room before rest i handed scratch p f long t us q behind after m made))
            step false p es k ts rest f t us q behind made (is, moved) =
                any_step table log scope ts es room before k rest handed scratch p f long t us q behind after m made last moved is

      -- no child is left
      pub join_close :
          n ≤ i → 1 ≤ n → (r : Option Made) → Closes every room handed next r → MakesJoin every table words log above scope n at room before scratch r
      join_close h some r closes ts end s e =
          let (rest, s', left, f) = far.1 ts end s e in
          let (none, ends) = none_left table words above scope next rest end s' (omega arith) in
          let many : 1 ≤ i = omega (arith, left) in
          (stands every far.0 many ends r closes, λ es k. told every far.0 es k ts rest (f es k) none r closes)
        where
          stands :
              (every : Bool) → Place every room i handed → 1 ≤ i → {end : ℕ} → end ≡ next → (r : Option Made) → Closes every room handed next r →
              IfSome r (Placed room end)
          stands every p many ends None closes = tt
          stands true p many ends (Some m) (fits, e, behind) = record {
            low = omega (arith, e.is-from, p.low many);
            free = omega (arith, e.is-base, e.is-from, e.is-count, p.free many);
            limit = e.is-limit ∙ p.limit;
            behind = behind ∙ sym ends;
          }
          stands false p many ends (Some m) (fits, e, behind) = record {
            low = omega (arith, e.is-from);
            free = omega (arith, e.is-base, e.is-from, e.is-count, p.base);
            limit = e.is-limit ∙ p.limit;
            behind = behind ∙ sym ends;
          }

          told :
              (every : Bool) → Place every room i handed → (es : List Environment) → Holding room before es → (ts rest : Trees) →
              Far every table log scope ts rest es room before handed scratch → rest ≡ nil → (r : Option Made) → Closes every room handed next r →
              Tells (list table (rows log) (join every ts) scope es) (entries table (rows log) (join every ts) scope es) room before scratch r
          told true p es k ts rest f none None full = all-full table log scope ts es room before rest i handed scratch p f long none full
          told true p es k ts rest f none (Some m) (fits, e, behind) = all_end table log scope ts es room before rest i handed scratch p f long none e
          told false p es k ts rest f none None full = any-full table log scope ts es room before k rest handed scratch p f long none full
          told false p es k ts rest f none (Some m) (fits, e, behind) = any_end table log scope ts es room before k rest handed scratch p f long none e

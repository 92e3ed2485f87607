-- The instances of a quantifier, from the listing of its restriction and the choice of instances.
use Prim.Native.Nat.{ℕ, ◌+◌, ◌*◌, ◌≤◌, ◌<◌}
use native.Mathlib.Omega.{arith}
use mathlib.Core.Path.{◌≡◌, sym, subst}
use mathlib.Core.List.{List, [], ◌∷◌, map}
use lib.ListN.{length}
use lib.IntN.{ℤ}
use Rattle.model.specs.Words.{Words, value}
use Rattle.model.specs.Log.{rows}
use Rattle.model.specs.Tree.{Tree}
use Rattle.model.specs.Listing.{Environment, outer, list}
use Rattle.model.specs.Reduction.{fresh, tuple}
use Rattle.laws.specs.Reading.Items.{tuples}
use Rattle.listing.specs.declared.room.Room.{Room}
use Rattle.listing.specs.declared.room.Made.{Made}
use Rattle.std.specs.Prelude.{Option, Some, None}
use Rattle.model.specs.Level.{restriction}
use Rattle.laws.specs.Reading.Nodes.{Node}
use Rattle.environments.specs.declared.environment.Environment.{Environment as Held}
use Rattle.nodes.specs.Ground.{Outer}
use Rattle.environments.specs.Environment.{Holds, stored}
use Rattle.environments.proofs.Places.{stored_here}
use Rattle.environments.specs.Listed.{Listed}
use Rattle.environments.proofs.ListedLaws.{listed-none, listed_more}
use Rattle.instances.specs.Instances.{Chosen}
use Rattle.listing.specs.Restrictions as R
use Rattle.nodes.specs.Last.{Found}
use Rattle.nodes.specs.Prepare.{InstancesStand, listed}
use Rattle.nodes.proofs.LastLaws.{instances-found}

module _ (places : ℕ) (before scratch : Words) (e : Environment) (some-place : 1 ≤ places) (there : 17 * places ≤ length before) (is : scratch ≡ stored before 0 e) where
  alone-listed : Listed scratch 0 (e ∷ [])
  alone-listed =
      let room-there : 17 * 0 + 17 ≤ length before = omega arith in
      subst (λ (ws : Words). Listed ws 0 (e ∷ [])) (sym is)
      (listed_more (stored before 0 e) 0 [] e (listed-none (stored before 0 e) 0) (stored_here before 0 e room-there))

-- the environment is stored, and alone in the room
module _
    (held : Held) (scope places : ℕ) (before scratch : Words) (room : Room)
    (some-place : 1 ≤ places) (there : 17 * places ≤ length before) (alone : R.Numbers room 0 1 1 1 places)
    (store : (e : Environment) → Holds held e → scratch ≡ stored before 0 e) where
  room-holds : (ρ : List ℤ) → Outer held scope ρ → R.Holding room scratch (outer ρ ∷ [])
  room-holds ρ o = record {
    listed =
        subst (λ (k : ℕ). Listed scratch k (outer ρ ∷ [])) (sym alone.is-from)
        (alone-listed places before scratch (outer ρ) some-place there (store (outer ρ) o.0));
    long = sym alone.is-count;
  }

  module _
      (table words log : Words) (level v at m : ℕ) (is : m ≡ value words (at + 2)) (after : Words) (r : Option Made)
      (makes : R.MakesNode table words log level (scope + v) (at + 3 + v * m) room scratch after r) where
    abbrev Restricts : (c : Tree) (body : ℕ) → Type 0
    Restricts c body = Node table words restriction level (scope + v) (at + 3 + v * value words (at + 2)) c body

    -- so is the list that the restriction makes
    listed-so : (c : Tree) (body : ℕ) → Restricts c body → R.MakesTree table log c (scope + v) body room scratch after r
    listed-so c body node =
        makes c body
        (subst (λ (n : ℕ). Node table words restriction level (scope + v) (at + 3 + v * n) c body) (sym is) node)

    -- the places ran out
    pub prepare_short :
        r ≡ None → (ρ : List ℤ) (c : Tree) (body : ℕ) → Outer held scope ρ → Restricts c body → places < listed table log scope v c ρ
    prepare_short e ρ c body o node =
        let (placed, tells) = subst (R.MakesTree table log c (scope + v) body room scratch after) e (listed-so c body node) in
        omega (arith, (tells (outer ρ ∷ []) (room-holds ρ o)).told, alone.is-limit, alone.is-used)

    module _ (made : Made) (some : r ≡ Some made) where
      stands : (c : Tree) (body : ℕ) → Restricts c body → R.MakesTree table log c (scope + v) body room scratch after (Some made)
      stands c body node = subst (R.MakesTree table log c (scope + v) body room scratch after) some (listed-so c body node)

      -- the list is within scratch
      pub prepare_inside : (c : Tree) × (body : ℕ) × Restricts c body → made.room.used ≤ places
      prepare_inside (c, body, node) = omega (arith, made.room.within, (stands c body node).0.limit, alone.is-limit)

      -- the instances stand
      pub prepare_stood :
          scope + v ≤ 16 → (last : Words) (k : ℕ) → Chosen words (at + 3) m v scope after last made.room.from made.room.count k →
          (ρ : List ℤ) (c : Tree) (body : ℕ) → Outer held scope ρ → Restricts c body →
          InstancesStand table words log scope v at c ρ body places last (record { from = made.room.from; count = k; used = made.room.used; body = made.next })
      prepare_stood small last k chosen ρ c body o node =
          let s = ((stands c body node).1 (outer ρ ∷ []) (room-holds ρ o)).told in
          let es = list table (rows log) c (scope + v) (outer ρ ∷ []) in
          let few = chosen.few in
          let left = chosen.found es s.holds.listed s.holds.long in
          let low = made.room.before in
          let high = made.room.counted in
          record {
            counted = omega (arith, s.counted, alone.is-used);
            fits = prepare_inside (c, body, node);
            below = omega arith;
            behind = (stands c body node).0.behind;
            found =
                subst (λ (j : ℕ). Found last scope made.room.from v k (fresh (tuples words v (at + 3) j) (map (tuple scope v) es))) is
                (instances-found (tuples words v (at + 3) m) v scope es last made.room.from k small left);
          }

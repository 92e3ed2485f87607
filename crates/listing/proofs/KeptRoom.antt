-- The environments that a leaf keeps, in a room: one kept or passed over, and the whole list or the places run out.
use Prim.Native.Nat.{ℕ, ◌+◌, ◌*◌, ◌-◌, ◌≤◌, ◌<◌}
use native.Mathlib.Omega.{arith}
use native.Mathlib.Nat.{add-zero}
use mathlib.Core.Path.{◌≡◌, refl, sym, ap, ◌∙◌, subst}
use mathlib.Core.Bool.{Bool, true, false, cond}
use mathlib.Core.List.{List, [], ◌∷◌}
use lib.ListN.{length}
use Rattle.model.specs.Words.{Words}
use Rattle.model.specs.Lists.{gather}
use Rattle.model.specs.Log.{rows}
use Rattle.model.specs.Tree.{Tree}
use Rattle.model.specs.Listing.{Environment, list, entries}
use Rattle.listing.specs.declared.room.Room.{Room}
use Rattle.listing.specs.declared.room.Made.{Made}
use Rattle.std.specs.Prelude.{Option, None, Some}
use Rattle.environments.specs.Environment.{place_of, place_at, stored}
use Rattle.environments.proofs.Places.{place-length}
use Rattle.environments.specs.Listed.{Listed}
use Rattle.environments.proofs.ListedLaws.{environment_of, listed-none, listed_more}
use Rattle.environments.proofs.ListsLaws.{outside-stored, stands-stored, outside-front}
use Rattle.listing.specs.Keeping.{Leaf, keeps_of}
use Rattle.listing.proofs.Leaves.{list-leaf, entries-leaf}
use Rattle.listing.specs.Restrictions.{Holding, Tells, Filled}
use Rattle.listing.proofs.MapLaws.{Mapping, map-step, map-short}
use Rattle.listing.proofs.MapRoom.{map_stood, makes_same}
use Rattle.listing.proofs.LeafLaws.{kept, keep-gather}

module _
    (test : Environment → Bool) {es : List Environment} {i base made : ℕ} {before scratch : Words}
    (s : Mapping (kept test) es i base made before scratch) (h : i < length es)
  where
    -- an environment that is passed over
    pub kept-none : test (environment_of es i) ≡ false → Mapping (kept test) es (i + 1) base made before scratch
    kept-none e =
        let none : kept test (environment_of es i) ≡ [] = ap (λ (b : Bool). cond b (environment_of es i ∷ []) []) e in
        subst (λ (n : ℕ). Mapping (kept test) es (i + 1) base n before scratch) (add-zero made)
        (map-step s 0 scratch h (ap length (sym none))
        (subst (Listed scratch (base + made)) (sym none) (listed-none scratch (base + made))) refl)

    -- one that is kept
    pub kept-one :
        test (environment_of es i) ≡ true →
        17 * (base + made) + 17 ≤ length scratch →
        (after : Words) →
        after ≡ stored scratch (base + made) (environment_of es i) →
        Mapping (kept test) es (i + 1) base (made + 1) before after
    kept-one e room after is =
        let one : kept test (environment_of es i) ≡ environment_of es i ∷ [] = ap (λ (b : Bool). cond b (environment_of es i ∷ []) []) e in
        let long = place-length (environment_of es i) in
        let here = stands-stored scratch (place_of (environment_of es i)) after (base + made) long room is in
        map-step s 1 after h (ap length (sym one))
        (subst (Listed after (base + made)) (sym one)
        (listed_more after (base + made) [] (environment_of es i) (listed-none after (base + made))
        (ap (place_at after) (add-zero (base + made)) ∙ here)))
        (outside-front scratch after (base + made) 1 (outside-stored scratch (place_of (environment_of es i)) after (base + made) long room is) (17 * (base + made)) (omega arith))

module _
    (table log : Words) (scope : ℕ) (t : Tree) (leaf : Leaf t) {es : List Environment} {i : ℕ} {room : Room} {made : ℕ}
    {before scratch : Words} (s : Mapping (kept (keeps_of table (rows log) t)) es i room.base made before scratch)
    (few : made ≤ room.limit - room.used) (h : Holding room before es) where
  abbrev test : Environment → Bool
  test = keeps_of table (rows log) t

  all-kept : gather (kept test) es ≡ list table (rows log) t scope es
  all-kept = keep-gather test es ∙ sym (list-leaf table (rows log) t leaf scope es)

  all-entries : length (gather (kept test) es) ≡ entries table (rows log) t scope es
  all-entries = ap length (keep-gather test es) ∙ sym (entries-leaf table (rows log) t leaf scope es)

  abbrev pub KeptTells : (r : Option Made) → Type 0
  KeptTells r = Tells (list table (rows log) t scope es) (entries table (rows log) t scope es) room before scratch r

  -- the places ran out at the i-th environment
  pub kept-short :
      i < room.count → test (environment_of es i) ≡ true → room.limit - room.used ≤ made → length scratch ≡ length before → KeptTells None
  kept-short inside e full long =
      let n = h.long in
      let one : length (kept test (environment_of es i)) ≡ 1 = ap (λ (b : Bool). length (cond b (environment_of es i ∷ []) [])) e in
      let short = map-short s 0 (omega arith) (omega arith) in
      let k = all-entries in
      record { told = omega arith; long = long; front = s.front }

  -- all were passed
  pub kept_stood : room.count ≤ i → length scratch ≡ length before → {m : Made} → Filled room made m.room → KeptTells (Some m)
  kept_stood all long {m} e = makes_same all-kept all-entries (map_stood s few h all long e)

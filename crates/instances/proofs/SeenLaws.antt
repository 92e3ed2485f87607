-- Laws of the table of the tuples seen: which tuple an entry has, that the entries are the excluded tuples and those found, and one
-- turn of the choice of instances.
use Prim.Native.Nat.{ℕ, zero, suc, ◌+◌, ◌*◌, ◌-◌, ◌≤◌, ◌<◌}
use native.Mathlib.Nat.{add-zero, zero-add, add-suc, suc-add}
use native.Mathlib.Omega.{arith}
use mathlib.Core.Path.{◌≡◌, refl, sym, ap, ap₂, ◌∙◌}
use mathlib.Core.Logic.{⊎_elim}
use mathlib.Core.Bool.{Bool, true, false, ◌||◌}
use mathlib.Core.List.{List, ◌++◌, map}
use lib.ListN.{get_or, set, take, drop}
use lib.IntN.{ℤ}
use borrow.Author.Tests.{lt-ltb, le-ltb}
use Rattle.model.specs.Words.{Words, equal_all, member}
use Rattle.model.specs.Lists.{span}
use Rattle.laws.specs.Lists.Span.{side, drop-take}
use Rattle.environments.specs.Environment.{place_at}
use Rattle.environments.specs.Listed.{spaced}
use Rattle.environments.proofs.ListedLaws.{tuple-part}
use Rattle.instances.specs.Keyed.{key_from, key_of, entry_at, among_first, Keyed}
use Rattle.instances.proofs.InstanceLaws.{Turn, place, next, OnWith, passed_over, one_more, copied_here, copied_front}
use Rattle.instances.proofs.KeyLaws.{keyed-same, keyed-count, keyed_entered, among_same, among_both}

-- the tuple of an entry
module _ (words : Words) (from m v : ℕ) (scratch : Words) (start : ℕ) where
  pub entry_excluded : (e : ℕ) → e < m → entry_at words from m v scratch start e ≡ take v (drop (from + v * e) words)
  unfolding entry_at
  entry_excluded e h = rw (lt-ltb e m h)

  pub entry_found : (e : ℕ) → m ≤ e → entry_at words from m v scratch start e ≡ take v (drop (start + 17 * (e - m)) scratch)
  unfolding entry_at
  entry_found e h = rw (le-ltb e m h)

  entry_later : (j : ℕ) → entry_at words from m v scratch start (m + j) ≡ take v (drop (start + 17 * j) scratch)
  entry_later j =
      let same : m + j - m ≡ j = omega arith in
      entry_found (m + j) (omega arith) ∙ ap (λ (i : ℕ). take v (drop (start + 17 * i) scratch)) same

-- a tuple among those made of a span, the last one taken first
or_on : (a b c d : Bool) → b ≡ (c || d) → (a || b) ≡ (c || (a || d))
or_on true b true d e = refl
or_on true b false d e = refl
or_on false b c d e = e

member-last :
    (f : ℕ → List ℤ) (τ : List ℤ) (n i : ℕ) → member τ (map f (span i (suc n))) ≡ (equal_all τ (f (i + n)) || member τ (map f (span i n)))
unfolding span member
member-last f τ zero i = ap (λ (j : ℕ). equal_all τ (f j) || false) (sym (add-zero i))
member-last f τ (suc n) i =
    or_on (equal_all τ (f i)) (member τ (map f (span (suc i) (suc n)))) (equal_all τ (f (suc i + n))) (member τ (map f (span (suc i) n))) (member-last f τ n (suc i))
    ∙ ap (λ (j : ℕ). equal_all τ (f j) || (equal_all τ (f i) || member τ (map f (span (suc i) n)))) (suc-add i n ∙ sym (add-suc i n))

among_made : (f : ℕ → List ℤ) (τ : List ℤ) (n : ℕ) → among_first f τ n ≡ member τ (map f (span 0 n))
unfolding among_first span member
among_made f τ zero = refl
among_made f τ (suc n) =
    ap (λ (b : Bool). equal_all τ (f n) || b) (among_made f τ n)
    ∙ ap (λ (j : ℕ). equal_all τ (f j) || member τ (map f (span 0 n))) (sym (zero-add n))
    ∙ sym (member-last f τ n 0)

-- the entries are the excluded tuples and those found
pub among_entries :
    (words : Words) (from m v : ℕ) (scratch : Words) (start : ℕ) (τ : List ℤ) (found : ℕ) →
    among_first (entry_at words from m v scratch start) τ (m + found) ≡ (member τ (spaced words v from v m) || member τ (spaced scratch v start 17 found))
unfolding spaced
among_entries words from m v scratch start τ found =
    let entry = entry_at words from m v scratch start in
    among_both entry τ m found
    ∙ ap₂ (λ (a b : Bool). a || b)
    (among_same entry (λ e. take v (drop (from + v * e) words)) τ m (λ e h. entry_excluded words from m v scratch start e h)
    ∙ among_made (λ e. take v (drop (from + v * e) words)) τ m)
    (among_same (λ j. entry (m + j)) (λ j. take v (drop (start + 17 * j) scratch)) τ found (λ j h. entry_later words from m v scratch start j)
    ∙ among_made (λ j. take v (drop (start + 17 * j) scratch)) τ found)

-- the table of the excluded tuples
pub keyed-excluded :
    (words : Words) (from m v : ℕ) (scratch : Words) (start : ℕ) (heads links : List ℕ) →
    Keyed (λ e. take v (drop (from + v * e) words)) m heads links →
    Keyed (entry_at words from m v scratch start) (m + 0) heads links
keyed-excluded words from m v scratch start heads links t =
    keyed-count (entry_at words from m v scratch start) m (m + 0) heads links (sym (add-zero m))
    (keyed-same (λ e. take v (drop (from + v * e) words)) (entry_at words from m v scratch start) m heads links
    (λ e h. sym (entry_excluded words from m v scratch start e h)) t)

-- one turn of the choice
module _ (t : Turn) where
  -- the entries, as they stand in scratch
  abbrev pub entry_in : (scratch : Words) (n : ℕ) → List ℤ
  entry_in scratch = entry_at t.words t.from t.m t.v scratch (17 * t.first + t.scope)

  -- what the search in the table says
  module _ (r : Bool) (told : r ≡ among_first (entry_in t.scratch) (next t) (t.m + t.found)) where
    both : (member (next t) (spaced t.words t.v t.from t.v t.m) || member (next t) (spaced t.scratch t.v (17 * t.first + t.scope) 17 t.found)) ≡ r
    both = sym (told ∙ among_entries t.words t.from t.m t.v t.scratch (17 * t.first + t.scope) (next t) t.found)

    pub on_known : r ≡ true → OnWith t t.scratch t.found
    on_known q = passed_over t _ refl _ refl (both ∙ q)

    pub on_new :
        r ≡ false →
        (after : Words) →
        after ≡ take (17 * (t.first + t.found)) t.scratch ++ (place_at t.scratch (place t) ++ drop (17 * (t.first + t.found) + 17) t.scratch) →
        OnWith t after (t.found + 1)
    on_new q after copy = one_more t _ refl _ refl (both ∙ q) after copy

  -- the tuple is entered, and its place copied
  module _
      (after : Words)
      (copy : after ≡ take (17 * (t.first + t.found)) t.scratch ++ (place_at t.scratch (place t) ++ drop (17 * (t.first + t.found) + 17) t.scratch)) where
    -- the tuples found before stand where they stood
    found-kept : (j : ℕ) → j < t.found → take t.v (drop (17 * t.first + t.scope + 17 * j) t.scratch) ≡ take t.v (drop (17 * t.first + t.scope + 17 * j) after)
    found-kept j h =
        let at = 17 * t.first + t.scope + 17 * j in
        sym
        (sym (drop-take at t.v after)
        ∙ ap (drop at) (copied_front t after copy (at + t.v) (omega (arith, t.small)))
        ∙ drop-take at t.v t.scratch)

    entry_kept : (e : ℕ) → e < t.m + t.found → entry_in t.scratch e ≡ entry_in after e
    entry_kept e h =
        ⊎_elim
        (λ s. entry_excluded t.words t.from t.m t.v t.scratch _ e s ∙ sym (entry_excluded t.words t.from t.m t.v after _ e s))
        (λ s.
        entry_found t.words t.from t.m t.v t.scratch _ e s
        ∙ found-kept (e - t.m) (omega arith)
        ∙ sym (entry_found t.words t.from t.m t.v after _ e s))
        (side t.m e)

    -- the new entry has the tuple
    entry_new : entry_in after (t.m + t.found) ≡ next t
    entry_new =
        let at : 17 * t.first + t.scope + 17 * t.found ≡ 17 * (t.first + t.found) + t.scope = omega arith in
        entry_later t.words t.from t.m t.v after _ t.found
        ∙ ap (λ (k : ℕ). take t.v (drop k after)) at
        ∙ tuple-part after (t.first + t.found) t.scope t.v t.small
        ∙ ap (λ (ws : Words). take t.v (drop t.scope ws)) (copied_here t after copy)
        ∙ sym (tuple-part t.scratch (place t) t.scope t.v t.small)

    pub keyed_on :
        (k : ℕ) (heads links heads' links' : List ℕ) →
        t.m + t.count ≤ 8192 →
        k ≡ key_of (next t) →
        Keyed (entry_in t.scratch) (t.m + t.found) heads links →
        heads' ≡ set heads k (t.m + t.found + 1) →
        links' ≡ set links (t.m + t.found) (get_or heads k 0) →
        Keyed (entry_in after) (t.m + (t.found + 1)) heads' links'
    keyed_on k heads links heads' links' few own table p q =
        let n = t.m + t.found in
        let more : n + 1 ≡ t.m + (t.found + 1) = omega arith in
        keyed-count (entry_in after) (n + 1) (t.m + (t.found + 1)) heads' links' more
        (keyed_entered (entry_in after) n k heads links (omega (arith, t.more, t.going.few)) (own ∙ ap (key_from 0) (sym entry_new))
        (keyed-same (entry_in t.scratch) (entry_in after) n heads links entry_kept table) heads' links' p q)

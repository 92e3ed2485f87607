-- The terms of an atom and the excluded tuples of a quantifier: read from words, their words stand there; and where their
-- words stand, they are read. By induction on their number.
use Prim.Native.Nat.{ℕ, zero, suc, ◌+◌, ◌*◌, ◌≤◌}
use native.Mathlib.Omega.{arith}
use Rattle.std.specs.Prelude.{◌≡◌, Bool, false, length, take, drop, ℤ, negsuc}
use Rattle.std.proofs.Math.Path.{refl}
use Rattle.std.proofs.Common.{ap, ap₂, ◌∙◌, ⊎_elim}
use Rattle.std.proofs.Math.Bool.{true}
use mathlib.Core.List.{List, [], ◌∷◌, map}
use Rattle.std.proofs.lemmas.List.{length-map}
use Rattle.std.proofs.Math.ListN.{length-drop}
use Rattle.std.proofs.Math.Seq.{length-take-le}
use Rattle.std.proofs.Math.IntN.{pos}
use Rattle.model.specs.Words.{Words, word, value, within, equal}
use Rattle.model.specs.Lists.{span, all, gather}
use Rattle.model.specs.Tree.{Term, constant, variable, encode_term}
use Rattle.model.specs.Reading.{places, term_at, good_kind, in_scope}
use Rattle.laws.specs.Words.Tests.{and_left, and_right, and-true, or_cases, equal-true, clash}
use Rattle.laws.specs.Reading.Formed.{InScope, AllInScope, AllOfLength}
use Rattle.laws.specs.Words.Standing.{Stands, stands-none, stands-take, stands_taken, stands-both, stands-two, two-stand}
use Rattle.laws.specs.Words.Standing.{stands-left, stands-right, within-value, below-value, below-pos}

-- as many numbers as asked for
pub length-span : (j n : ℕ) → length (span j n) ≡ n
unfolding span
length-span j zero = refl
length-span j (suc n) = ap suc (length-span (suc j) n)

-- what stands k words apart, the first at an index: that one, and the others from k words on
stride :
    {A : Type 0} (f : ℕ → A) (k first n : ℕ) →
    map (λ i. f (first + k * i)) (span 0 (suc n)) ≡ f first ∷ map (λ i. f (first + k + k * i)) (span 0 n)
unfolding span
stride f k first n = ap₂ (λ x l. x ∷ l) (ap f (omega arith)) (shift 0 n)
  where
    shift : (j n : ℕ) → map (λ i. f (first + k * i)) (span (suc j) n) ≡ map (λ i. f (first + k + k * i)) (span j n)
    shift j zero = refl
    shift j (suc n) = ap₂ (λ x l. x ∷ l) (ap f (omega arith)) (shift (suc j) n)

-- no places
places-zero : (first : ℕ) → places first 0 ≡ []
unfolding places span
places-zero first = refl

-- the first place, and the others
places-suc : (first n : ℕ) → places first (suc n) ≡ first ∷ places (first + 2) n
unfolding places
places-suc first n = stride (λ i. i) 2 first n

-- the places of a comparison's two terms
pub two-places : (at : ℕ) → places (at + 2) 2 ≡ (at + 2) ∷ (at + 4) ∷ []
unfolding places span
two-places at = ap₂ (λ (i j : ℕ). i ∷ j ∷ []) (omega arith) (omega arith)

-- how many places there are
length-places : (first n : ℕ) → length (places first n) ≡ n
unfolding places
length-places first n = length-map (span 0 n) (λ i. first + 2 * i) ∙ length-span 0 n

-- how many terms are read
pub length-terms : (words : Words) (first n : ℕ) → length (map (term_at words) (places first n)) ≡ n
length-terms words first n = length-map (places first n) (term_at words) ∙ length-places first n

-- m tuples of v words each, the first at an index
unfoldable pub tuples : Words → ℕ → ℕ → ℕ → List (List ℤ)
tuples words v first m = map (λ i. take v (drop (first + v * i) words)) (span 0 m)

-- no tuples
tuples-zero : (words : Words) (v first : ℕ) → tuples words v first 0 ≡ []
unfolding tuples span
tuples-zero words v first = refl

-- the first tuple, and the others
tuples-suc :
    (words : Words) (v first m : ℕ) →
    tuples words v first (suc m) ≡ take v (drop first words) ∷ tuples words v (first + v) m
unfolding tuples
tuples-suc words v first m = stride (λ i. take v (drop i words)) v first m

-- how many tuples there are
pub length-tuples : (words : Words) (v first m : ℕ) → length (tuples words v first m) ≡ m
unfolding tuples
length-tuples words v first m = length-map (span 0 m) (λ i. take v (drop (first + v * i) words)) ∙ length-span 0 m

-- a kind that is not 0 is 1
kind-one : (z : ℤ) → within 0 1 z ≡ true → equal z (pos 0) ≡ false → z ≡ pos 1
unfolding equal within
kind-one (pos zero) e f = clash refl f
kind-one (pos (suc n)) e f = let r = within-value 0 1 (pos (suc n)) e in ap pos (omega arith)
kind-one (negsuc n) e f = clash e refl

module _ (words : Words) (scope : ℕ) where
  -- a term is read at an index, and passes its questions
  pub record ReadsTerm (i : ℕ) (t : Term) : Type 0 where
    pub term : term_at words i ≡ t
    pub kind : good_kind words i ≡ true
    pub range : in_scope words scope i ≡ true

  -- terms are read from an index on, and pass their questions
  pub record ReadsTerms (first : ℕ) (ts : List Term) : Type 0 where
    pub terms : map (term_at words) (places first (length ts)) ≡ ts
    pub kinds : all (good_kind words) (places first (length ts)) ≡ true
    pub range : all (in_scope words scope) (places first (length ts)) ≡ true

module _ (words : Words) (scope : ℕ) where
  -- a term that is read: its words stand there, and it is in scope
  pub term-there :
      (i next : ℕ) →
      next ≡ i + 2 →
      next ≤ length words →
      good_kind words i ≡ true →
      in_scope words scope i ≡ true →
      Stands words i (encode_term (term_at words i)) next × InScope scope (term_at words i)
  unfolding term_at good_kind in_scope encode_term InScope value
  term-there i next e h kind range = go (equal (word words i) (pos 0)) refl
    where
      two : (k : ℕ) (z : ℤ) → word words i ≡ pos k → word words (i + 1) ≡ z → Stands words i (pos k ∷ z ∷ []) next
      two k z f g = stands-two words (pos k) z [] (omega arith) f g (stands-none words e h)

      go :
          (b : Bool) →
          equal (word words i) (pos 0) ≡ b →
          Stands words i (encode_term (term_at words i)) next × InScope scope (term_at words i)
      go true f = rw f (two 0 (word words (i + 1)) (equal-true _ _ f) refl, tt)
      go false f =
          let inside = ⊎_elim (λ g. clash g f) (λ g. g) (or_cases (equal (word words i) (pos 0)) _ range) in
          let number = below-value scope (word words (i + 1)) inside in
          rw f (two 1 _ (kind-one (word words i) kind f) number.0, number.1)

  -- a term whose words stand somewhere is read there
  pub term_back :
      (i next : ℕ) (t : Term) →
      Stands words i (encode_term t) next →
      InScope scope t →
      ReadsTerm words scope i t × (next ≡ i + 2)
  unfolding term_at good_kind in_scope encode_term InScope value within equal
  term_back i next (constant k) s h =
      let two = two-stand words (pos 0) k [] s in
      (record { term = rw (two.0, two.1); kind = rw two.0; range = rw two.0 }, s.ends)
  term_back i next (variable x) s h =
      let two = two-stand words (pos 1) (pos x) [] s in
      (record { term = rw (two.0, two.1); kind = rw two.0; range = rw (two.0, two.1) (below-pos scope x h) }, s.ends)

  -- terms that are read: their words stand there, and they are in scope
  pub terms-there :
      (n first : ℕ) →
      first + 2 * n ≤ length words →
      all (good_kind words) (places first n) ≡ true →
      all (in_scope words scope) (places first n) ≡ true →
      let ts = map (term_at words) (places first n) in
      Stands words first (gather encode_term ts) (first + 2 * n) × AllInScope scope ts
  unfolding all gather AllInScope
  terms-there zero first h kinds range = rw places-zero (stands-none words (omega arith) h, tt)
  terms-there (suc n) first h kinds range =
      let k : all (good_kind words) (first ∷ places (first + 2) n) ≡ true = rw places-suc at kinds in
      let r : all (in_scope words scope) (first ∷ places (first + 2) n) ≡ true = rw places-suc at range in
      let k' = and_right (good_kind words first) _ k in
      let r' = and_right (in_scope words scope first) _ r in
      let one = term-there first (first + 2) refl (omega arith) (and_left _ _ k) (and_left _ _ r) in
      let rest = terms-there n (first + 2) (omega arith) k' r' in
      let ends : first + 2 * suc n ≡ first + 2 + 2 * n = omega arith in
      rw (places-suc, ends) (stands-both words _ _ one.0 rest.0, (one.1, rest.1))

  -- terms whose words stand somewhere are read there
  pub terms_back :
      (first next : ℕ) (ts : List Term) →
      Stands words first (gather encode_term ts) next →
      AllInScope scope ts →
      ReadsTerms words scope first ts × (next ≡ first + 2 * length ts)
  unfolding all gather AllInScope
  terms_back first next [] s h =
      (record { terms = rw places-zero; kinds = rw places-zero; range = rw places-zero }, s.ends)
  terms_back first next (t ∷ ts) s h =
      let one = term_back first _ t (stands-left words (encode_term t) (gather encode_term ts) s) h.0 in
      let s' = rw one.1 at (stands-right words (encode_term t) (gather encode_term ts) s) in
      let rest = terms_back (first + 2) next ts s' h.1 in (
        record {
          terms = rw places-suc (ap₂ (λ x l. x ∷ l) one.0.term rest.0.terms);
          kinds = rw places-suc (and-true one.0.kind rest.0.kinds);
          range = rw places-suc (and-true one.0.range rest.0.range);
        },
        omega (arith, rest.1),
      )

module _ (words : Words) where
  -- tuples that are read: their words stand there, and they have v words
  pub tuples-there :
      (v m first : ℕ) →
      first + v * m ≤ length words →
      let τs = tuples words v first m in
      Stands words first (gather (λ tuple. tuple) τs) (first + v * m) × AllOfLength v τs
  unfolding gather AllOfLength
  tuples-there v zero first h = rw tuples-zero (stands-none words (omega arith) h, tt)
  tuples-there v (suc m) first h =
      let one = stands-take words {at = first} v refl (omega arith) in
      let enough = length-take-le v (drop first words) (rw length-drop (omega arith)) in
      let rest = tuples-there v m (first + v) (omega arith) in
      let ends : first + v * suc m ≡ first + v + v * m = omega arith in
      rw (tuples-suc, ends) (stands-both words _ _ one rest.0, (enough, rest.1))

  -- tuples whose words stand somewhere are read there
  pub tuples_back :
      (v first next : ℕ) (τs : List (List ℤ)) →
      Stands words first (gather (λ tuple. tuple) τs) next →
      AllOfLength v τs →
      (tuples words v first (length τs) ≡ τs) × (next ≡ first + v * length τs)
  unfolding gather AllOfLength
  tuples_back v first next [] s h = rw tuples-zero (refl, s.ends ∙ omega arith)
  tuples_back v first next (τ ∷ τs) s h =
      let one = stands_taken words τ (stands-left words τ (gather (λ tuple. tuple) τs) s) in
      let s' = rw h.0 at (stands-right words τ (gather (λ tuple. tuple) τs) s) in
      let rest = tuples_back v (first + v) next τs s' h.1 in
      rw tuples-suc (ap₂ (λ x l. x ∷ l) (rw (← h.0) one) rest.0, omega (arith, rest.1))

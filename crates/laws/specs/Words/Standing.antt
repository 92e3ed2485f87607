-- Parts of a list of words, where they stand, and what the tests on single words say. A part that stands at an index is
-- taken together and apart by the laws of drop and ++.
use Rattle.std.specs.Prelude.{ℕ, zero, suc, ◌+◌, ◌≤◌, ◌<◌, ◌≡◌, refl, ◌⊎◌, true, false, cond, [], ◌∷◌, ◌++◌, length, take, drop, get_or, ltb, ℤ, pos, negsuc, nat_abs}
use Rattle.std.proofs.Common.{arith, sym, ap, ◌∙◌, inl, inr, ⊎_elim, append_assoc, append-nil, length-append, length-drop, take-append-drop, drop-drop, length-take-le, leb-true, le-leb, ltb-true, ltb-false, lt-ltb}
use Rattle.std.proofs.Math.Numerals.{add-one}
use Rattle.std.proofs.lemmas.Bool.{false≢true}
use Rattle.std.proofs.Math.ListN.{get_or-map, get_or-eq_default}
use Rattle.std.proofs.Math.Seq.{drop-cons, drop-length, drop-append_seam, take-append_seam}
use Rattle.std.specs.Int.Signed.{le_z}
use Rattle.model.specs.Words.{Words, word, at_least, within, below}
use Rattle.model.specs.Lists.{span}
use Rattle.model.specs.Tag.{Tag, tags, tag_of}
use Rattle.laws.specs.Words.Tests.{and_left, and_right, and-true, decide}

-- a part of the words stands at an index, and `next` is the index behind it
pub record Stands (words : Words) (at : ℕ) (part : Words) (next : ℕ) : Type 0 where
  pub here : drop at words ≡ part ++ drop next words
  pub ends : next ≡ at + length part
  pub fits : next ≤ length words

-- equal lists begin with the same word
same_first : {x y : ℤ} {xs ys : Words} → x ∷ xs ≡ y ∷ ys → x ≡ y
same_first e = cc

module _ (words : Words) where
  -- the empty part stands everywhere
  pub stands-none : {at next : ℕ} → next ≡ at → next ≤ length words → Stands words at [] next
  stands-none {at} {next} e h = record { here = rw e; ends = omega arith; fits = h }

  -- all of the words
  pub stands-whole : Stands words 0 words (length words)
  stands-whole = record { here = rw (drop-length, append-nil); ends = omega arith; fits = omega arith }

  -- so many words from an index on
  pub stands-take : {at next : ℕ} (n : ℕ) → next ≡ at + n → next ≤ length words → Stands words at (take n (drop at words)) next
  stands-take {at} {next} n e h =
      let enough : n ≤ length (drop at words) = rw length-drop (omega arith) in
      record {
        here = rw (e, ← drop-drop, take-append-drop);
        ends = rw length-take-le e;
        fits = h;
      }

  -- a part is those words
  pub stands_taken : {at next : ℕ} (part : Words) → Stands words at part next → take (length part) (drop at words) ≡ part
  stands_taken {at} {next} part s = rw (s.here, take-append_seam)

  -- one part behind another
  pub stands-both :
      {at mid next : ℕ} (a b : Words) →
      Stands words at a mid →
      Stands words mid b next →
      Stands words at (a ++ b) next
  stands-both {at} {mid} {next} a b s t =
      record {
        here = s.here ∙ rw (append_assoc, t.here);
        ends = rw length-append (omega arith);
        fits = t.fits;
      }

  -- a word, then a part
  pub stands_word :
      {at mid next : ℕ} (z : ℤ) (part : Words) →
      at < length words →
      mid ≡ at + 1 →
      word words at ≡ z →
      Stands words mid part next →
      Stands words at (z ∷ part) next
  unfolding word
  stands_word {at} {mid} {next} z part h m e s =
      record {
        here = drop-cons words at (pos 0) h ∙ rw (← add-one at, ← m, s.here, e);
        ends = omega arith;
        fits = s.fits;
      }

  -- behind the first of two parts the second one stands
  behind : {at next : ℕ} (a b : Words) → Stands words at (a ++ b) next → drop (at + length a) words ≡ b ++ drop next words
  behind {at} {next} a b s = rw (← drop-drop, s.here, append_assoc, drop-append_seam)

  -- the first of two parts
  pub stands-left : {at next : ℕ} (a b : Words) → Stands words at (a ++ b) next → Stands words at a (at + length a)
  stands-left {at} {next} a b s =
      record {
        here = rw (behind a b s, s.here, append_assoc);
        ends = refl;
        fits = omega (arith, s.ends, length-append a b, s.fits);
      }

  -- the second of two parts
  pub stands-right : {at next : ℕ} (a b : Words) → Stands words at (a ++ b) next → Stands words (at + length a) b next
  stands-right {at} {next} a b s =
      record { here = behind a b s; ends = omega (arith, s.ends, length-append a b); fits = s.fits }

  -- the first word of a part
  pub stands-first : {at next : ℕ} (z : ℤ) (part : Words) → Stands words at (z ∷ part) next → word words at ≡ z
  unfolding word
  stands-first {at} {next} z part s =
      same_first (sym (drop-cons words at (pos 0) (omega (arith, s.ends, s.fits))) ∙ s.here)

  -- the words behind it
  pub stands-rest : {at next : ℕ} (z : ℤ) (part : Words) → Stands words at (z ∷ part) next → Stands words (at + 1) part next
  stands-rest {at} {next} z part s = stands-right (z ∷ []) part s

  -- two words, then a part
  pub stands-two :
      {at next : ℕ} (x y : ℤ) (part : Words) →
      at + 2 ≤ length words →
      word words at ≡ x →
      word words (at + 1) ≡ y →
      Stands words (at + 2) part next →
      Stands words at (x ∷ y ∷ part) next
  stands-two {at} {next} x y part h e f s =
      stands_word x (y ∷ part) (omega arith) refl e (stands_word {mid = at + 2} y part (omega arith) (omega arith) f s)

  -- three words, then a part
  pub stands_three :
      {at next : ℕ} (x y z : ℤ) (part : Words) →
      at + 3 ≤ length words →
      word words at ≡ x →
      word words (at + 1) ≡ y →
      word words (at + 2) ≡ z →
      Stands words (at + 3) part next →
      Stands words at (x ∷ y ∷ z ∷ part) next
  stands_three {at} {next} x y z part h e f g s =
      stands-two x y (z ∷ part) (omega arith) e f (stands_word {mid = at + 3} z part (omega arith) (omega arith) g s)

  -- two words and a part, taken apart
  pub two-stand :
      {at next : ℕ} (x y : ℤ) (part : Words) →
      Stands words at (x ∷ y ∷ part) next →
      (word words at ≡ x) × (word words (at + 1) ≡ y) × Stands words (at + 2) part next
  two-stand {at} {next} x y part s =
      let rest = stands-rest x (y ∷ part) s in
      (stands-first x (y ∷ part) s, stands-first y part rest, stands-right (x ∷ y ∷ []) part s)

  -- three words and a part, taken apart
  pub three_stand :
      {at next : ℕ} (x y z : ℤ) (part : Words) →
      Stands words at (x ∷ y ∷ z ∷ part) next →
      (word words at ≡ x) × (word words (at + 1) ≡ y) × (word words (at + 2) ≡ z) × Stands words (at + 3) part next
  three_stand {at} {next} x y z part s =
      let two = two-stand x y (z ∷ part) s in
      (two.0, two.1, stands-first z part two.2, stands-right (x ∷ y ∷ z ∷ []) part s)

-- a word of at least a number: it is not negative, so that it is the word of its value
pub at_least-value : (low : ℕ) (z : ℤ) → at_least low z ≡ true → (z ≡ pos (nat_abs z)) × (low ≤ nat_abs z)
unfolding at_least
at_least-value low (pos n) e = (refl, leb-true low n e)
at_least-value low (negsuc n) e = absurd (false≢true e)

-- the word of such a number
pub at_least-pos : (low n : ℕ) → low ≤ n → at_least low (pos n) ≡ true
unfolding at_least
at_least-pos low n h = le-leb low n h

-- a word in a range
pub within-value :
    (low high : ℕ) (z : ℤ) →
    within low high z ≡ true →
    (z ≡ pos (nat_abs z)) × (low ≤ nat_abs z) × (nat_abs z ≤ high)
unfolding within
within-value low high (pos n) e =
    (refl, leb-true low n (and_left _ _ e), leb-true n high (and_right (le_z (pos low) (pos n)) _ e))
within-value low high (negsuc n) e = absurd (false≢true e)

-- the word of a number in a range
pub within-pos : (low high n : ℕ) → low ≤ n → n ≤ high → within low high (pos n) ≡ true
unfolding within
within-pos low high n h k = and-true (le-leb low n h) (le-leb n high k)

-- a word that is the number of a predicate or of a variable
pub below-value : (limit : ℕ) (z : ℤ) → below limit z ≡ true → (z ≡ pos (nat_abs z)) × (nat_abs z < limit)
unfolding below
below-value limit (pos n) e = (refl, ltb-true n limit (and_right (le_z (pos 0) (pos n)) _ e))
below-value limit (negsuc n) e = absurd (false≢true e)

-- the word of such a number
pub below-pos : (limit n : ℕ) → n < limit → below limit (pos n) ≡ true
unfolding below
below-pos limit n h = and-true (le-leb 0 n (omega arith)) (lt-ltb n limit h)

-- the number that stands for a tag
unfoldable pub code : Tag → ℕ
code (Tag.plain b) = cond b 1 0
code (Tag.atom b) = cond b 2 3
code (Tag.compare b) = cond b 4 5
code (Tag.join b) = cond b 6 7
code (Tag.quantifier b) = cond b 8 9
code Tag.some = 10
code Tag.unused = 11

-- that number stands for that tag
pub tag_code : (tag : Tag) → tag_of (pos (code tag)) ≡ tag
unfolding code tag_of tags
tag_code (Tag.plain true) = refl
tag_code (Tag.plain false) = refl
tag_code (Tag.atom true) = refl
tag_code (Tag.atom false) = refl
tag_code (Tag.compare true) = refl
tag_code (Tag.compare false) = refl
tag_code (Tag.join true) = refl
tag_code (Tag.join false) = refl
tag_code (Tag.quantifier true) = refl
tag_code (Tag.quantifier false) = refl
tag_code Tag.some = refl
tag_code Tag.unused = refl

-- an element of the numbers from j on
get_d_span : (j n i d : ℕ) → i < n → get_or (span j n) i d ≡ j + i
unfolding span
get_d_span j zero i d h = absurd (omega arith)
get_d_span j (suc n) zero d h = omega arith
get_d_span j (suc n) (suc i) d h = get_d_span (suc j) n i d (omega arith) ∙ omega arith

-- a word stands for no tag, or it is the number of its tag
pub code_tag : (z : ℤ) → (tag_of z ≡ Tag.unused) ⊎ (z ≡ pos (code (tag_of z)))
unfolding code tag_of tags span
code_tag (pos n) =
    ⊎_elim
    (λ h. inr (ap pos (sym (get_d_span 0 11 n 11 (ltb-true n 11 h) ∙ omega arith) ∙ get_or-map code tags n Tag.unused)))
    (λ h. inl (get_or-eq_default tags Tag.unused (ltb-false n 11 h)))
    (decide (ltb n 11))
code_tag (negsuc n) = inl refl

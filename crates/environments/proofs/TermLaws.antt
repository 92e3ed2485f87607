-- Terms at an index under an environment: the number of a constant or of a variable, and the numbers of terms one at a time.
use Prim.Native.Nat.{ℕ, suc, ◌+◌, ◌*◌, ◌-◌, ◌≤◌, ◌<◌}
use native.Mathlib.Omega.{arith}
use mathlib.Core.Path.{◌≡◌, sym, ap, subst, ◌∙◌}
use mathlib.Core.Bool.{Bool, true, false}
use mathlib.Core.List.{List, [], ◌∷◌, ◌++◌, append_assoc, append-nil}
use lib.ListN.{length, set, take, drop, replicate}
use lib.Seq.{drop-drop}
use lib.IntN.{ℤ, pos}
use Rattle.model.specs.Words.{Words, word, value, equal}
use Rattle.model.specs.Lists.{all}
use Rattle.model.specs.Tree.{Term}
use Rattle.model.specs.Reading.{places, term_at}
use Rattle.model.specs.Listing.{Environment, number_in, look, numbers_in}
use Rattle.model.specs.Truth.{sum_at_most}
use Rattle.policies.specs.Standing.{terms_at}
use Rattle.policies.proofs.TermLaws.{place-holds, term-constant, term-variable, terms_from, terms-first, terms-next, terms-last}
use Rattle.environments.proofs.Filling.{take_next, drop-next}

-- the number of the term at an index, by its kind
module _ (e : Environment) (words : Words) (i : ℕ) where
  pub constant_number : equal (word words i) (pos 0) ≡ true → word words (i + 1) ≡ number_in (look e (term_at words i))
  unfolding look number_in
  constant_number q = sym (ap (λ (t : Term). number_in (look e t)) (term-constant words i q))

  pub variable-number : equal (word words i) (pos 0) ≡ false → number_in (e (value words (i + 1))) ≡ number_in (look e (term_at words i))
  unfolding look
  variable-number q = sym (ap (λ (t : Term). number_in (look e t)) (term-variable words i q))

-- of a test that holds of two places, each one
pub first_holds : (test : ℕ → Bool) (at : ℕ) → all test (places (at + 2) 2) ≡ true → test (at + 2) ≡ true
first_holds test at h = subst (λ (k : ℕ). test k ≡ true) (omega arith) (place-holds test (at + 2) 2 0 h (omega arith))

pub second_holds : (test : ℕ → Bool) (at : ℕ) → all test (places (at + 2) 2) ≡ true → test (at + 4) ≡ true
second_holds test at h = subst (λ (k : ℕ). test k ≡ true) (omega arith) (place-holds test (at + 2) 2 1 h (omega arith))

-- equal numbers have equal sums
pub sum_same : {d d' x x' y y' : ℤ} → d ≡ d' → x ≡ x' → y ≡ y' → sum_at_most d x y ≡ sum_at_most d' x' y'
sum_same p q r = cc

-- the numbers of n terms, the first i of them in an array
module _ (e : Environment) (words : Words) (first n : ℕ) where
  abbrev pub numbers_from : (i : ℕ) → List ℤ
  numbers_from i = numbers_in e (terms_from words first n i)

  pub numbers-first : numbers_in e (terms_at words first n) ≡ numbers_from 0
  numbers-first = ap (numbers_in e) (terms-first words first n)

  pub numbers-next :
      (l : List ℤ) (i : ℕ) (v : ℤ) →
      i < n →
      i < length l →
      v ≡ number_in (look e (term_at words (first + 2 * i))) →
      take i l ++ numbers_from i ≡ take (i + 1) (set l i v) ++ numbers_from (i + 1)
  unfolding numbers_in
  numbers-next l i v h k q =
      ap (λ (ts : List Term). take i l ++ numbers_in e ts) (terms-next words first n i h)
      ∙ ap (λ (m : ℤ). take i l ++ m ∷ numbers_from (i + 1)) (sym q)
      ∙ sym (append_assoc (take i l) (v ∷ []) (numbers_from (i + 1)))
      ∙ ap (λ (p : List ℤ). p ++ numbers_from (i + 1)) (sym (take_next l i v k))

  pub numbers-last : (l : List ℤ) (i : ℕ) → n ≤ i → take i l ++ numbers_from i ≡ take i l
  unfolding numbers_in
  numbers-last l i h = ap (λ (ts : List Term). take i l ++ numbers_in e ts) (terms-last words first n i h) ∙ append-nil (take i l)

-- behind the elements that are there stand zeros
pub zeros-next : (l : List ℤ) (m i : ℕ) (v : ℤ) → i < m → drop i l ≡ replicate (m - i) (pos 0) → drop (i + 1) (set l i v) ≡ replicate (m - (i + 1)) (pos 0)
zeros-next l m i v h q =
    let some : m - i ≡ suc (m - (i + 1)) = omega arith in
    drop-next l i v ∙ sym (drop-drop 1 i l) ∙ ap (drop 1) (q ∙ ap (λ (k : ℕ). replicate k (pos 0)) some)

-- Signed words of 32 bits: what the machine reads back from their bits, their magnitude, and tests on them.
use Prim.Native.Nat.{ℕ, suc, ◌+◌, ◌-◌, ◌^◌, ◌<◌}
use native.Mathlib.Nat.{zero-add}
use native.Mathlib.Omega.{arith}
use mathlib.Core.Path.{◌≡◌, refl, sym, ap, ◌∙◌}
use mathlib.Core.Logic.{⊎_elim}
use mathlib.Core.Bool.{true, false, true≢false, false≢true, ◌&&◌}
use lib.Dec.{T, leb, ltb, eqb, leb-zero}
use lib.IntN.{ℤ, pos, negsuc, nat_abs, ◌+ℤ◌, ◌-ℤ◌}
use lib.Signed.{le_z, lt_z, non_neg}
use mir.Syntax.{w32, w64}
use mir.Val.{SFits, of_z}
use borrow.Author.Tests.{ltb-true, eqb-true, eqb-false, eq-eqb, ne_eqb, le-ltb}
use Rattle.model.specs.Words.{at_least, within, below, equal}
use Rattle.laws.specs.Words.Tests.{decide}

-- what is not below 0 is not negative
pub not_negative : (x : ℤ) → lt_z x (pos 0) ≡ false → T (non_neg x)
not_negative (pos n) e = tt
not_negative (negsuc n) e = absurd (true≢false e)

-- 0 minus a negative word: it fits, is not negative, and has the word's magnitude
pub minus-fits : (x : ℤ) → SFits w32 x → lt_z x (pos 0) ≡ true → SFits w64 (pos 0 -ℤ x)
minus-fits (pos n) h e = absurd (omega (arith, ltb-true n 0 e))
minus-fits (negsuc n) h e = record { sfits = omega (arith, h.sfits) }

pub minus-non_neg : (x : ℤ) → lt_z x (pos 0) ≡ true → T (non_neg (pos 0 -ℤ x))
minus-non_neg (pos n) e = absurd (omega (arith, ltb-true n 0 e))
minus-non_neg (negsuc n) e = tt

pub minus_abs : (x : ℤ) → lt_z x (pos 0) ≡ true → nat_abs (pos 0 -ℤ x) ≡ nat_abs x
minus_abs (pos n) e = absurd (omega (arith, ltb-true n 0 e))
minus_abs (negsuc n) e = zero-add (suc n)

-- a word plus 2 ^ 31 is a number, and fits
pub raised : (x : ℤ) → SFits w32 x → (y : ℕ) × (x +ℤ pos (2 ^ 31) ≡ pos y) × (y < 2 ^ 32)
raised (pos n) h = let b : n < 2 ^ 31 = h.sfits in (n + 2 ^ 31, refl, omega arith)
raised (negsuc n) h =
    let b : n < 2 ^ 31 = h.sfits in
    (2 ^ 31 - suc n, rw (le-ltb (2 ^ 31) (suc n) (omega arith)) refl, omega arith)

-- a word's bits are equal exactly if the words are
pub same_bits : (x y : ℤ) → SFits w32 x → SFits w32 y → eqb (of_z w32 x) (of_z w32 y) ≡ equal x y
unfolding equal
same_bits (pos a) (pos b) h k = refl
same_bits (pos a) (negsuc b) h k = ne_eqb _ _ (λ (q : a ≡ 2 ^ 32 - suc b). let p : a < 2 ^ 31 = h.sfits in let r : b < 2 ^ 31 = k.sfits in omega arith)
same_bits (negsuc a) (pos b) h k = ne_eqb _ _ (λ (q : 2 ^ 32 - suc a ≡ b). let p : a < 2 ^ 31 = h.sfits in let r : b < 2 ^ 31 = k.sfits in omega arith)
same_bits (negsuc a) (negsuc b) h k =
    ⊎_elim
    (λ e. eq-eqb _ _ (ap (λ (n : ℕ). 2 ^ 32 - suc n) (eqb-true a b e)) ∙ sym e)
    (λ e. ne_eqb _ _ (λ (q : 2 ^ 32 - suc a ≡ 2 ^ 32 - suc b). eqb-false a b e (let p : a < 2 ^ 31 = h.sfits in let r : b < 2 ^ 31 = k.sfits in omega arith)) ∙ sym e)
    (decide (eqb a b))

-- two words with the same bits are equal, and else not
module _ (x y : ℤ) (h : SFits w32 x) (k : SFits w32 y) where
  pub bits-equal : of_z w32 x ≡ of_z w32 y → equal x y ≡ true
  bits-equal q = sym (same_bits x y h k) ∙ eq-eqb _ _ q

  pub bits-unequal : (of_z w32 x ≡ of_z w32 y → ⊥) → equal x y ≡ false
  bits-unequal q = sym (same_bits x y h k) ∙ ne_eqb _ _ q

-- tests on a word, by its sign and its magnitude
module _ (z : ℤ) where
  pub at_least-negative : (low : ℕ) → lt_z z (pos 0) ≡ true → false ≡ at_least low z
  unfolding at_least
  at_least-negative low e = go z e
    where
      go : (z : ℤ) → lt_z z (pos 0) ≡ true → false ≡ le_z (pos low) z
      go (pos n) e = absurd (omega (arith, ltb-true n 0 e))
      go (negsuc n) e = refl

  pub at_least_magnitude : (low : ℕ) → lt_z z (pos 0) ≡ false → leb low (nat_abs z) ≡ at_least low z
  unfolding at_least
  at_least_magnitude low e = go z e
    where
      go : (z : ℤ) → lt_z z (pos 0) ≡ false → leb low (nat_abs z) ≡ le_z (pos low) z
      go (pos n) e = refl
      go (negsuc n) e = absurd (true≢false e)

  pub within_low : (low high : ℕ) → at_least low z ≡ false → false ≡ within low high z
  unfolding within at_least
  within_low low high e = rw e

  pub within_magnitude : (low high : ℕ) → at_least low z ≡ true → leb (nat_abs z) high ≡ within low high z
  unfolding within at_least
  within_magnitude low high e = go z e
    where
      go : (z : ℤ) → le_z (pos low) z ≡ true → leb (nat_abs z) high ≡ (le_z (pos low) z && le_z z (pos high))
      go (pos n) e = rw e
      go (negsuc n) e = absurd (false≢true e)

  pub below-negative : (n : ℕ) → lt_z z (pos 0) ≡ true → false ≡ below n z
  unfolding below
  below-negative n e = go z e
    where
      go : (z : ℤ) → lt_z z (pos 0) ≡ true → false ≡ (le_z (pos 0) z && lt_z z (pos n))
      go (pos m) e = absurd (omega (arith, ltb-true m 0 e))
      go (negsuc m) e = refl

  pub below_magnitude : (n : ℕ) → lt_z z (pos 0) ≡ false → ltb (nat_abs z) n ≡ below n z
  unfolding below
  below_magnitude n e = go z e
    where
      go : (z : ℤ) → lt_z z (pos 0) ≡ false → ltb (nat_abs z) n ≡ (le_z (pos 0) z && lt_z z (pos n))
      go (pos m) e = rw (leb-zero m)
      go (negsuc m) e = absurd (true≢false e)

  pub is_negative : (n : ℕ) → lt_z z (pos 0) ≡ true → false ≡ equal z (pos n)
  unfolding equal
  is_negative n e = go z e
    where
      go : (z : ℤ) → lt_z z (pos 0) ≡ true → false ≡ equal z (pos n)
      go (pos m) e = absurd (omega (arith, ltb-true m 0 e))
      go (negsuc m) e = refl

  pub is_magnitude : (n : ℕ) → lt_z z (pos 0) ≡ false → eqb (nat_abs z) n ≡ equal z (pos n)
  unfolding equal
  is_magnitude n e = go z e
    where
      go : (z : ℤ) → lt_z z (pos 0) ≡ false → eqb (nat_abs z) n ≡ equal z (pos n)
      go (pos m) e = refl
      go (negsuc m) e = absurd (true≢false e)

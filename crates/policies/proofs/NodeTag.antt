-- The tag of a word, by its sign and its magnitude.
use Prim.Native.Nat.{ℕ, zero, suc, ◌≤◌}
use native.Mathlib.Omega.{arith}
use mathlib.Core.Path.{◌≡◌, refl, sym, ap}
use mathlib.Core.Bool.{true, false, true≢false}
use lib.ListN.{get_or, get_or-eq_default}
use lib.IntN.{ℤ, pos, negsuc, nat_abs}
use lib.Signed.{lt_z}
use borrow.Author.Tests.{ltb-true}
use Rattle.model.specs.Tag.{Tag, tags, tag_of}

-- a word below 0 stands for no tag
pub negative_tag : (z : ℤ) → lt_z z (pos 0) ≡ true → Tag.unused ≡ tag_of z
unfolding tag_of
negative_tag (pos n) e = absurd (omega (arith, ltb-true n 0 e))
negative_tag (negsuc n) e = refl

-- any other stands for the tag that is its number in the list
pub number_tag : (z : ℤ) (n : ℕ) → lt_z z (pos 0) ≡ false → n ≡ nat_abs z → get_or tags n Tag.unused ≡ tag_of z
unfolding tag_of
number_tag (pos m) n e q = ap (λ (k : ℕ). get_or tags k Tag.unused) q
number_tag (negsuc m) n e q = absurd (true≢false e)

-- behind the eleven tags stands none
pub no_tag : (n : ℕ) → 11 ≤ n → Tag.unused ≡ get_or tags n Tag.unused
unfolding tags
no_tag n h = sym (get_or-eq_default tags Tag.unused h)

-- what is none of the numbers below k is at least k
abbrev pub NoneBelow : (k n : ℕ) → Type 0
NoneBelow zero n = Unit {0}
NoneBelow (suc k) n = NoneBelow k n × (n ≡ k → ⊥)

pub none_below : (k n : ℕ) → NoneBelow k n → k ≤ n
none_below zero n h = omega arith
none_below (suc k) n h = let below = none_below k n h.0 in let here = h.1 in omega arith

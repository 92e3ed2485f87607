-- A part of words, from number i on: its first word and those behind it; and two parts compared word by word.
use Prim.Native.Nat.{ℕ, suc, ◌+◌, ◌-◌, ◌≤◌, ◌<◌}
use native.Mathlib.Omega.{arith}
use mathlib.Core.Path.{◌≡◌, ap, ap₂, ◌∙◌}
use mathlib.Core.Bool.{Bool, true, false, ◌&&◌}
use mathlib.Core.List.{[], ◌∷◌}
use lib.ListN.{length, get_or, take, drop}
use lib.Seq.{drop-cons}
use lib.IntN.{pos}
use Rattle.model.specs.Words.{Words, equal, equal_all}

-- a part of words from number i on: its first word, and the part from the next on
module _ (ws : Words) (at n : ℕ) where
  abbrev pub part_from : (i : ℕ) → Words
  part_from i = take (n - i) (drop (at + i) ws)

  pub part-first : take n (drop at ws) ≡ part_from 0
  part-first =
      let all : n ≡ n - 0 = omega arith in
      let here : at ≡ at + 0 = omega arith in
      ap₂ (λ (k j : ℕ). take k (drop j ws)) all here

  pub part-next : (i : ℕ) → i < n → at + n ≤ length ws → part_from i ≡ get_or ws (at + i) (pos 0) ∷ part_from (i + 1)
  part-next i h l =
      let more : n - i ≡ suc (n - (i + 1)) = omega arith in
      let next : suc (at + i) ≡ at + (i + 1) = omega arith in
      ap₂ (λ (k : ℕ) (p : Words). take k p) more (drop-cons ws (at + i) (pos 0) (omega arith))
      ∙ ap (λ (j : ℕ). get_or ws (at + i) (pos 0) ∷ take (n - (i + 1)) (drop j ws)) next

  pub part-last : (i : ℕ) → n ≤ i → part_from i ≡ []
  part-last i h = let none : n - i ≡ 0 = omega arith in ap (λ (k : ℕ). take k (drop (at + i) ws)) none

-- two parts are equal, from number i on
module _ (a : Words) (at : ℕ) (b : Words) (from n : ℕ) where
  abbrev pub equal_from : (i : ℕ) → Bool
  equal_from i = equal_all (part_from a at n i) (part_from b from n i)

  pub equal-first : equal_all (take n (drop at a)) (take n (drop from b)) ≡ equal_from 0
  equal-first = ap₂ equal_all (part-first a at n) (part-first b from n)

  module _ (i : ℕ) (h : i < n) (l : at + n ≤ length a) (k : from + n ≤ length b) where
    equal_next : equal_from i ≡ (equal (get_or a (at + i) (pos 0)) (get_or b (from + i) (pos 0)) && equal_from (i + 1))
    unfolding equal_all
    equal_next = ap₂ equal_all (part-next a at n i h l) (part-next b from n i h k)

    pub equal_on : equal (get_or a (at + i) (pos 0)) (get_or b (from + i) (pos 0)) ≡ true → equal_from i ≡ equal_from (i + 1)
    equal_on q = equal_next ∙ ap (λ (x : Bool). x && equal_from (i + 1)) q

    pub equal_off : equal (get_or a (at + i) (pos 0)) (get_or b (from + i) (pos 0)) ≡ false → equal_from i ≡ false
    equal_off q = equal_next ∙ ap (λ (x : Bool). x && equal_from (i + 1)) q

  pub equal-last : (i : ℕ) → n ≤ i → equal_from i ≡ true
  unfolding equal_all
  equal-last i h = ap₂ equal_all (part-last a at n i h) (part-last b from n i h)

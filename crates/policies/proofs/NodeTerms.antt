-- A test of all numbers of a range, and of the terms of a node.
use Prim.Native.Nat.{ℕ, zero, suc, ◌+◌, ◌*◌}
use native.Mathlib.Numerals.{add-one}
use mathlib.Core.Path.{◌≡◌, refl, ap, ◌∙◌}
use mathlib.Core.Bool.{Bool, ◌&&◌}
use Rattle.std.specs.List.{list_all, range_with_len}
use Rattle.model.specs.Lists.{span, all}
use Rattle.model.specs.Reading.{places}
use Rattle.laws.specs.Lists.Membership.{all_map}

-- the numbers of a range pass a test
pub all_range : (test : ℕ → Bool) (i n : ℕ) → list_all test (range_with_len i n) ≡ all test (span i n)
unfolding span all
all_range test i zero = refl
all_range test i (suc n) = ap (λ (b : Bool). test i && b) (all_range test (i + 1) n ∙ ap (λ (j : ℕ). all test (span j n)) (add-one i))

-- the n terms that begin at `first` pass a test
pub all_places : (test : ℕ → Bool) (first n : ℕ) → list_all (λ i. test (first + 2 * i)) (range_with_len 0 n) ≡ all test (places first n)
unfolding places
all_places test first n = all_range (λ i. test (first + 2 * i)) 0 n ∙ all_map (λ i. test (first + 2 * i)) test (λ i. first + 2 * i) (span 0 n) (λ x m. refl)

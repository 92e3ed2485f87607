-- How many instances there are, and where their tuples stand; and that excluded tuples stand as many words apart as they have.
use Prim.Native.Nat.{ℕ, zero, suc, ◌+◌, ◌*◌, ◌≤◌, ◌<◌}
use native.Mathlib.Omega.{arith}
use mathlib.Core.Path.{◌≡◌, refl, sym, ap, ◌∙◌}
use mathlib.Core.List.{List, [], ◌∷◌, map}
use lib.ListN.{length, get_or, take, drop, length-map, get_or-map}
use lib.IntN.{ℤ}
use Rattle.model.specs.Words.{Words}
use Rattle.model.specs.Listing.{free, Environment}
use Rattle.model.specs.Reduction.{fresh, tuple}
use Rattle.laws.specs.Reading.Items.{tuples}
use Rattle.environments.specs.Listed.{spaced}
use Rattle.environments.proofs.ListedLaws.{listed-tuple}
use Rattle.instances.specs.Instances.{Instanced}

-- the excluded tuples stand as many words apart as they have
pub tuples-spaced : (words : Words) (v from m : ℕ) → spaced words v from v m ≡ tuples words v from m
unfolding spaced tuples
tuples-spaced words v from m = refl

-- an element of a list is there whatever stands past the end
element : {A : Type 0} (l : List A) (j : ℕ) (c d : A) → j < length l → get_or l j c ≡ get_or l j d
element [] j c d h = absurd (omega arith)
element (x ∷ l) zero c d h = refl
element (x ∷ l) (suc j) c d h = element l j c d (omega arith)

module _ (excluded : List (List ℤ)) (v scope : ℕ) (es : List Environment) (after : Words) (first r : ℕ) (left : Instanced excluded v scope es after first r) where
  abbrev instances : List (List ℤ)
  instances = fresh excluded (map (tuple scope v) es)

  -- how many instances there are
  pub instance_count : length instances ≡ r
  instance_count = ap length (sym left.3) ∙ length-map left.0 (tuple scope v) ∙ left.2

  -- the tuple of the instance of a number stands in the place of that number
  pub instance_tuple : (j : ℕ) (τ : List ℤ) → scope + v ≤ 16 → j < r → take v (drop (17 * (first + j) + scope) after) ≡ get_or instances j τ
  instance_tuple j τ small h =
      let none = tuple scope v (λ x. free) in
      listed-tuple after first left.0 left.1 scope v small j (omega (arith, left.2))
      ∙ sym (get_or-map (tuple scope v) left.0 j (λ x. free))
      ∙ ap (λ (τs : List (List ℤ)). get_or τs j none) left.3
      ∙ element instances j none τ (omega (arith, instance_count))

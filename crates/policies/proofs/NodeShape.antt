-- Question 3 at one node, by whether its own words are there.
use Prim.Native.Nat.{ℕ, ◌+◌, ◌*◌, ◌-◌, ◌^◌, ◌≤◌, ◌<◌}
use native.Mathlib.Nat.{mul-le-mul_right}
use native.Mathlib.Omega.{arith}
use mathlib.Core.Path.{◌≡◌, refl, sym, ◌∙◌}
use mathlib.Core.Logic.{⊎_elim}
use mathlib.Core.Bool.{Bool, true, false, ◌&&◌}
use lib.ListN.{length}
use lib.Dec.{leb}
use borrow.Author.Tests.{leb-true, leb-false, le-leb, lt-leb}
use Rattle.model.specs.Words.{Words, value}
use Rattle.model.specs.Tag.{Tag}
use Rattle.model.specs.Level.{Role, formula}
use Rattle.model.specs.Reading.{own}
use Rattle.laws.specs.Words.Tests.{decide}
use Rattle.policies.specs.Node.{shapely, There}

-- a conjunction whose second part is known
and_yes : (a : Bool) {b : Bool} → b ≡ true → a ≡ (a && b)
and_yes true e = sym e
and_yes false e = refl

pub and_no : (a : Bool) {b : Bool} → b ≡ false → false ≡ (a && b)
and_no true e = sym e
and_no false e = refl

-- so many words from an index on are there, or not
fitting : (size at n : ℕ) → at ≤ n → size ≤ n - at → leb (at + size) n ≡ true
fitting size at n h k = le-leb (at + size) n (omega arith)

not_fitting : (size at n : ℕ) → at ≤ n → n - at < size → leb (at + size) n ≡ false
not_fitting size at n h k = lt-leb (at + size) n (omega arith)

pub fitting_same : (size at n : ℕ) → at ≤ n → leb size (n - at) ≡ leb (at + size) n
fitting_same size at n h =
    ⊎_elim
    (λ e. e ∙ sym (fitting size at n h (leb-true _ _ e)))
    (λ e. e ∙ sym (not_fitting size at n h (leb-false _ _ e)))
    (decide (leb size (n - at)))

module _ (words : Words) (tag : Tag) (role : Role) (scope at : ℕ) (h : at ≤ length words) where
  -- too few words are left for the node's own
  pub short : length words - at < (own words tag role scope at).size → false ≡ shapely words tag role scope at
  short k = and_no (own words tag role scope at).shape (not_fitting _ at _ h k)

  -- enough are left: their ranges decide
  pub enough :
      (own words tag role scope at).size ≤ length words - at →
      (own words tag role scope at).shape ≡ shapely words tag role scope at
  enough k = and_yes (own words tag role scope at).shape (fitting _ at _ h k)

-- m tuples of at least one number are more than the words that are left, if m is
pub too_many : (v m left : ℕ) → 1 ≤ v → left < m → left < 3 + v * m
too_many v m left h k = omega (arith, mul-le-mul_right m h)

-- m tuples of at most four numbers, for an m no more than the words that are left
pub four_times : (v m left : ℕ) → v ≤ 4 → m ≤ left → left < 2 ^ 61 → 3 + v * m < 2 ^ 64
four_times v m left h k l = omega (arith, mul-le-mul_right m h)

-- what it says that the own words of a node are there, by its tag
module _ (words : Words) (tag : Tag) (at : ℕ) (h : There words tag at) where
  pub atom-there : {b : Bool} → tag ≡ Tag.atom b → at + (3 + 2 * value words (at + 2)) ≤ length words
  unfolding own
  atom-there e = rw e at (h formula 0)

  pub compare-there : {b : Bool} → tag ≡ Tag.compare b → at + 6 ≤ length words
  unfolding own
  compare-there e = rw e at (h formula 0)

  pub quantifier-there :
      {b : Bool} → tag ≡ Tag.quantifier b → at + (3 + value words (at + 1) * value words (at + 2)) ≤ length words
  unfolding own
  quantifier-there e = rw e at (h formula 0)

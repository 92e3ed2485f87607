-- What the choice of instances says.
use Rattle.std.specs.Prelude.{ℕ, ◌+◌, ◌*◌, ◌≤◌, ◌≡◌, List, map, length, take, drop, ℤ}
use Rattle.model.specs.Words.{Words, place_words}
use Rattle.model.specs.Listing.{Environment}
use Rattle.model.specs.Reduction.{fresh, tuple}
use Rattle.laws.specs.Reading.Items.{tuples}
use Rattle.environments.specs.Listed.{Listed}

-- a list is left whose tuples are the instances
abbrev pub Instanced : (excluded : List (List ℤ)) (v scope : ℕ) (es : List Environment) (after : Words) (first r : ℕ) → Type 0
Instanced excluded v scope es after first r =
    (fs : List Environment)
    × Listed after first fs
    × (length fs ≡ r)
    × (map (tuple scope v) fs ≡ fresh excluded (map (tuple scope v) es))

-- the first r of `count` places from `first` on have the instances, whatever list the places held, and the words before and
-- behind these places are as they were
pub record Chosen (words : Words) (from m v scope : ℕ) (before after : Words) (first count r : ℕ) : Type 0 where
  pub found :
      (es : List Environment) →
      Listed before first es →
      length es ≡ count →
      Instanced (tuples words v from m) v scope es after first r
  pub few : r ≤ count
  pub long : length after ≡ length before
  pub front : take (place_words * first) after ≡ take (place_words * first) before
  pub behind : drop (place_words * (first + count)) after ≡ drop (place_words * (first + count)) before

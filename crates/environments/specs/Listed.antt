-- Lists of environments in scratch, one place behind another; and tuples of words, as far apart as they stand there.
use Rattle.std.specs.Prelude.{ℕ, ◌+◌, ◌*◌, ◌≡◌, List, map, length, take, drop, ℤ}
use Rattle.model.specs.Words.{Words, place_words}
use Rattle.model.specs.Lists.{span, gather}
use Rattle.model.specs.Listing.{Environment}
use Rattle.environments.specs.Environment.{place_of}

-- the places from `first` on hold a list of environments, one behind another
pub record Listed (scratch : Words) (first : ℕ) (es : List Environment) : Type 0 where
  pub stands : take (place_words * length es) (drop (place_words * first) scratch) ≡ gather place_of es

-- m tuples of v words, the first at an index and each `step` words behind the one before
unfoldable pub spaced : Words → ℕ → ℕ → ℕ → ℕ → List (List ℤ)
spaced ws v from step m = map (λ i. take v (drop (from + step * i) ws)) (span 0 m)

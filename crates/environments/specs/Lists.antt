-- What the moves of lists of environments in scratch say.
use Rattle.std.specs.Prelude.{ℕ, ◌+◌, ◌*◌, ◌≡◌, List, map, length, take, drop}
use Rattle.model.specs.Words.{Words, place_words}
use Rattle.model.specs.Listing.{Environment, release}
use Rattle.environments.specs.Listed.{Listed}

-- the words outside of `count` places from `first` on are as they were
pub record Outside (before after : Words) (first count : ℕ) : Type 0 where
  pub long : length after ≡ length before
  pub front : take (place_words * first) after ≡ take (place_words * first) before
  pub behind : drop (place_words * (first + count)) after ≡ drop (place_words * (first + count)) before

-- a list of `count` environments at `from` stands at `to`
pub record Moved (before after : Words) (from count to : ℕ) : Type 0 where
  pub outside : Outside before after to count
  pub listed : (es : List Environment) → Listed before from es → length es ≡ count → Listed after to es

-- a list has a variable dropped in each of its environments
pub record Released (variable : ℕ) (before after : Words) (from : ℕ) (es : List Environment) : Type 0 where
  pub outside : Outside before after from (length es)
  pub listed : Listed after from (map (λ e. release e variable) es)

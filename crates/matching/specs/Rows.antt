-- Places filled with the environments that rows make of one.
use Rattle.std.specs.Prelude.{ℕ, ◌*◌, ◌≤◌, ◌<◌, ◌≡◌, List, length, take, Option, Some, None}
use Rattle.model.specs.Words.{Words}
use Rattle.model.specs.Listing.{Environment}
use Rattle.environments.specs.Listed.{Listed}

-- places from `base` on are filled with environments, or they are more than there are places left; the words before are kept
pub record Filled (made : List Environment) (base left : ℕ) (before after : Words) (n : ℕ) : Type 0 where
  pub count : n ≡ length made
  pub few : n ≤ left
  pub listed : Listed after base made

abbrev pub Came : (made : List Environment) (base left : ℕ) (before after : Words) (added : Option ℕ) → Type 0
Came made base left before after None = left < length made
Came made base left before after (Some n) = Filled made base left before after n

pub record Adds (made : List Environment) (base left : ℕ) (before after : Words) (r : Option ℕ) : Type 0 where
  pub came : Came made base left before after r
  pub long : length after ≡ length before
  pub front : take (17 * base) after ≡ take (17 * base) before

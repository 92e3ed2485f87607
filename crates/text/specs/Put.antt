-- What the writing of a text leaves.
use Rattle.std.specs.Prelude.{ℕ, ◌+◌, ◌≤◌, ◌<◌, ◌≡◌, cond, ◌++◌, length, take, leb}
use Rattle.model.specs.Bytes.{Text}
use Rattle.std.specs.Prelude.{Option, Some, None}

-- a text stands from an index on, and the next index is the one behind it
pub record Wrote (text : Text) (at : ℕ) (out out' : Text) (next : ℕ) : Type 0 where
  pub ends : next ≡ at + length text
  pub fits : next ≤ length out
  pub stands : take next out' ≡ take at out ++ text

-- a text from an index on: too little room, or it stands there
abbrev pub Puts : (text : Text) (at : ℕ) (out out' : Text) (put : Option ℕ) → Type 0
Puts text at out out' None = length out < at + length text
Puts text at out out' (Some next) = Wrote text at out out' next

-- what is said of a whole text in so much room
unfoldable pub told : ℕ → Text → Option ℕ
told room text = cond (leb (length text) room) (Some (length text)) None

-- a whole text: what is said of it; if it has room, it stands in front
pub record Writes (text out out' : Text) (r : Option ℕ) : Type 0 where
  pub said : r ≡ told (length out) text
  pub wrote : (n : ℕ) → r ≡ Some n → take n out' ≡ text

-- Words laid to an index of a buffer.
use Rattle.std.specs.Prelude.{ℕ, ◌+◌, ◌≤◌, ◌≡◌, set, ℤ, pos}
use Rattle.model.specs.Words.{Words}

-- words are counted so far
abbrev pub most_words : ℕ
most_words = 2097152

-- a number is the word at an index, if there is one
abbrev pub Stored : (w : ℕ) (out out' : Words) (d : ℤ) → Type 0
Stored w out out' d = out' ≡ set out w d

-- a count that is a word is the word at an index
abbrev pub Laid : (w n : ℕ) (out out' : Words) → Type 0
Laid w n out out' = n ≤ 2147483647 → out' ≡ set out w (pos n)

-- two counts, one behind the other, and three
pub record LaidTwo (w a b : ℕ) (out out' : Words) : Type 0 where
  pub between : Words
  pub first : Laid w a out between
  pub second : Laid (w + 1) b between out'

pub record LaidThree (w a b c : ℕ) (out out' : Words) : Type 0 where
  pub between : Words
  pub two : LaidTwo w a b out between
  pub third : Laid (w + 2) c between out'

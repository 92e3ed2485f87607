-- What the reading of a number in a text finds.
use Rattle.std.specs.Prelude.{ℕ, ◌+◌, ◌*◌, ◌-◌, ◌≤◌, min, ◌≡◌, Bool, true, false, cond, [], ◌∷◌, ◌++◌, length, take, drop, ltb}
use Rattle.std.specs.Prelude.{ℤ, pos, neg_ℤ, Option, Some, None}
use Rattle.model.specs.Bytes.{Text, minus, nought, digit}
use Rattle.model.specs.Lists.{all}
use Rattle.model.specs.Csv.{text_data}
use Rattle.model.specs.Decimal.{numeral, plain_digits, good_number, number_of}
use Rattle.text.specs.declared.cursor.Cursor.{Cursor}
use Rattle.text.specs.declared.reading.Digits.{Digits}
use Rattle.text.specs.Passing.{Passed, Stops}

-- a number stands for another one as far as it is followed: they are equal, or both have more than 32 bits
abbrev pub Follows : (m n : ℕ) → Type 0
Follows m n = min m 2147483649 ≡ min n 2147483649

-- a number with one digit more behind it. One that has 32 bits gets too large
abbrev pub raised : (n b : ℕ) → ℕ
raised n b = cond (ltb n 2147483648) (10 * n + (b - nought)) 2147483649

-- the digits at the front of a text, up to the first byte that is none
pub record Leading (text : Text) (r : Digits) : Type 0 where
  pub to : r.count ≤ length text
  pub digits : all digit (take r.count text) ≡ true
  pub stop : Stops digit (drop r.count text)
  pub follows : Follows r.magnitude (numeral 0 (take r.count text))

-- a sign and a magnitude
abbrev pub signed : (b : Bool) (m : ℕ) → ℤ
signed true m = neg_ℤ (pos m)
signed false m = pos m

-- a magnitude has 32 bits with its sign
abbrev pub Sized : (b : Bool) (m : ℕ) → Type 0
Sized true m = (1 ≤ m) × (m ≤ 2147483648)
Sized false m = m ≤ 2147483647

-- the number that bytes spell, if they spell one
unfoldable pub spelt : Text → Option ℤ
spelt bytes = cond (good_number bytes) (Some (number_of bytes)) None

-- digits that are not plain, or are, with the number that they stand for as far as it is followed
abbrev pub Means : (bytes : Text) (r : Option ℕ) → Type 0
Means bytes None = plain_digits bytes ≡ false
Means bytes (Some n) = (plain_digits bytes ≡ true) × Follows n (numeral 0 bytes)

-- digits were passed, all that stand here
pub record Natural (old new : Cursor) (r : Option ℕ) : Type 0 where
  pub bytes : Text
  pub passed : Passed bytes old new
  pub digits : all digit bytes ≡ true
  pub stop : Stops digit new.rest.now
  pub means : Means bytes r

-- a minus and digits were passed, which can stand in a bare field: what they spell; with the byte behind them they spell no number
pub record NumberAt (old new : Cursor) (r : Option ℤ) : Type 0 where
  pub bytes : Text
  pub passed : Passed bytes old new
  pub text : all text_data bytes ≡ true
  pub is : r ≡ spelt bytes
  pub longer : (b : ℕ) (t : Text) → new.rest.now ≡ b ∷ t → (more : Text) → good_number (bytes ++ b ∷ more) ≡ false

-- the same behind a minus
abbrev pub NegativeAt : (old new : Cursor) (r : Option ℤ) → Type 0
NegativeAt old new r = (start : Cursor) → Passed (minus ∷ []) start old → NumberAt start new r

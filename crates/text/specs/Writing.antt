-- The digits of a number, from the last to the first.
use Rattle.std.specs.Prelude.{ℕ, zero, suc, ◌+◌, ◌/◌, ◌%◌, ◌≤◌, ◌≡◌, [], ◌∷◌, ◌++◌}
use Rattle.model.specs.Bytes.{Text, nought}
use Rattle.model.specs.Decimal.{digits}

-- so many last digits of a number, with zeros in front where it has fewer
unfoldable pub last_digits : ℕ → ℕ → Text
last_digits zero n = []
last_digits (suc k) n = last_digits k (n / 10) ++ (nought + n % 10) ∷ []

-- a number has so many digits, as far as ten are written of it
pub record Width (n r : ℕ) : Type 0 where
  pub some : 1 ≤ r
  pub few : r ≤ 10
  pub is : digits 10 n ≡ last_digits r n

-- Numbers of 32 bits in decimal: which texts spell one, which one, and how it is written.
use Rattle.std.specs.Prelude.{ℕ, zero, suc, ◌+◌, ◌*◌, ◌-◌, ◌/◌, ◌%◌, Bool, false, not, cond, ◌&&◌, ◌||◌, [], ◌∷◌, ◌++◌, length, leb, ltb, eqb, ℤ, pos, negsuc, neg_ℤ}
use Rattle.model.specs.Bytes.{Text, minus, nought, digit}
use Rattle.model.specs.Lists.{all}

-- the number that digits stand for, behind those that stand for n
unfoldable pub numeral : ℕ → Text → ℕ
numeral n [] = n
numeral n (b ∷ t) = numeral (10 * n + (b - nought)) t

-- digits alone, at least one, and no 0 in front of others
unfoldable pub plain_digits : Text → Bool
plain_digits [] = false
plain_digits (b ∷ t) = all digit (b ∷ t) && (not (eqb b nought) || eqb (length t) 0)

-- such digits, or a minus and such digits of a number that is not 0, within 32 bits
unfoldable pub good_number : Text → Bool
good_number [] = false
good_number (b ∷ t) =
    cond (eqb b minus)
    (plain_digits t && leb 1 (numeral 0 t) && leb (numeral 0 t) 2147483648)
    (plain_digits (b ∷ t) && leb (numeral 0 (b ∷ t)) 2147483647)

-- the number that such a text spells
unfoldable pub number_of : Text → ℤ
number_of [] = pos 0
number_of (b ∷ t) = cond (eqb b minus) (neg_ℤ (pos (numeral 0 t))) (pos (numeral 0 (b ∷ t)))

-- the digits of a number below 10 ^ k
unfoldable pub digits : ℕ → ℕ → Text
digits zero n = []
digits (suc k) n = cond (ltb n 10) ((nought + n) ∷ []) (digits k (n / 10) ++ (nought + n % 10) ∷ [])

-- how a number is written. One of 32 bits has at most ten digits
unfoldable pub decimal : ℤ → Text
decimal (pos n) = digits 10 n
decimal (negsuc n) = minus ∷ digits 10 (suc n)

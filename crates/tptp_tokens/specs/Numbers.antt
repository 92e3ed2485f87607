-- What the reading of numbers comes to.
use Rattle.std.specs.Prelude.{ℕ, ◌≤◌, ◌<◌, ◌≡◌, Bool, ◌+◌, ◌&&◌, not, eqb, leb, ℤ, Result, Ok, Err}
use Rattle.model.specs.Bytes.{digit, nought}
use Rattle.model.specs.Answer.{refused}
use Rattle.model.specs.TptpReading.{Reader, more_digits, number, natural, integer}
use Rattle.text.specs.declared.cursor.Cursor.{Cursor}
use Rattle.tptp_tokens.specs.Steps.{from, Reads}
use Rattle.model.specs.declared.Refusal.{Refusal}

-- further digits of a number that is at most `most`
abbrev pub More : (most first : ℕ) (old new : Cursor) (found : Result ℕ Refusal) → Type 0
More most first old new (Ok n) = Reads (more_digits most first) old n new × (first ≤ n) × (n ≤ most)
More most first old new (Err e) = from (more_digits most first) old ≡ refused e new.at

-- a number that is at most `most`, whose first digit is at least this one; it takes a byte at least
abbrev pub digit-from : (least : ℕ) → ℕ → Bool
digit-from least c = leb least c && leb c 57

abbrev pub Numbers : (least most : ℕ) (old new : Cursor) (found : Result ℕ Refusal) → Type 0
Numbers least most old new (Ok n) =
    Reads (number (digit-from least) most) old n new × (old.at < new.at) × (least ≤ n + 48) × (n ≤ most)
Numbers least most old new (Err e) = from (number (digit-from least) most) old ≡ refused e new.at

-- the number of a predicate or a variable, which takes a byte at least
abbrev pub Naturals : (old new : Cursor) (found : Result ℕ Refusal) → Type 0
Naturals old new (Ok n) = Reads natural old n new × (old.at < new.at) × (n ≤ 2147483647)
Naturals old new (Err e) = from natural old ≡ refused e new.at

-- the digits behind a minus: the first is not 0
abbrev pub behind_minus : Reader ℕ
behind_minus = number (λ c. digit c && not (eqb c nought)) 2147483648

abbrev pub Magnitudes : (old new : Cursor) (found : Result ℕ Refusal) → Type 0
Magnitudes old new (Ok n) = Reads behind_minus old n new × (1 ≤ n) × (n ≤ 2147483648)
Magnitudes old new (Err e) = from behind_minus old ≡ refused e new.at

-- a number of 32 bits takes a byte at least
abbrev pub Integers : (old new : Cursor) (found : Result ℤ Refusal) → Type 0
Integers old new (Ok k) = Reads integer old k new × (old.at < new.at)
Integers old new (Err e) = from integer old ≡ refused e new.at

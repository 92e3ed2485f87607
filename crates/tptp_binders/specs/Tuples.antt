-- What the reading of excluded tuples comes to.
use Rattle.std.specs.Prelude.{ℕ, zero, suc, ◌+◌, ◌*◌, ◌≤◌, ◌≡◌, List, [], length, ℤ, cond, eqb, Result, Ok, Err}
use Rattle.std.proofs.lemmas.List.Edits.{sets}
use Rattle.model.specs.Words.{Words}
use Rattle.model.specs.Lists.{gather}
use Rattle.model.specs.Bytes.{bytes, ampersand}
use Rattle.model.specs.Answer.{refused}
use Rattle.model.specs.TptpReading.{Reader, give, token, opening, more, read_unequals, read_tuple, ◌>>=◌}
use Rattle.text.specs.declared.cursor.Cursor.{Cursor}
use Rattle.tptp_tokens.specs.Steps.{from, Value}
use Rattle.tptp_tokens.specs.Laying.{most_words}
use Rattle.model.specs.declared.Refusal.{Refusal}

-- numbers, so many, are the words from an index on, as far as there are words
pub record StoredAll (n w : ℕ) (out out' : Words) (ks : List ℤ) : Type 0 where
  pub number : length ks ≡ n
  pub laid : out' ≡ sets out w ks

-- n variables from x on and their numbers, each behind a bar
unfoldable pub further_unequals : ℕ → ℕ → Reader (List ℤ)
further_unequals zero x = give []
further_unequals (suc n) x = do
  _ ← token (bytes "|")
  read_unequals n x

-- a tuple of v variables begins, and ends: those of more than one stand in parentheses
unfoldable pub tuple_opening : (room v : ℕ) → Reader (Unit {0})
tuple_opening room v = cond (eqb v 1) (give tt) (opening room)

unfoldable pub tuple_closing : (v : ℕ) → Reader (Unit {0})
tuple_closing v = cond (eqb v 1) (give tt) (token (bytes ")"))

-- tuples, so many; their numbers are the words from an index on, unless these are too many to be counted
pub record StoredTuples (v w count : ℕ) (out out' : Words) (ts : List (List ℤ)) : Type 0 where
  pub number : length ts ≡ count
  pub size : length (gather (λ tuple. tuple) ts) ≡ v * count
  pub laid : w + v * count ≤ most_words → out' ≡ sets out w (gather (λ tuple. tuple) ts)

abbrev pub TuplesRead : (room v x w : ℕ) (out out' : Words) (old new : Cursor) (count : Result ℕ Refusal) → Type 0
TuplesRead room v x w out out' old new (Ok n) = Value (more ampersand (read_tuple room v x)) (StoredTuples v w n out out') old new
TuplesRead room v x w out out' old new (Err e) = from (more ampersand (read_tuple room v x)) old ≡ refused e new.at

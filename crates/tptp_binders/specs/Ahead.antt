-- What stands ahead in a text.
use Rattle.std.specs.Prelude.{ℕ, suc, ◌-◌, ◌≤◌, ◌≡◌, Bool, true, cond, ◌&&◌, ◌||◌, [], ◌∷◌, length, drop, eqb}
use Rattle.model.specs.Bytes.{Text, ampersand, bar, parenthesis, exclamation, interrogation}
use Rattle.model.specs.TptpReading.{behind_blanks, begins_with}
use Rattle.text.specs.declared.cursor.Cursor.{Cursor}
use Rattle.tptp_tokens.specs.Steps.{Moved}

-- a text from the first byte on that is a connective or a closing parenthesis outside of the parentheses opened in it and of the
-- `depth` ones that are open where it begins; nothing, if there is none
unfoldable pub stopping : Text → ℕ → Text
stopping [] depth = []
stopping (b ∷ t) depth =
    cond (eqb b parenthesis)
    (stopping t (suc depth))
    (cond (eqb b 41)
    (cond (eqb depth 0) (b ∷ t) (stopping t (depth - 1)))
    (cond (eqb depth 0 && (eqb b ampersand || eqb b bar)) (b ∷ t) (stopping t depth)))

-- so many bytes stand before it
pub record StopsBehind (text : Text) (n : ℕ) : Type 0 where
  pub high : n ≤ length text
  pub stops : drop n text ≡ stopping text 0

-- it stands at this place
pub record StopsAt (here stop : Cursor) : Type 0 where
  pub moved : Moved here stop
  pub stops : stop.rest.now ≡ stopping here.rest.now 0

-- a text begins with a byte, behind blanks
unfoldable pub begins : ℕ → Text → Bool
begins c text = begins_with c (behind_blanks text)

-- of an operand that begins as a quantifier: whether it stands in an all-of, by the connective behind it
pub record Foretells (text : Text) (r : Bool) : Type 0 where
  pub tells : (begins exclamation text || begins interrogation text) ≡ true → r ≡ begins_with ampersand (stopping text 0)

-- What is passed of a text that is read front to back.
use Rattle.std.specs.Prelude.{ℕ, ◌+◌, ◌≡◌, Bool, true, false, [], ◌∷◌, ◌++◌, length, eqb}
use Rattle.model.specs.Bytes.{Text}
use Rattle.text.specs.declared.cursor.Cursor.{Cursor}

-- bytes were passed, from one place to another
pub record Passed (bytes : Text) (old new : Cursor) : Type 0 where
  pub rest : old.rest.now ≡ bytes ++ new.rest.now
  pub at : new.at ≡ old.at + length bytes

-- no byte of a kind stands first
unfoldable pub Stops : (kind : ℕ → Bool) → Text → Type 0
Stops kind [] = Unit {0}
Stops kind (b ∷ t) = kind b ≡ false

-- a byte was passed, or it does not stand here
abbrev pub Passes : (b : ℕ) (old new : Cursor) (r : Bool) → Type 0
Passes b old new true = Passed (b ∷ []) old new
Passes b old new false = (new ≡ old) × Stops (λ c. eqb c b) old.rest.now

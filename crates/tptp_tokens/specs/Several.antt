-- What it comes to whether one more of several things follows.
use Rattle.std.specs.Prelude.{ℕ, ◌<◌, ◌≡◌, Bool, true, false, [], ◌∷◌, cond, eqb, Result, Ok, Err}
use Rattle.model.specs.Answer.{refused}
use Rattle.model.specs.TptpReading.{Reader, give, look, token, ◌>>=◌}
use Rattle.text.specs.declared.cursor.Cursor.{Cursor}
use Rattle.tptp_tokens.specs.Steps.{from, Reads}
use Rattle.model.specs.declared.Refusal.{Refusal}

-- whether this byte stands here, behind blanks: it is passed then, and the blanks are passed in any case
unfoldable pub another : ℕ → Reader Bool
another c = do
  b ← look
  cond (eqb b c)
      (do
        _ ← token (c ∷ [])
        give true)
      (give false)

abbrev pub AnotherRead : (c : ℕ) (old new : Cursor) (more : Result Bool Refusal) → Type 0
AnotherRead c old new (Ok b) = Reads (another c) old b new × (b ≡ true → old.at < new.at)
AnotherRead c old new (Err e) = from (another c) old ≡ refused e new.at

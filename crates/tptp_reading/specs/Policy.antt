-- What the reading of a whole text comes to.
use Rattle.std.specs.Prelude.{◌+◌, ◌≡◌, [], length, Result, Ok, Err}
use Rattle.model.specs.Words.{Words}
use Rattle.model.specs.Bytes.{Text}
use Rattle.model.specs.Tree.{Tree}
use Rattle.model.specs.Level.{formula}
use Rattle.model.specs.TptpReading.{Reader, blanks, ending, read_whole, ◌>>=◌}
use Rattle.model.specs.Answer.{refused, passed}
use Rattle.model.specs.declared.Refused.{Refused}
use Rattle.model.specs.declared.Refusal.{Refusal}
use Rattle.text.specs.declared.cursor.Cursor.{Cursor}
use Rattle.tptp_tokens.specs.Steps.{from}
use Rattle.modes.specs.Mode.{none}
use Rattle.tptp_state.specs.Told.{Passed, Told}
use Rattle.tptp_state.specs.declared.state.State.{State}

-- the end of a text, behind blanks
abbrev pub blanks_ending : Reader (Unit {0})
blanks_ending = do
  _ ← blanks
  ending

-- what is known before anything is read
abbrev pub start_state : State
start_state = record { words = 0; asked = Passed; moded = Passed; set = none }

-- a text is read from a place to its end, or it is refused
abbrev pub TextRead : (table : Words) (out out' : Words) (old new : Cursor) (r : Result State Refusal) → Type 0
TextRead table out out' old new (Ok s) =
    (t : Tree)
    × (from (read_whole 255) old ≡ passed (record { what = t; rest = []; at = old.at + length old.rest.now }))
    × Told table t formula 0 0 start_state s out out'
TextRead table out out' old new (Err e) = from (read_whole 255) old ≡ refused e new.at

-- and a whole one
abbrev pub PolicyRead : (table : Words) (text : Text) (out out' : Words) (r : Result State Refused) → Type 0
PolicyRead table text out out' (Ok s) =
    (t : Tree) × (read_whole 255 text 0 ≡ passed (record { what = t; rest = []; at = length text })) × Told table t formula 0 0 start_state s out out'
PolicyRead table text out out' (Err e) = read_whole 255 text 0 ≡ refused e.0 e.1

-- What the parts of the calls that read and write logs as text say on the way to them.
use Rattle.std.specs.Prelude.{ℕ, ◌*◌, ◌-◌, ◌≤◌, ◌<◌, ◌≡◌, ◌++◌, length, take, Result}
use Rattle.model.specs.Words.{Words}
use Rattle.model.specs.Bytes.{Text}
use Rattle.model.specs.Answer.{Answer, Outcome, passed, answer, count, ◌>>=◌}
use Rattle.model.specs.Log.{row_count, ask_log}
use Rattle.model.specs.Calls.{zeros, filled, in_room, ask_reading, ask_writing}
use Rattle.model.specs.declared.Refused.{Refused}
use Rattle.tables.specs.Checked.{outcome}
use Rattle.csv_reading.specs.Rows.{ask_text}
use Rattle.text.specs.Written.{LeavesText}

-- a text passes 13 and 14, with so many rows
abbrev pub Spelled : (table : Words) (text : Text) (rows : ℕ) → Type 0
Spelled table text rows = (log : Words) × (ask_text table text ≡ passed log) × (length log ≡ 8 * rows)

-- questions 8 to 10 of its rows; and question 12
abbrev pub AskedOf : (table : Words) (text : Text) (r : Result (Unit {0}) Refused) → Type 0
AskedOf table text r = (log : Words) → ask_text table text ≡ passed log → outcome r ≡ ask_log table log

unfoldable pub settled_log : Words → ℕ → Words → Outcome Words
settled_log table room log = do
  _ ← ask_log table log
  in_room room log

-- the answer, if so much room is too little, and in any room
abbrev pub NoRoom : (table : Words) (text : Text) (r : Answer) → Type 0
NoRoom table text r =
    (log : Words) (room : ℕ) → ask_text table text ≡ passed log → room < length log → r ≡ answer row_count (settled_log table room log)

abbrev pub AnyRoom : (table : Words) (text : Text) (room : ℕ) (r : Answer) → Type 0
AnyRoom table text room r = (log : Words) → ask_text table text ≡ passed log → r ≡ answer row_count (settled_log table room log)

-- the answer of the whole reading, and the words that it counts, at the front of so many
pub record ReadsLog (table : Words) (text : Text) (room : ℕ) (after : Words) (r : Answer) : Type 0 where
  pub answered : r ≡ answer row_count (ask_reading table text room)
  pub fits : 8 * count r ≤ room
  pub wrote : take (8 * count r) after ++ zeros (room - 8 * count r) ≡ filled room (ask_reading table text room)

-- the answer of the whole writing, and the bytes that it counts, at the front of so many
abbrev pub WritesLog : (table log : Words) (room : ℕ) (after : Text) (r : Answer) → Type 0
WritesLog table log room after r = LeavesText (ask_writing table log room) room after r

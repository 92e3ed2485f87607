-- What the reading of a whole text finds, and the rows that it leaves.
use Rattle.std.specs.Prelude.{ℕ, ◌+◌, ◌*◌, ◌≤◌, ◌≡◌, ◌++◌, length, take, Result, Ok, Err}
use Rattle.model.specs.declared.Refused.{Refused}
use Rattle.model.specs.Answer.{Outcome, passed, refused, ◌>>=◌}
use Rattle.model.specs.Words.{Words}
use Rattle.model.specs.Bytes.{Text}
use Rattle.model.specs.CsvReading.{read_csv}
use Rattle.model.specs.LogText.{ask_records}

-- a row stands behind so many rows, if there is room
abbrev pub Placed : (count : ℕ) (row rows rows' : Words) → Type 0
Placed count row rows rows' = 8 * count + 8 ≤ length rows → take (8 * count + 8) rows' ≡ take (8 * count) rows ++ row

-- questions 13 and 14: the log's words
unfoldable pub ask_text : Words → Text → Outcome Words
ask_text table text = do
  records ← read_csv text
  ask_records table 0 records

-- they passed, and the rows stand at the front if they fit
pub record Stand (table : Words) (text : Text) (rows : Words) (n : ℕ) : Type 0 where
  pub log : Words
  pub asked : ask_text table text ≡ passed log
  pub long : length log ≡ 8 * n
  pub stands : 8 * n ≤ length rows → take (8 * n) rows ≡ log

abbrev pub RowsRead : (table : Words) (text : Text) (rows : Words) (r : Result ℕ Refused) → Type 0
RowsRead table text rows (Err e) = ask_text table text ≡ refused e.0 e.1
RowsRead table text rows (Ok n) = Stand table text rows n

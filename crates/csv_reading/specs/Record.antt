-- What the reading of a record finds, and the row that it spells.
use Rattle.std.specs.Prelude.{ℕ, ◌<◌, ◌≡◌, Bool, true, false, ◌&&◌, List, ◌∷◌, length, set, ltb, ℤ, Option, Some, None, Result, Ok, Err}
use Rattle.std.specs.Option.{is_some}
use Rattle.model.specs.declared.Refusal.TheVariants.{Csv}
use Rattle.model.specs.Answer.{passed, refused, ◌>>=◌}
use Rattle.model.specs.Words.{Words}
use Rattle.model.specs.Bytes.{Text}
use Rattle.model.specs.Lists.{all}
use Rattle.model.specs.CsvReading.{start}
use Rattle.model.specs.Decimal.{good_number}
use Rattle.model.specs.LogText.{spells_row, row_of}
use Rattle.text.specs.declared.cursor.Cursor.{Cursor}
use Rattle.csv_reading.specs.declared.field.BadByte.{BadByte}
use Rattle.csv_reading.specs.Field.{reading, Same}

-- a field that became the word k of a row, or left the row as it was
pub record Put (field : Option ℤ) (k : ℕ) (row row' : Words) (r : Bool) : Type 0 where
  pub said : r ≡ is_some field && ltb k (length row)
  pub put : r ≡ true → (z : ℤ) → field ≡ Some z → row' ≡ set row k z
  pub kept : r ≡ false → row' ≡ row

-- the answer to question 14, of so many fields that are numbers and make a row
abbrev pub RowAsked : (table row : Words) (k : ℕ) (r : Bool) → Type 0
RowAsked table row k r =
    (fields : List Text) → length fields ≡ k → all good_number fields ≡ true → row ≡ row_of fields → r ≡ spells_row table fields

-- the row that fields spell, or none
abbrev pub Spelled : (table : Words) (fields : List Text) (row : Option Words) → Type 0
Spelled table fields None = spells_row table fields ≡ false
Spelled table fields (Some row) = (spells_row table fields ≡ true) × (row ≡ row_of fields)

-- a record: its fields, the row that they spell, and what comes of the text behind it
pub record Reads (table : Words) (old : Cursor) (row : Option Words) (new : Cursor) : Type 0 where
  pub fields : List Text
  pub reads : reading start old ≡ (reading start new >>= λ rs. passed (fields ∷ rs))
  pub behind : old.at < new.at
  pub same : Same old new
  pub spelled : Spelled table fields row

abbrev pub RecordAt : (table : Words) (old new : Cursor) (r : Result (Option Words) BadByte) → Type 0
RecordAt table old new (Err bad) = reading start old ≡ refused Csv bad.0
RecordAt table old new (Ok row) = Reads table old row new

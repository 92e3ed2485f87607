-- What the reading of a field finds, as a part of the reading of the whole text.
use Rattle.std.specs.Prelude.{ℕ, ℤ, suc, ◌+◌, ◌≤◌, ◌<◌, min, ◌≡◌, Bool, true, false, [], ◌∷◌, ◌++◌, length, get_or, eqb, Option, Result, Ok, Err}
use Rattle.model.specs.declared.Refusal.TheVariants.{Csv}
use Rattle.model.specs.declared.Refused.{Refused}
use Rattle.model.specs.Answer.{Outcome, passed, refused, refused_at, ◌>>=◌}
use Rattle.model.specs.Bytes.{Text, quote}
use Rattle.model.specs.Lists.{all}
use Rattle.model.specs.Csv.{text_data}
use Rattle.model.specs.CsvReading.{Records, State, start, field, quoting, closing, move_behind, add_byte, add_field, add_record, follow}
use Rattle.model.specs.CsvReading.{read_from}
use Rattle.csv_reading.specs.declared.field.End.{End}
use Rattle.csv_reading.specs.declared.field.End.TheVariants.{Comma, Line}
use Rattle.csv_reading.specs.declared.field.BadByte.{BadByte}
use Rattle.csv_reading.specs.declared.field.Field.{Field}
use Rattle.text.specs.declared.cursor.Cursor.{Cursor}
use Rattle.text.specs.Passing.{Passed, Stops}
use Rattle.text.specs.Reading.{spelt}

abbrev pub csv_refused : BadByte → Refused
csv_refused bad = refused_at Csv bad.0

-- bytes in front of the first field of the records that come of a rest
unfoldable pub add_all : Text → Records → Records
add_all [] rs = rs
add_all (b ∷ t) rs = add_byte b (add_all t rs)

unfoldable pub attach : Text → Outcome Records → Outcome Records
attach t o = do
  rs ← o
  passed (add_all t rs)

-- the reading from a state and a place on
abbrev pub reading : (s : State) (here : Cursor) → Outcome Records
reading s here = read_from s here.at here.rest.now

-- the reading behind a whole field, at an index
unfoldable pub behind : ℕ → Text → Outcome Records
behind p [] = passed (add_record [])
behind p (b ∷ t) = follow (move_behind b) b p (λ next. read_from next (suc p) t)

-- what comes of what was found behind a field
unfoldable pub goes_on : End → Cursor → Outcome Records
goes_on Comma here = do
  rs ← reading field here
  passed (add_field rs)
goes_on Line here = do
  rs ← reading start here
  passed (add_record rs)

-- two places of one text: bytes stand between them
pub record Same (old new : Cursor) : Type 0 where
  pub whole : new.at + length new.rest.now ≡ old.at + length old.rest.now
  pub bytes : Text
  pub rest : old.rest.now ≡ bytes ++ new.rest.now

-- a place behind another one; behind a line that may be the same, at the end of the text
abbrev pub Onward : (old : Cursor) (end : End) (new : Cursor) → Type 0
Onward old Comma new = (old.at < new.at) × Same old new
Onward old Line new = (old.at + min 1 (length old.rest.now) ≤ new.at) × Same old new

-- bytes of a bare field were passed, so many, up to the first that can't be one
pub record Bare (old new : Cursor) (more : ℕ) : Type 0 where
  pub bytes : Text
  pub passed : Passed bytes old new
  pub size : length bytes ≡ more
  pub bare : all text_data bytes ≡ true
  pub stop : Stops text_data new.rest.now

-- the rest of a field in quotes was passed, up to the closing quote and with it: it has no bytes exactly if that quote stands at once
pub record Quoted (old new : Cursor) (more : ℕ) : Type 0 where
  pub bytes : Text
  pub behind : old.at < new.at
  pub same : Same old new
  pub reads : reading quoting old ≡ attach bytes (reading closing new)
  pub stop : Stops (λ c. eqb c quote) new.rest.now
  pub none : more ≡ 0 → bytes ≡ []
  pub some : 1 ≤ more → (t : Text) × (bytes ≡ get_or old.rest.now 0 0 ∷ t)

-- the rest of a field that is bare or in quotes; or a place where no allowed text goes on so
abbrev pub Content : (quotes : Bool) (old new : Cursor) (more : Result ℕ BadByte) → Type 0
Content true old new (Ok more) = Quoted old new more
Content true old new (Err bad) = reading quoting old ≡ refused Csv bad.0
Content false old new (Ok more) = Bare old new more
Content false old new (Err bad) = ⊥

-- what stands behind a field
pub record EndOf (old : Cursor) (end : End) (new : Cursor) : Type 0 where
  pub reads : behind old.at old.rest.now ≡ goes_on end new
  pub onward : Onward old end new

abbrev pub Ends : (old new : Cursor) (r : Result End BadByte) → Type 0
Ends old new (Err bad) = behind old.at old.rest.now ≡ refused Csv bad.0
Ends old new (Ok end) = EndOf old end new

-- a field: its content, the number that this is, if it is one, and what comes of the text behind it
pub record FieldOf (old : Cursor) (value : Option ℤ) (end : End) (new : Cursor) : Type 0 where
  pub content : Text
  pub reads : reading field old ≡ attach content (goes_on end new)
  pub is : value ≡ spelt content
  pub onward : Onward old end new

abbrev pub FieldAt : (old new : Cursor) (r : Result Field BadByte) → Type 0
FieldAt old new (Err bad) = reading field old ≡ refused Csv bad.0
FieldAt old new (Ok found) = FieldOf old found.value found.end new

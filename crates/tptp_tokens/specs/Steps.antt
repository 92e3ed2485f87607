-- What a reading comes to, from one place of a text to another.
use Rattle.std.specs.Prelude.{ℕ, ◌+◌, ◌-◌, ◌≤◌, ◌≡◌, false, length, drop, slice_get, Result, Ok, Err, Some}
use Rattle.model.specs.Bytes.{blank}
use Rattle.model.specs.Answer.{Outcome, passed, refused}
use Rattle.model.specs.declared.Refusal.{Refusal}
use Rattle.model.specs.TptpReading.{Got, Reader, blanks}
use Rattle.text.specs.declared.cursor.Cursor.{Cursor}

-- a reader, started at a place
abbrev pub from : {A : Type 0} (reader : Reader A) (here : Cursor) → Outcome (Got A)
from reader here = reader here.rest.now here.at

-- something was read up to a place
abbrev pub got : {A : Type 0} (a : A) (here : Cursor) → Outcome (Got A)
got a here = passed (record { what = a; rest = here.rest.now; at = here.at })

-- a place, or one behind it in the same text
pub record Moved (old new : Cursor) : Type 0 where
  pub low : old.at ≤ new.at
  pub whole : new.at + length new.rest.now ≡ old.at + length old.rest.now
  pub rest : new.rest.now ≡ drop (new.at - old.at) old.rest.now

-- a reader comes to a place
pub record Reads {A : Type 0} (reader : Reader A) (old : Cursor) (a : A) (new : Cursor) : Type 0 where
  pub moved : Moved old new
  pub reads : from reader old ≡ got a new

-- the first place from one on where no blank stands
pub record Skips (old new : Cursor) : Type 0 where
  pub reads : Reads blanks old tt new
  pub stop : (b : ℕ) → slice_get new.rest.now 0 ≡ Some b → blank b ≡ false

abbrev pub Steps : (reader : Reader (Unit {0})) (old new : Cursor) (step : Result (Unit {0}) Refusal) → Type 0
Steps reader old new (Ok u) = Reads reader old tt new
Steps reader old new (Err e) = from reader old ≡ refused e new.at

-- a reader comes to something of which facts hold, or to a refusal
pub record Value {A : Type 0} (reader : Reader A) (facts : A → Type 0) (old new : Cursor) : Type 0 where
  pub what : A
  pub reads : Reads reader old what new
  pub holds : facts what

abbrev pub Valued : {A : Type 0} (reader : Reader A) (facts : A → Type 0) (old new : Cursor) (step : Result (Unit {0}) Refusal) → Type 0
Valued reader facts old new (Ok u) = Value reader facts old new
Valued reader facts old new (Err e) = from reader old ≡ refused e new.at

-- What the reading of a binder comes to.
use Rattle.std.specs.Prelude.{ℕ, suc, ◌≤◌, ◌≡◌, Result, Ok, Err}
use Rattle.model.specs.Answer.{refused}
use Rattle.model.specs.TptpReading.{Reader, variables, read_binder}
use Rattle.text.specs.declared.cursor.Cursor.{Cursor}
use Rattle.tptp_tokens.specs.Steps.{from, Reads}
use Rattle.model.specs.declared.Refusal.{Refusal}

-- a reader comes to so many variables, at most `most` and one, or to a refusal
abbrev pub Counts : (reader : Reader ℕ) (most : ℕ) (old new : Cursor) (count : Result ℕ Refusal) → Type 0
Counts reader most old new (Ok v) = Reads reader old v new × (1 ≤ v) × (v ≤ suc most)
Counts reader most old new (Err e) = from reader old ≡ refused e new.at

abbrev pub VariablesRead : (most x : ℕ) (old new : Cursor) (count : Result ℕ Refusal) → Type 0
VariablesRead most x old new count = Counts (variables most x) most old new count

abbrev pub BinderRead : (most x : ℕ) (old new : Cursor) (count : Result ℕ Refusal) → Type 0
BinderRead most x old new count = Counts (read_binder most x) most old new count

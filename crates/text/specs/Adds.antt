-- What a writer has written.
use Rattle.std.specs.Prelude.{ℕ, ◌≡◌, length}
use Rattle.std.specs.Prelude.{Option, Some, None}
use Rattle.std.specs.Borrow.{MutBor}
use Rattle.model.specs.Bytes.{Text}
use Rattle.text.specs.Put.{Puts}
use Rattle.text.specs.declared.writer.Writer.{Writer}

-- a text is put behind what was written before, if that had room
abbrev pub PutsBehind : (text : Text) (put : Option ℕ) (out out' : Text) (r : Option ℕ) → Type 0
PutsBehind text None out out' r = r ≡ None
PutsBehind text (Some at) out out' r = Puts text at out out' r

-- a writer stands at the front of a buffer
pub record Begins (out : MutBor Text) (w : Writer) : Type 0 where
  pub same : w.out.ghost_name ≡ out.ghost_name
  pub now : w.out.now ≡ out.now
  pub front : w.put ≡ Some 0

-- a writer has put a text more into its buffer
pub record Adds (text : Text) (w w' : Writer) : Type 0 where
  pub same : w'.out.ghost_name ≡ w.out.ghost_name
  pub long : length w'.out.now ≡ length w.out.now
  pub puts : PutsBehind text w.put w.out.now w'.out.now w'.put

-- The answer of a call that writes a text, and what it leaves.
use Rattle.std.specs.Prelude.{ℕ, ◌-◌, ◌≤◌, ◌≡◌, ◌++◌, length, take, replicate}
use Rattle.std.specs.Prelude.{Ok, Err}
use Rattle.model.specs.declared.Refusal.TheVariants.{Room}
use Rattle.model.specs.Bytes.{Text}
use Rattle.model.specs.Answer.{Answer, Outcome, answer, count, refused_at}
use Rattle.model.specs.Calls.{filled_text}
use Rattle.std.specs.Prelude.{Option, Some, None}

-- the answer about a text that was written, or found too little room
unfoldable pub written : Option ℕ → Answer
written None = Err (refused_at Room 0)
written (Some n) = Ok n

-- an answer, and the bytes that it counts, at the front of so many, are what came of the questions
pub record LeavesText (o : Outcome Text) (room : ℕ) (after : Text) (r : Answer) : Type 0 where
  pub answered : r ≡ answer length o
  pub fits : count r ≤ room
  pub wrote : take (count r) after ++ replicate (room - count r) 0 ≡ filled_text room o

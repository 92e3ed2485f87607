-- What the parts of the call reduce say on the way to it.
use Rattle.std.specs.Prelude.{ℕ, ◌-◌, ◌≤◌, min, ◌≡◌, ◌++◌, length, take, leb}
use Rattle.model.specs.declared.Refusal.TheVariants.{Scratch}
use Rattle.model.specs.Words.{Words, policy_limit}
use Rattle.model.specs.Answer.{Answer, Outcome, ask, answer, count, ◌>>=◌}
use Rattle.model.specs.Tree.{Tree, encode}
use Rattle.model.specs.Reduction.{need}
use Rattle.model.specs.Calls.{zeros, filled, write, ask_reduction}
use Rattle.joining.specs.declared.answer.Reduced.{Reduced}
use Rattle.joining.specs.declared.answer.Reduced.TheVariants.{Part}
use Rattle.joining.specs.Answer.{told}

-- what comes of questions 11 and 12, of a residual that needs so many of the places that are lent: its words
unfoldable pub settled : ℕ → ℕ → ℕ → Tree → Outcome Words
settled places need buffer residual = do
  _ ← ask (leb need places) Scratch 0
  write buffer residual

-- an answer, and the words that it counts, at the front of so many, are what came of the questions
pub record Leaves (o : Outcome Words) (room : ℕ) (after : Words) (r : Answer) : Type 0 where
  pub answered : r ≡ answer length o
  pub fits : count r ≤ room
  pub wrote : take (count r) after ++ zeros (room - count r) ≡ filled room o

-- the same of questions 1 to 12, with so many words of scratch
abbrev pub LeavesResidual : (table policy log : Words) (scratch room : ℕ) (after : Words) (r : Answer) → Type 0
LeavesResidual table policy log scratch room after r = Leaves (ask_reduction table policy log scratch room) room after r

-- so many words of a buffer are lent to the walk
abbrev pub lendable : (buffer : ℕ) → ℕ
lendable buffer = min buffer policy_limit

-- what the walk of a policy answered, in words of which so many as can be were lent to it
pub record Walked (places need : ℕ) (residual : Tree) (after : Words) (r : Reduced) : Type 0 where
  pub is : r ≡ told places need (lendable (length after)) residual
  pub words : (n : ℕ) → r ≡ Part n → take n after ≡ encode residual

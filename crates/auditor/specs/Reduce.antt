-- The contract of the call reduce.
use Rattle.std.specs.Prelude.{◌≡◌, length}
use Rattle.model.specs.Words.{Words}
use Rattle.model.specs.Answer.{Answer, AnswersAs}
use Rattle.model.specs.Calls.{reduce_call}

-- the contract of reduce: given these words and lent these, it answers, and leaves scratch and buffer, as the call is defined
pub record Reduces (table policy log scratch buffer : Words) (r : Answer) (scratch' buffer' : Words) : Type 0 where
  pub answered : AnswersAs (reduce_call table policy log (length scratch) (length buffer)).answer r
  pub wrote : buffer' ≡ (reduce_call table policy log (length scratch) (length buffer)).buffer
  pub cleared : scratch' ≡ (reduce_call table policy log (length scratch) (length buffer)).scratch

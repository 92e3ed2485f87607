-- The calls, as functions of their words and texts and of the lengths of scratch and buffer.
use Rattle.std.specs.Prelude.{ℕ, ◌-◌, ◌/◌, ◌&&◌, List, [], ◌++◌, length, replicate, leb, pos}
use Rattle.model.specs.declared.Refusal.TheVariants.{Scratch, Room}
use Rattle.model.specs.Words.{Words, place_words, policy_limit}
use Rattle.model.specs.Answer.{Answer, Outcome, passed, refused, ask, answer, ◌>>=◌}
use Rattle.model.specs.Table.{ask_table}
use Rattle.model.specs.Log.{rows, row_count, ask_log}
use Rattle.model.specs.Tree.{Tree, encode}
use Rattle.model.specs.Level.{formula, greatest}
use Rattle.model.specs.Reading.{read_policy}
use Rattle.model.specs.Mode.{ask_modes}
use Rattle.model.specs.Reduction.{reduce, need}
use Rattle.model.specs.Dual.{dual}
use Rattle.model.specs.Bytes.{Text}
use Rattle.model.specs.CsvReading.{read_csv}
use Rattle.model.specs.LogText.{ask_records, log_text}
use Rattle.model.specs.Tptp.{policy_text}
use Rattle.model.specs.TptpReading.{read_text}

-- what a call that is lent a buffer leaves: its answer and all words of buffer and scratch
pub record Result : Type 0 where
  pub answer : Answer
  pub buffer : Words
  pub scratch : Words

unfoldable pub zeros : ℕ → Words
zeros n = replicate n (pos 0)

-- the words written, then zeros; refused, zeros only
unfoldable pub filled : ℕ → Outcome Words → Words
filled buffer (refused r p) = zeros buffer
filled buffer (passed ws) = ws ++ zeros (buffer - length ws)

unfoldable pub result : ℕ → ℕ → Outcome Words → Result
result scratch buffer written =
    record { answer = answer length written; buffer = filled buffer written; scratch = zeros scratch }

-- questions 1 to 7, of a table and a policy: the tree
unfoldable pub ask_policy : Words → Words → Outcome Tree
ask_policy table policy = do
  _ ← ask_table table
  tree ← read_policy table policy
  _ ← ask_modes tree table 0 0
  passed tree

-- question 12, of the words of a tree
unfoldable pub write : ℕ → Tree → Outcome Words
write buffer tree = do
  let ws = encode tree
  _ ← ask (leb (length ws) buffer && leb (length ws) policy_limit) Room 0
  passed ws

-- check a policy: 1 to 7; the greatest level
unfoldable pub check_policy : Words → Words → Answer
check_policy table policy = answer (λ tree. greatest tree formula 0) (ask_policy table policy)

-- check a log: 1 and 8 to 10; the row count
unfoldable pub check_log : Words → Words → Answer
check_log table log =
    answer (λ _. row_count log) do
      _ ← ask_table table
      ask_log table log

-- questions 11 and 12 of a policy's tree and a log that passed 1 to 10: the words of the residual
unfoldable pub ask_residual : Words → Words → Tree → ℕ → ℕ → Outcome Words
ask_residual table log tree scratch buffer = do
  _ ← ask (leb (need table (rows log) tree []) (scratch / place_words)) Scratch 0
  write buffer (reduce table (rows log) tree [])

-- reduce: 1 to 12; the length of the residual
unfoldable pub ask_reduction : Words → Words → Words → ℕ → ℕ → Outcome Words
ask_reduction table policy log scratch buffer = do
  tree ← ask_policy table policy
  _ ← ask_log table log
  ask_residual table log tree scratch buffer

unfoldable pub reduce_call : Words → Words → Words → ℕ → ℕ → Result
reduce_call table policy log scratch buffer = result scratch buffer (ask_reduction table policy log scratch buffer)

-- dual: 1 to 7 and 12; the length of the dual
unfoldable pub dual_call : Words → Words → ℕ → Result
dual_call table policy buffer =
    result 0 buffer do
      tree ← ask_policy table policy
      write buffer (dual tree)

-- question 12, of a log's words or a text's bytes
unfoldable pub in_room : {A : Type 0} → ℕ → List A → Outcome (List A)
in_room buffer xs = do
  _ ← ask (leb (length xs) buffer) Room 0
  passed xs

-- read a log: 1, 13, 14, 8, 10 and 12; the row count. Question 9 stands in its place too, but 14 has asked it
unfoldable pub ask_reading : Words → Text → ℕ → Outcome Words
ask_reading table text buffer = do
  _ ← ask_table table
  records ← read_csv text
  log ← ask_records table 0 records
  _ ← ask_log table log
  in_room buffer log

unfoldable pub read_log_call : Words → Text → ℕ → Result
read_log_call table text buffer =
    let written = ask_reading table text buffer in
    record { answer = answer row_count written; buffer = filled buffer written; scratch = [] }

-- write a log: 1, 8 to 10 and 12; the bytes
unfoldable pub ask_writing : Words → Words → ℕ → Outcome Text
ask_writing table log buffer = do
  _ ← ask_table table
  _ ← ask_log table log
  in_room buffer (log_text table log)

-- what a call that writes a text leaves: its answer and all bytes of the buffer
pub record TextResult : Type 0 where
  pub answer : Answer
  pub buffer : Text

-- the bytes written, then zeros; refused, zeros only
unfoldable pub filled_text : ℕ → Outcome Text → Text
filled_text buffer (refused r p) = replicate buffer 0
filled_text buffer (passed t) = t ++ replicate (buffer - length t) 0

unfoldable pub text_result : ℕ → Outcome Text → TextResult
text_result buffer written = record { answer = answer length written; buffer = filled_text buffer written }

unfoldable pub write_log_call : Words → Words → ℕ → TextResult
write_log_call table log buffer = text_result buffer (ask_writing table log buffer)

-- read a policy: 1, 15 (or 4, of parentheses), 2 to 7 of the words spelled, and 12; the words
unfoldable pub ask_policy_reading : Words → Text → ℕ → Outcome Words
ask_policy_reading table text buffer = do
  _ ← ask_table table
  tree ← read_text text
  _ ← ask_policy table (encode tree)
  in_room buffer (encode tree)

unfoldable pub read_policy_call : Words → Text → ℕ → Result
read_policy_call table text buffer = result 0 buffer (ask_policy_reading table text buffer)

-- write a policy: 1 to 7 and 12; the bytes
unfoldable pub ask_policy_writing : Words → Words → ℕ → Outcome Text
ask_policy_writing table policy buffer = do
  tree ← ask_policy table policy
  in_room buffer (policy_text tree)

unfoldable pub write_policy_call : Words → Words → ℕ → TextResult
write_policy_call table policy buffer = text_result buffer (ask_policy_writing table policy buffer)

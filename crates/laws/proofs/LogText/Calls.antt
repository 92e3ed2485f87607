-- The two calls on texts: what is written is read back, and what is read, written and read again is the same.
use Rattle.std.specs.Prelude.{ℕ, ◌*◌, ◌-◌, ◌≤◌, ◌≡◌, true, [], ◌++◌, length, take}
use Rattle.std.proofs.Common.{arith, sym, ap, ◌∙◌, subst, take_at}
use Rattle.std.specs.Prelude.{Ok}
use Rattle.model.specs.Words.{Words, word_sized}
use Rattle.model.specs.Lists.{all}
use Rattle.model.specs.Answer.{Outcome, passed, answer}
use Rattle.model.specs.Table.{ask_table}
use Rattle.model.specs.Log.{row_count, ask_log}
use Rattle.model.specs.Bytes.{Text}
use Rattle.model.specs.CsvReading.{read_csv}
use Rattle.model.specs.LogText.{ask_records, log_text}
use Rattle.model.specs.Calls.{zeros, filled, ask_reading, read_log_call, ask_writing, filled_text, text_result, write_log_call}
use Rattle.laws.specs.Answer.{then_passed, pass_then, answer-accepted}
use Rattle.laws.specs.Calls.Room.{fit_passed, fit_pass}
use Rattle.laws.specs.Log as log-laws
use Rattle.laws.specs.LogText.Back.{rows_whole}
use Rattle.laws.proofs.LogText.Back.{text_back}
use Rattle.laws.specs.LogText.Rows.{rows-good}

-- a writing that passed: its log is accepted, and the text is the log's
record WrittenText (table log : Words) (t : Text) : Type 0 where
  table_ok : ask_table table ≡ passed tt
  log_ok : ask_log table log ≡ passed tt
  is : log_text table log ≡ t

writing_passed : (table log : Words) (room : ℕ) (t : Text) → ask_writing table log room ≡ passed t → WrittenText table log t
unfolding ask_writing
writing_passed table log room t e =
    let (u, e₁, e₂) = then_passed (ask_table table) _ e in
    let (v, e₃, e₄) = then_passed (ask_log table log) _ e₂ in
    record { table_ok = e₁; log_ok = e₃; is = (fit_passed room (log_text table log) t e₄).1 }

-- a reading that passed: its log is accepted, has words of 32 bits and fits the buffer
record ReadLog (table : Words) (buffer : ℕ) (log : Words) : Type 0 where
  table_ok : ask_table table ≡ passed tt
  log_ok : ask_log table log ≡ passed tt
  fits : length log ≤ buffer
  sized : all word_sized log ≡ true

reading-passed :
    (table : Words) (text : Text) (buffer : ℕ) (log : Words) →
    ask_reading table text buffer ≡ passed log →
    ReadLog table buffer log
unfolding ask_reading
reading-passed table text buffer log e =
    let (u, e₁, e₂) = then_passed (ask_table table) _ e in
    let (rs, e₃, e₄) = then_passed (read_csv text) _ e₂ in
    let (log', e₅, e₆) = then_passed (ask_records table 0 rs) _ e₄ in
    let (v, e₇, e₈) = then_passed (ask_log table log') _ e₆ in
    let (fits, is) = fit_passed buffer log' log e₈ in
    subst (ReadLog table buffer) is
    (record { table_ok = e₁; log_ok = e₇; fits = fits; sized = (rows-good table e₁ 0 rs log' e₅).sized })

-- the text of an accepted log is read
text-reading :
    (table log : Words) (buffer : ℕ) →
    all word_sized log ≡ true →
    ask_table table ≡ passed tt →
    ask_log table log ≡ passed tt →
    length log ≤ buffer →
    ask_reading table (log_text table log) buffer ≡ passed log
unfolding ask_reading
text-reading table log buffer sized ok e l =
    let (rs, e₁, e₂) = then_passed (read_csv (log_text table log)) _ (text_back table log sized ok e) in
    pass_then _ ok (pass_then _ e₁ (pass_then _ e₂ (pass_then _ e (fit_pass buffer log l))))

-- what a reading that passed gives
reading-result :
    (table : Words) (text : Text) (buffer : ℕ) (log : Words) →
    ask_reading table text buffer ≡ passed log →
    read_log_call table text buffer
    ≡ record { answer = Ok (row_count log); buffer = log ++ zeros (buffer - length log); scratch = [] }
unfolding read_log_call answer filled
reading-result table text buffer log e = rw e

-- the text that an accepted writing leaves
writing_text :
    (table log : Words) (room n : ℕ) →
    (write_log_call table log room).answer ≡ Ok n →
    WrittenText table log (take n (write_log_call table log room).buffer)
unfolding text_result write_log_call filled_text
writing_text table log room n e =
    let (t, passes, long) = answer-accepted length (ask_writing table log room) n e in
    let is = ap (λ (o : Outcome Text). take n (filled_text room o)) passes ∙ take_at t _ n long in
    subst (WrittenText table log) (sym is) (writing_passed table log room t passes)

-- a log of numbers of 32 bits that is written is read back
pub write_read :
    (table log : Words) (room buffer n : ℕ) →
    all word_sized log ≡ true →
    (write_log_call table log room).answer ≡ Ok n →
    length log ≤ buffer →
    read_log_call table (take n (write_log_call table log room).buffer) buffer
    ≡ record { answer = Ok (row_count log); buffer = log ++ zeros (buffer - length log); scratch = [] }
write_read table log room buffer n sized e l =
    let w = writing_text table log room n e in
    rw (← w.is)
    (reading-result table (log_text table log) buffer log (text-reading table log buffer sized w.table_ok w.log_ok l))

-- a writing with room enough for the text of an accepted log is accepted
pub write-accepted :
    (table log : Words) (room : ℕ) →
    ask_table table ≡ passed tt →
    ask_log table log ≡ passed tt →
    length (log_text table log) ≤ room →
    (write_log_call table log room).answer ≡ Ok (length (log_text table log))
unfolding text_result write_log_call ask_writing answer
write-accepted table log room ok e l =
    ap (answer length) (pass_then _ ok (pass_then _ e (fit_pass room (log_text table log) l)))

-- the log that an accepted reading leaves
reading-log :
    (table : Words) (text : Text) (buffer n : ℕ) →
    (read_log_call table text buffer).answer ≡ Ok n →
    (log : Words)
    × (ask_reading table text buffer ≡ passed log)
    × (take (8 * n) (read_log_call table text buffer).buffer ≡ log)
unfolding read_log_call filled
reading-log table text buffer n e =
    let (log, passes, count) = answer-accepted row_count (ask_reading table text buffer) n e in
    let h = reading-passed table text buffer log passes in
    let whole = rows_whole log (log-laws.accepted table log h.log_ok).whole in
    (log, passes, ap (λ (o : Outcome Words). take (8 * n) (filled buffer o)) passes ∙ take_at log _ (8 * n) (omega arith))

-- a log that is read is written, in room enough for its text
pub read-write :
    (table : Words) (text : Text) (buffer room n : ℕ) →
    (read_log_call table text buffer).answer ≡ Ok n →
    let log = take (8 * n) (read_log_call table text buffer).buffer in
    length (log_text table log) ≤ room →
    (write_log_call table log room).answer ≡ Ok (length (log_text table log))
read-write table text buffer room n e l =
    let (log, passes, is) = reading-log table text buffer n e in
    let h = reading-passed table text buffer log passes in
    rw is (write-accepted table log room h.table_ok h.log_ok (rw is at l))

-- what is read, written and read again gives the same result
pub read-write-read :
    (table : Words) (text : Text) (buffer room n k : ℕ) →
    (read_log_call table text buffer).answer ≡ Ok n →
    let log = take (8 * n) (read_log_call table text buffer).buffer in
    (write_log_call table log room).answer ≡ Ok k →
    read_log_call table (take k (write_log_call table log room).buffer) buffer ≡ read_log_call table text buffer
read-write-read table text buffer room n k e w =
    let (log, passes, is) = reading-log table text buffer n e in
    let h = reading-passed table text buffer log passes in
    rw is
    (write_read table log room buffer k h.sized (rw is at w) h.fits ∙ sym (reading-result table text buffer log passes))

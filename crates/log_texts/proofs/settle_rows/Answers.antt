-- `log_texts::settle_rows` meets its contract: too many rows, no room, or the questions asked of them where they stand.
use native.Mathlib.Omega.{arith}
use mathlib.Core.Path.{◌≡◌, sym, ap, ◌∙◌}
use Rattle.model.specs.Words.{Words}
use Rattle.model.specs.Answer.{passed}
use Rattle.model.specs.Log.{ask_log}
use Rattle.laws.specs.Answer.{passed_on}
use Rattle.tables.specs.Checked.{outcome}
use Rattle.csv_reading.specs.Rows.{ask_text}
use Rattle.log_texts.proofs.LogReading.{log-long, log-stands, settled-many, settled-refused, settled-passed}
use Rattle.log_texts.proofs.settle_rows.Goals as goal

pub returns-then-rows-gt4096 : goal.returns-then-rows-gt4096
returns-then-rows-gt4096 c =
    let a = c.args in
    λ log e. settled-many a.table.words.now _ log a.rows
    (log-long a.table.words.now a.text.now a.buffer.now a.rows c.requires log e) c.if-rows-gt4096.true

pub returns-in_err-check_rows : goal.returns-in_err-check_rows
returns-in_err-check_rows c =
    let asked_of : (log : Words) → let a = c.args in ask_text a.table.words.now a.text.now ≡ passed log → outcome c.check_rows.result ≡ ask_log a.table.words.now log = λ log e. let a = c.args in
    c.check_rows.ensures
    ∙ ap (ask_log a.table.words.now) (log-stands a.table.words.now a.text.now a.buffer.now a.rows c.requires log e c.if-buffer-n.false) in
    let a = c.args in
    λ log e. passed_on _ c.from_residual.ensures.1 ∙ settled-refused a.table.words.now _ log (sym (asked_of log e) ∙ ap outcome c.in_err-check_rows.was)

pub returns : goal.returns
returns c =
    let asked_of : (log : Words) → let a = c.args in ask_text a.table.words.now a.text.now ≡ passed log → outcome c.check_rows.result ≡ ask_log a.table.words.now log = λ log e. let a = c.args in
    c.check_rows.ensures
    ∙ ap (ask_log a.table.words.now) (log-stands a.table.words.now a.text.now a.buffer.now a.rows c.requires log e c.if-buffer-n.false) in
    let a = c.args in
    λ log e. let long = log-long a.table.words.now a.text.now a.buffer.now a.rows c.requires log e in
    settled-passed a.table.words.now _ log a.rows long (sym (asked_of log e) ∙ ap outcome c.in_ok-check_rows.was)
    (omega (arith, c.if-buffer-n.false))

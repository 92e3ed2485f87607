-- `checks::check_log` meets its contract, from what the two checks ensure.
use mathlib.Core.Path.{sym, ap, ◌∙◌}
use Rattle.model.specs.Log.{row_count}
use Rattle.laws.specs.Answer.{answers, passed_on}
use Rattle.tables.specs.Checked.{outcome}
use Rattle.checks.proofs.Calls.{log-table-refused, log-refused, log-accepted}
use Rattle.checks.proofs.check_log.Goals as goal

pub returns-in_err-check_table : goal.returns-in_err-check_table
returns-in_err-check_table c =
    let a = c.args in
    answers
    (passed_on _ c.from_residual.ensures.1
    ∙ sym (log-table-refused a.table.now a.log.now (sym c.check_table.ensures ∙ ap outcome c.in_err-check_table.was)))

pub returns-in_err-check_rows : goal.returns-in_err-check_rows
returns-in_err-check_rows c =
    let a = c.args in
    answers
    (passed_on _ c.from_residual-in_err-check_rows.ensures.1
    ∙ sym
    (log-refused a.table.now a.log.now (sym c.check_table.ensures ∙ ap outcome c.in_ok-check_table.was)
    (sym c.check_rows.ensures ∙ ap outcome c.in_err-check_rows.was)))

pub returns : goal.returns
unfolding row_count
returns c =
    let a = c.args in
    answers
    (sym
    (log-accepted a.table.now a.log.now (sym c.check_table.ensures ∙ ap outcome c.in_ok-check_table.was)
    (sym c.check_rows.ensures ∙ ap outcome c.in_ok-check_rows.was)))

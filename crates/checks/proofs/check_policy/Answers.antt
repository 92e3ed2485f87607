-- `checks::check_policy` meets its contract, from what the three checks ensure.
use mathlib.Core.Path.{sym, ap, ◌∙◌}
use Rattle.laws.specs.Answer.{answers, passed_on}
use Rattle.laws.specs.Reading.Encoded.{read-node}
use Rattle.tables.specs.Checked.{outcome}
use Rattle.checks.proofs.Calls.{policy-table-refused, policy-refused, tree-read, modes-refused, policy-accepted}
use Rattle.checks.proofs.check_policy.Goals as goal

pub check_modes-requires : goal.check_modes-requires
check_modes-requires c =
    let a = c.args in
    let e = sym c.check_table.ensures ∙ ap outcome c.in_ok-check_table.was in
    let (tree, is, level) = tree-read a.table.now a.policy.now e (sym c.in_ok-walked.was ∙ c.ask_policy.ensures) in
    (tree, _, read-node a.table.now a.policy.now tree is)

pub returns-in_err-check_table : goal.returns-in_err-check_table
returns-in_err-check_table c =
    let a = c.args in
    answers
    (passed_on _ c.from_residual.ensures.1
    ∙ sym (policy-table-refused a.table.now a.policy.now (sym c.check_table.ensures ∙ ap outcome c.in_err-check_table.was)))

pub returns-in_err-walked : goal.returns-in_err-walked
returns-in_err-walked c =
    let a = c.args in
    let e = sym c.check_table.ensures ∙ ap outcome c.in_ok-check_table.was in
    answers
    (passed_on _ c.from_residual-in_err-walked.ensures.1
    ∙ sym (policy-refused a.table.now a.policy.now e (sym c.in_err-walked.was ∙ c.ask_policy.ensures)))

pub returns-in_err-check_modes : goal.returns-in_err-check_modes
returns-in_err-check_modes c =
    let a = c.args in
    let e = sym c.check_table.ensures ∙ ap outcome c.in_ok-check_table.was in
    let f = sym c.in_ok-walked.was ∙ c.ask_policy.ensures in
    let (tree, is, level) = tree-read a.table.now a.policy.now e f in
    let modes = c.check_modes.ensures tree _ (read-node a.table.now a.policy.now tree is) in
    answers
    (passed_on _ c.from_residual-in_err-check_modes.ensures.1
    ∙ sym (modes-refused a.table.now a.policy.now e f (sym (ap outcome c.in_err-check_modes.was) ∙ modes)))

pub returns : goal.returns
returns c =
    let a = c.args in
    let e = sym c.check_table.ensures ∙ ap outcome c.in_ok-check_table.was in
    let f = sym c.in_ok-walked.was ∙ c.ask_policy.ensures in
    let (tree, is, level) = tree-read a.table.now a.policy.now e f in
    let modes = c.check_modes.ensures tree _ (read-node a.table.now a.policy.now tree is) in
    answers (sym (policy-accepted a.table.now a.policy.now e f (sym (ap outcome c.in_ok-check_modes.was) ∙ modes)))

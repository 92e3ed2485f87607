-- `policy_texts::read` meets its contract, question by question.
use Prim.Native.Nat.{ℕ}
use mathlib.Core.Path.{sym, ap, ◌∙◌}
use Rattle.model.specs.Answer.{answer}
use Rattle.laws.specs.Answer.{passed_on}
use Rattle.tables.specs.Checked.{outcome}
use Rattle.policy_texts.specs.PolicyText.{settled_policy}
use Rattle.policy_texts.proofs.PolicyReading.{table-refused, came_refused, came-read}
use Rattle.policy_texts.proofs.read.Goals as goal

pub returns-in_err-check_table : goal.returns-in_err-check_table
returns-in_err-check_table c =
    let a = c.args in
    rw (passed_on _ c.from_residual.ensures.1)
    (table-refused a.table.now a.text.now _ _ (sym c.check_table.ensures ∙ ap outcome c.in_err-check_table.was))

pub returns-in_err-state : goal.returns-in_err-state
returns-in_err-state c =
    let a = c.args in
    rw (passed_on _ c.from_residual-in_err-state.ensures.1)
    (came_refused a.table.now a.text.now a.buffer.now _ (sym c.check_table.ensures ∙ ap outcome c.in_ok-check_table.was)
    c.policy.result
    c.policy.ensures
    c.in_err-state.was)

pub returns : goal.returns
returns c =
    let a = c.args in
    let s = c.in_ok-state.state in
    came-read a.table.now a.text.now a.buffer.now _ (sym c.check_table.ensures ∙ ap outcome c.in_ok-check_table.was)
    c.policy.result
    c.policy.ensures
    c.in_ok-state.was
    _
    (c.settle.ensures ∙ ap (λ (room : ℕ). answer (λ _. s.words) (settled_policy room s)) c.policy.auto.out)

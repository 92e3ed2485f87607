-- `auditor::dual` meets its contract, from what the policy's check, the clearing and the writing ensure.
use Rattle.model.specs.Calls.{zeros}
use mathlib.Core.Path.{sym, ◌∙◌}
use Rattle.auditor.proofs.DualCall.{tree-written, dual-refused, dual-no-room, dual-written}
use Rattle.auditor.proofs.dual.Goals as goal

pub write_dual-requires : goal.write_dual-requires
write_dual-requires c =
    let a = c.args in (
      c.if-buffer-policy.false,
      tree-written a.table.now a.policy.now a.buffer.now a.buffer.now
          (sym c.in_default.is ∙ c.check_policy.ensures.same),
    )

pub returns-in-Err : goal.returns-in-Err
unfolding zeros
returns-in-Err c =
    let a = c.args in
    let told = dual-refused a.table.now a.policy.now a.buffer.now _
    (sym c.in-Err.is ∙ c.check_policy.ensures.same) c.clear.ensures in record {
      answers_as = told.0;
      buffer_after = told.1;
    }

pub returns-then-buffer-policy : goal.returns-then-buffer-policy
unfolding zeros
returns-then-buffer-policy c =
    let a = c.args in
    let told = dual-no-room a.table.now a.policy.now a.buffer.now _
    (sym c.in_default.is ∙ c.check_policy.ensures.same) c.if-buffer-policy.true c.clear-then-buffer-policy.ensures in record {
      answers_as = told.0;
      buffer_after = told.1;
    }

pub returns : goal.returns
returns c =
    let a = c.args in
    let told = dual-written a.table.now a.policy.now a.buffer.now _
    (sym c.in_default.is ∙ c.check_policy.ensures.same) c.if-buffer-policy.false c.write_dual.ensures in record {
      answers_as = told.0;
      buffer_after = told.1;
    }

-- `residuals::residual::over_log` meets its contract, from what the log's check, the walk and its settling ensure.
use mathlib.Core.Path.{◌≡◌, sym, ap, ◌∙◌}
use lib.ListN.{length}
use Rattle.model.specs.Answer.{passed}
use Rattle.model.specs.Log.{ask_log}
use Rattle.laws.specs.Answer.{passed_on}
use Rattle.tables.specs.Checked.{outcome}
use Rattle.residuals.proofs.ReduceCall.{root, few, log-refused, all_asked}
use Rattle.residuals.proofs.residual.over_log.Goals as goal

pub returns-in_err-check_and_link : goal.returns-in_err-check_and_link
returns-in_err-check_and_link c =
    let a = c.args in
    rw (passed_on _ c.from_residual.ensures.1)
    (log-refused a.table.now a.policy.now a.log.now _ _ c.requires.0 _
    (sym c.check_and_link.ensures.asked ∙ ap outcome c.in_err-check_and_link.was))

pub invariant_of-accepted : goal.invariant_of-accepted
invariant_of-accepted c =
    let a = c.args in
    let logged : ask_log a.table.now a.log.now ≡ passed tt = sym c.check_and_link.ensures.asked ∙ ap outcome c.in_ok-check_and_link.was in
    record {
      few = few a.table.now a.policy.now a.log.now 0 0 c.requires.0;
      accepted = logged;
      linked = c.check_and_link.ensures.linked c.in_ok-check_and_link.was;
    }

pub walk_policy-reduced-requires : goal.walk_policy-reduced-requires
walk_policy-reduced-requires c =
    let a = c.args in (c.requires.0.0, _, root a.table.now a.policy.now a.log.now 0 0 c.requires.0)

pub returns : goal.returns
returns c =
    let logged : let a = c.args in ask_log a.table.now a.log.now ≡ passed tt = sym c.check_and_link.ensures.asked ∙ ap outcome c.in_ok-check_and_link.was in
    let a = c.args in
    let node = root a.table.now a.policy.now a.log.now 0 0 c.requires.0 in
    all_asked a.table.now a.policy.now a.log.now (length a.scratch.now) (length a.buffer.now)
    c.requires.0 (logged) c.walk_policy-reduced.auto.buffer
    (c.settle.ensures _ _ _ (c.walk_policy-reduced.ensures c.requires.0.0 _ node))

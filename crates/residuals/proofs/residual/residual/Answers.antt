-- `residuals::residual::residual` meets its contract, from what the policy's check and the rest of the questions ensure.
use mathlib.Core.Path.{refl}
use lib.ListN.{length}
use Rattle.laws.specs.Answer.{passed_on}
use Rattle.residuals.proofs.ReduceCall.{policy-refused, policy-accepted}
use Rattle.residuals.proofs.residual.residual.Goals as goal

pub returns-in_err-check_policy : goal.returns-in_err-check_policy
returns-in_err-check_policy c =
    let a = c.args in
    rw (passed_on _ c.from_residual.ensures.1)
    (policy-refused a.table.now a.policy.now a.log.now (length a.scratch.now) (length a.buffer.now) _
    c.check_policy.ensures.same c.in_err-check_policy.was)

pub over_log-requires : goal.over_log-requires
over_log-requires c =
    let a = c.args in (
      policy-accepted a.table.now a.policy.now a.log.now 0 0 c.check_policy.ensures.same
          c.in_ok-check_policy.was,
      refl,
    )

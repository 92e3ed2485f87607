-- `policy_texts::write` meets its contract, from the policy's check and the writing of its tree.
use Rattle.laws.specs.Answer.{passed_on}
use Rattle.policy_texts.proofs.PolicyWriting.{policy-refused, policy-read, policy-written}
use Rattle.policy_texts.proofs.write.Goals as goal

pub returns-in_err-check_policy : goal.returns-in_err-check_policy
returns-in_err-check_policy c =
    rw (passed_on _ c.from_residual.ensures.1) (policy-refused _ _ c.check_policy.ensures.same c.in_err-check_policy.was)

pub write_tree-requires : goal.write_tree-requires
write_tree-requires c = policy-read _ _ c.check_policy.ensures.same c.in_ok-check_policy.was

pub returns : goal.returns
returns c = policy-written _ _ c.check_policy.ensures.same c.in_ok-check_policy.was c.write_tree.ensures c.written.ensures

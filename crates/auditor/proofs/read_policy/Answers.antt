-- `auditor::read_policy` meets its contract: what the reading left, and zeros.
use Rattle.model.specs.Calls.{zeros}
use Rattle.policy_texts.proofs.PolicyReading.{policy-cleared}
use Rattle.auditor.proofs.read_policy.Goals as goal

pub returns : goal.returns
unfolding zeros
returns c =
    let a = c.args in
    let told = policy-cleared a.table.now a.text.now a.buffer.now c.read-answer.new.buffer _ _ _ c.read-answer.ensures
    c.read-answer.auto.buffer c.counted.ensures c.clear.ensures in record {
      answers_as = told.0;
      buffer_after = told.1;
    }

-- `auditor::write_policy` meets its contract: what the writing left, and zeros.
use Rattle.model.specs.Calls.{write_policy_call}
use Rattle.text.proofs.WrittenLaws.{text-cleared}
use Rattle.auditor.proofs.write_policy.Goals as goal

pub returns : goal.returns
unfolding write_policy_call
returns c =
    let told = text-cleared _ c.args.buffer.now c.write-written.new.buffer _ _ _
    c.write-written.ensures
    c.write-written.auto.buffer
    c.counted.ensures
    c.clear.ensures in record {
      answers_as = told.0;
      buffer_after = told.1;
    }

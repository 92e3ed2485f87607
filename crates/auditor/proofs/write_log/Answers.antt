-- `auditor::write_log` meets its contract: what the writing left, and zeros.
use Rattle.model.specs.Calls.{write_log_call}
use Rattle.text.proofs.WrittenLaws.{text-cleared}
use Rattle.auditor.proofs.write_log.Goals as goal

pub returns : goal.returns
unfolding write_log_call
returns c =
    let told = text-cleared _ c.args.buffer.now c.write-text.new.buffer _ _ _
    c.write-text.ensures
    c.write-text.auto.buffer
    c.counted.ensures
    c.clear.ensures in record {
      answers_as = told.0;
      buffer_after = told.1;
    }

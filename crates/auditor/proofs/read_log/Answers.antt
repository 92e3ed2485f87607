-- `auditor::read_log` meets its contract: what the reading left, and zeros.
use Rattle.model.specs.Calls.{zeros}
use Rattle.log_texts.proofs.LogReading.{read-cleared}
use Rattle.auditor.proofs.read_log.Goals as goal

pub returns : goal.returns
unfolding zeros
returns c =
    let a = c.args in
    let told = read-cleared a.table.now a.text.now a.buffer.now c.read-answer.new.buffer _ _ _ c.read-answer.ensures
    c.read-answer.auto.buffer c.counted.ensures c.clear.ensures in record {
      answers_as = told.0;
      buffer_after = told.1;
    }

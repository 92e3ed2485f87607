-- `auditor::reduce` meets its contract: what the residual left, and zeros.
use Rattle.model.specs.Calls.{zeros}
use Rattle.auditor.proofs.ReduceCleared.{all-cleared}
use Rattle.auditor.proofs.reduce.Goals as goal

pub returns : goal.returns
unfolding zeros
returns c =
    let a = c.args in
    all-cleared a.table.now a.policy.now a.log.now a.scratch.now a.buffer.now
    c.residual-answer.new.scratch c.residual-answer.new.buffer _ _ c.residual-answer.ensures c.residual-answer.auto.scratch
    c.residual-answer.auto.buffer c.clear.ensures c.counted.ensures
    c.clear-2.ensures

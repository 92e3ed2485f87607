-- `tptp_putting::tuples::put_variables` meets its contract: the first number, and those behind it. The loop's invariant: the numbers
-- behind the first stand up to the one reached.
use Prim.Native.Nat.{◌+◌}
use Rattle.model.specs.Bytes.{bytes}
use Rattle.text.proofs.PutLaws.{adds_then, adds_is, left_more, left_end}
use Rattle.tptp_putting.proofs.TextLaws.{runs_more, runs_none, next_variable, variables_first}
use Rattle.tptp_putting.proofs.tuples.put_variables.Goals as goal

pub loop-x-preserved : goal.loop-x-preserved
unfolding bytes
loop-x-preserved c =
    let a = c.args in
    left_more c.loop-x.invariant _ _ (runs_more next_variable c.loop-x.x (a.scope + a.v) c.loop-x-test.true)
    (adds_then c.bytes.ensures c.natural-in-loop-x.ensures)

pub returns : goal.returns
returns c =
    let a = c.args in
    let rest = left_end c.loop-x.invariant (runs_none next_variable c.loop-x.x (a.scope + a.v) c.loop-x-test.false) in
    adds_is (variables_first a.scope a.v c.requires.0) (adds_then c.natural.ensures rest)

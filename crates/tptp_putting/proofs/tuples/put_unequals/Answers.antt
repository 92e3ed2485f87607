-- `tptp_putting::tuples::put_unequals` meets its contract: the first variable, and those behind it. The loop's invariant: the variables
-- behind the first stand up to the number reached.
use native.Mathlib.Omega.{arith}
use Rattle.model.specs.Bytes.{bytes}
use Rattle.text.proofs.PutLaws.{adds_then, adds_is, left_more, left_end}
use Rattle.tptp_putting.proofs.TextLaws.{tuple_starts, tuple_more, tuple_none}
use Rattle.tptp_putting.proofs.tuples.put_unequals.Goals as goal

pub loop-i-preserved : goal.loop-i-preserved
unfolding bytes
loop-i-preserved c =
    let a = c.args in
    left_more c.loop-i.invariant _ _ (tuple_more a.scope a.tuple.now c.loop-i.i _ c.loop-i-test.true (omega arith))
    (adds_then c.bytes-in-loop-i.ensures c.put_unequal-in-loop-i.ensures)

pub returns : goal.returns
unfolding bytes
returns c =
    let a = c.args in
    let rest = left_end c.loop-i.invariant (tuple_none a.scope a.tuple.now c.loop-i.i c.loop-i-test.false) in
    adds_is (tuple_starts a.scope a.tuple.now c.requires.0) (adds_then (adds_then c.bytes.ensures c.put_unequal.ensures) rest)

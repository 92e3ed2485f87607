-- `tptp_putting::tuples::put_each` meets its contract. The loop's invariant: the tuples stand up to the index reached, whatever tuples
-- they are.
use Rattle.tptp_putting.specs.Texts.{Tuples}
use Rattle.tptp_putting.proofs.TupleLaws.{Each}
use Rattle.tptp_putting.proofs.tuples.put_each.Given as goal

abbrev pub invariant-loop-from : goal.invariant-loop-from
invariant-loop-from l = (t : Tuples l.numbers l.v) → Each l.numbers l.v l.scope t l.from l.initial.w l.w

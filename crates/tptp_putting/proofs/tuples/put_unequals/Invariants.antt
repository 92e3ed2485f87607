-- `tptp_putting::tuples::put_unequals` meets its contract: the first variable, and those behind it. The loop's invariant: the variables
-- behind the first stand up to the number reached.
use Rattle.text.proofs.PutLaws.{Left}
use Rattle.tptp_putting.proofs.TextLaws.{unequals_rest}
use Rattle.tptp_putting.proofs.tuples.put_unequals.Given as goal

abbrev pub invariant-loop-i : goal.invariant-loop-i
invariant-loop-i l = Left (unequals_rest l.scope l.tuple 1) (unequals_rest l.scope l.tuple l.i) l.initial.w l.w

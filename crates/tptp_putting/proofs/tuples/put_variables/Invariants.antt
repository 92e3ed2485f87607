-- `tptp_putting::tuples::put_variables` meets its contract: the first number, and those behind it. The loop's invariant: the numbers
-- behind the first stand up to the one reached.
use Prim.Native.Nat.{◌+◌}
use Rattle.text.proofs.PutLaws.{Left}
use Rattle.tptp_putting.proofs.TextLaws.{runs, next_variable}
use Rattle.tptp_putting.proofs.tuples.put_variables.Given as goal

abbrev pub invariant-loop-x : goal.invariant-loop-x
invariant-loop-x l = Left (runs next_variable (l.scope + 1) (l.scope + l.v)) (runs next_variable l.x (l.scope + l.v)) l.initial.w l.w

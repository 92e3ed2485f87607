-- `tptp_binders::tuples::further` meets its contract. The loop's invariant: so many numbers were read and laid.
use Rattle.tptp_binders.proofs.TupleLaws.{Furthering}
use Rattle.tptp_binders.proofs.tuples.further.Given as goal

abbrev pub invariant-loop-i : goal.invariant-loop-i
invariant-loop-i l = Furthering l.n l.x l.w l.fn.here l.here l.fn.out l.out l.i

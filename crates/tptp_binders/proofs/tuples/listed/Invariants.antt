-- `tptp_binders::tuples::listed` meets its contract. The loop's invariant: so many tuples were read and laid.
use lib.ListN.{length}
use Rattle.tptp_binders.proofs.TuplesLaws.{Tupling}
use Rattle.tptp_binders.proofs.tuples.listed.Given as goal

abbrev pub invariant-loop-here : goal.invariant-loop-here
invariant-loop-here l = Tupling l.room l.v l.x l.w l.fn.here l.here l.fn.out l.out l.count l.to

abbrev pub decreases-loop-here : goal.decreases-loop-here
decreases-loop-here l = length l.here.rest.now

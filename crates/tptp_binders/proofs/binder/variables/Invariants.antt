-- `tptp_binders::binder::variables` meets its contract. The loop's invariant: so many variables were read.
use Rattle.tptp_binders.proofs.BinderLaws.{Counting}
use Rattle.tptp_binders.proofs.binder.variables.Given as goal

abbrev pub invariant-loop-count : goal.invariant-loop-count
invariant-loop-count l = Counting l.most l.x l.fn.here l.here l.count

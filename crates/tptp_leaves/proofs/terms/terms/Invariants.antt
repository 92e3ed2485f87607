-- `tptp_leaves::terms::terms` meets its contract. The loop's invariant: so many terms were read and stand with their number.
use Rattle.tptp_leaves.proofs.TermLaws.{Listing}
use Rattle.tptp_leaves.proofs.terms.terms.Given as goal

abbrev pub invariant-loop-n : goal.invariant-loop-n
invariant-loop-n l = Listing l.fn.here l.fn.own l.own l.here l.n

-- `tptp_binders::ahead::stop_index` meets its contract. The loop's invariant: the scan from here goes as that from the start.
use Rattle.tptp_binders.proofs.AheadLaws.{Scans}
use Rattle.tptp_binders.proofs.ahead.stop_index.Given as goal

abbrev pub invariant-loop-i : goal.invariant-loop-i
invariant-loop-i l = Scans l.rest l.i l.depth

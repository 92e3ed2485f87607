-- `matching::fitting::fit_row` meets its contract. The loop's invariant: the environment so far stands for one from which the
-- terms and arguments from number i on make what all of them make of the first.
use Rattle.matching.proofs.FitLaws.{Going}
use Rattle.matching.proofs.fitting.fit_row.Given as goal

abbrev pub invariant-loop-i : goal.invariant-loop-i
invariant-loop-i l = Going l.terms.words.now l.terms.first l.terms.n l.row.log.now l.row.number l.initial.bound l.bound l.i

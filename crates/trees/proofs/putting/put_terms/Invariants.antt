-- `trees::putting::put_terms` meets its contract. The loop's invariant: the first i terms are copied, and the others stand behind them.
use Rattle.trees.proofs.TermsWalk.{Termwise}
use Rattle.trees.proofs.putting.put_terms.Given as goal

abbrev pub invariant-loop-i : goal.invariant-loop-i
invariant-loop-i l = Termwise l.numbers l.words l.from l.n l.initial.out l.to l.i l.out

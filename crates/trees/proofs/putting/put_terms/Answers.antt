-- `trees::putting::put_terms` meets its contract. The loop's invariant: the first i terms are copied, and the others stand behind them.
use Rattle.trees.proofs.TermsWalk.{terms-start, terms-next, terms-more}
use Rattle.trees.proofs.putting.put_terms.Goals as goal

pub loop-i-init : goal.loop-i-init
loop-i-init c =
    let a = c.args in terms-start a.numbers.now a.words.now a.from a.n a.out.now a.to c.requires.1

pub put_term-requires : goal.put_term-requires
put_term-requires c = terms-next _ _ _ _ _ _ c.loop-i.i _ c.loop-i.invariant c.loop-i-test.true c.requires.0

pub loop-i-preserved : goal.loop-i-preserved
loop-i-preserved c = terms-more _ _ _ _ _ _ c.loop-i.i _ c.loop-i.invariant c.loop-i-test.true _ c.put_term.ensures

-- `trees::walk::Walk::past` meets its contract: the next node's own words are there, and the trees below it stand behind them.
use native.Mathlib.Omega.{arith}
use mathlib.Core.Path.{refl}
use Rattle.trees.proofs.Ahead.{ahead_word, ahead_there, ahead_fits, passed}
use Rattle.trees.proofs.walk.Walk.past.Goals as goal

pub below-more-requires : goal.below-more-requires
below-more-requires c = ahead_word _ _ _ _ c.requires.1.1

pub size-own-requires : goal.size-own-requires
size-own-requires c = ahead_there _ _ _ _ c.requires.1.1 _ c.requires.0

pub overflow_add-result : goal.overflow_add-result
overflow_add-result c =
    omega (arith, ahead_fits _ _ _ _ c.requires.1.1 _ c.requires.0 c.below-more.result c.size-own.result c.below-more.ensures c.size-own.ensures)

pub overflow_add-result-2 : goal.overflow_add-result-2
overflow_add-result-2 c =
    omega (arith, ahead_fits _ _ _ _ c.requires.1.1 _ c.requires.0 c.below-more.result c.size-own.result c.below-more.ensures c.size-own.ensures)

pub returns : goal.returns
returns c = passed _ _ _ _ c.requires.1.1 _ c.requires.0 _ c.size-own.result c.below-more.result c.below-more.ensures c.size-own.ensures refl

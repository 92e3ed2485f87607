-- `words::zero` meets its contract: the machine compares the word's bits with those of 0.
use lib.ListN.{get_or}
use lib.IntN.{pos}
use Rattle.model.specs.Words.{word}
use Rattle.words.proofs.Signed.{same_bits}
use borrow.Author.Rules.{rules}
use Rattle.words.proofs.zero.Goals as goal

pub returns : goal.returns
unfolding word
returns c =
    let x = get_or c.args.s.now c.args.i (pos 0) in
    same_bits x (pos 0) (search rules) (search rules)

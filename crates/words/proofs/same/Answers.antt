-- `words::same` meets its contract: the machine compares the words' bits.
use borrow.Author.Rules.{rules}
use lib.ListN.{get_or}
use lib.IntN.{pos}
use Rattle.model.specs.Words.{word}
use Rattle.words.proofs.Signed.{same_bits}
use Rattle.words.proofs.same.Goals as goal

pub returns : goal.returns
unfolding word
returns c =
    let x = get_or c.args.s.now c.args.i (pos 0) in
    let y = get_or c.args.t.now c.args.j (pos 0) in
    same_bits x y (search rules) (search rules)

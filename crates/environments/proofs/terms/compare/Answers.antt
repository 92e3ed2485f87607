-- `environments::terms::compare` meets its contract, from those of the word, the two numbers and the sum.
use native.Mathlib.Omega.{arith}
use Rattle.model.specs.Reading.{in_scope}
use Rattle.environments.proofs.TermLaws.{first_holds, second_holds}
use borrow.Author.Rules.{rules}
use Rattle.environments.proofs.terms.compare.Goals as goal

pub number-x-requires : goal.number-x-requires
number-x-requires c = (
  search rules,
  omega (arith, c.requires.0),
  first_holds (in_scope c.args.words.now 16) c.args.at c.requires.1,
)

pub number-y-requires : goal.number-y-requires
number-y-requires c = (
  search rules,
  omega (arith, c.requires.0),
  second_holds (in_scope c.args.words.now 16) c.args.at c.requires.1,
)

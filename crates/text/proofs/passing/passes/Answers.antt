-- `text::passing::passes` meets its contract, by the first byte.
use native.Mathlib.Omega.{arith}
use mathlib.Core.Path.{refl}
use borrow.Author.Rules.{rules}
use Rattle.text.proofs.PassingLaws.{passes-other, passes-one}
use Rattle.text.proofs.passing.passes.Goals as goal

pub returns-then-ne : goal.returns-then-ne
returns-then-ne c = (refl, passes-other c.args.b c.args.here.now.rest.now (search rules))

pub returns : goal.returns
returns c = passes-one c.args.b c.args.here.now c.pass.new.self _ (search rules) c.pass.ensures.rest c.pass.ensures.at (omega arith)

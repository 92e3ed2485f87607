-- `chains::key::of_true` meets its contract: two tests, one after another.
use mathlib.Core.Path.{sym, ◌∙◌}
use Rattle.chains.proofs.Keys.{true-not, true-none, true-here}
use Rattle.chains.proofs.key.of_true.Goals as goal

pub returns-then-not-is : goal.returns-then-not-is
returns-then-not-is c =
    let a = c.args in
    true-not a.row.log.now a.row.number (sym c.is.ensures ∙ c.if-not-is.true)

pub returns-then-not-below : goal.returns-then-not-below
returns-then-not-below c =
    let a = c.args in
    true-none a.row.log.now a.row.number (sym c.below.ensures ∙ c.if-not-below.true)

pub returns : goal.returns
returns c =
    c.value.ensures
    ∙ true-here c.args.row.log.now c.args.row.number
    (sym c.is.ensures ∙ c.if-not-is.false)
    (sym c.below.ensures ∙ c.if-not-below.false)

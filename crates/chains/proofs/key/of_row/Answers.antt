-- `chains::key::of_row` meets its contract: one test.
use mathlib.Core.Path.{sym, ap, ◌∙◌}
use Prim.Native.Nat.{ℕ, ◌+◌, ◌*◌}
use Rattle.model.specs.Words.{word}
use Rattle.chains.specs.Key.{first_spread}
use Rattle.chains.proofs.Keys.{first-not, first-here}
use Rattle.chains.proofs.key.of_row.Goals as goal

pub returns-then-not-is : goal.returns-then-not-is
returns-then-not-is c =
    let a = c.args in
    first-not a.row.log.now a.row.number (sym c.is.ensures ∙ c.if-not-is.true)

pub returns : goal.returns
returns c =
    let a = c.args in
    c.of_first.ensures ∙ ap (λ (p : ℕ). first_spread p (word a.row.log.now (8 * a.row.number + 2)))
    c.value.ensures ∙ first-here a.row.log.now a.row.number
    (sym c.is.ensures ∙ c.if-not-is.false)

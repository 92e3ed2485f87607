-- `modes::mode::bind_compare` meets its contract, by the test on its terms.
use mathlib.Core.Path.{sym, ◌∙◌}
use Rattle.modes.proofs.ModeAtoms.{compare-all-no, compare-all-yes}
use Rattle.modes.proofs.mode.bind_compare.Goals as goal

pub returns-then-not-all_bound : goal.returns-then-not-all_bound
returns-then-not-all_bound c =
    compare-all-no c.args.words.now c.args.bound c.args.at
    (sym c.all_bound.ensures ∙ c.if-not-all_bound.true)

pub returns : goal.returns
returns c =
    compare-all-yes c.args.words.now c.args.bound c.args.at
    (sym c.all_bound.ensures ∙ c.if-not-all_bound.false)

-- `modes::mode::check_modes` meets its contract, by that of `formula` at the policy's root.
use mathlib.Core.Path.{sym, ap, ◌∙◌}
use Rattle.laws.specs.Answer.{passed_on}
use Rattle.tables.specs.Checked.{outcome}
use Rattle.policies.proofs.Stood.{formula-kind}
use Rattle.modes.proofs.ModeFormulaLoops.{told-passed, told-refused}
use Rattle.modes.proofs.mode.check_modes.Goals as goal

pub formula-requires : goal.formula-requires
formula-requires c = (formula-kind, c.requires)

pub returns-in_err-formula : goal.returns-in_err-formula
returns-in_err-formula c = λ tree next node.
    ap outcome (passed_on _ c.from_residual.ensures.1) ∙ sym (told-refused _ _ (sym c.in_err-formula.was ∙ c.formula.ensures tree next node))

pub returns : goal.returns
returns c = λ tree next node.
    sym (told-passed _ _ _ (sym c.in_ok-formula.was ∙ c.formula.ensures tree next node)).0

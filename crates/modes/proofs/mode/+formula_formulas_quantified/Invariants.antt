-- The proof of the cycle of calls {formula, formulas, quantified}. The measure is twice the levels left, and one more for
-- `formulas` and `quantified`, which call `formula` at their own level; `formula` calls each of the two a level down.
-- The loop of `formulas`: the formulas left decide.
use Prim.Native.Nat.{◌*◌, ◌-◌, ◌≤◌}
use Rattle.policies.specs.Node.{as_role}
use Rattle.modes.proofs.ModeFormulaLoops.{SoFar}
use Rattle.modes.proofs.mode.+formula_formulas_quantified.Given as goal

abbrev pub decreases-formula : goal.decreases-formula
decreases-formula l = 130 - 2 * l.depth.level

abbrev pub decreases-formulas : goal.decreases-formulas
decreases-formulas l = 131 - 2 * l.depth.level

abbrev pub decreases-quantified : goal.decreases-quantified
decreases-quantified l = 131 - 2 * l.depth.level

abbrev pub invariant-formulas-loop : goal.invariant-formulas-loop
invariant-formulas-loop l =
    (l.counter ≤ l.n) × SoFar l.table l.words (as_role l.role) l.depth.level l.depth.scope l.n l.at l.counter l.next

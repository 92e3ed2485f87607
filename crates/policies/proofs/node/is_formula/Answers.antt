-- `policies::node::is_formula` meets its contract, by the role.
use mathlib.Core.Path.{◌≡◌, refl, ap, ◌∙◌}
use mathlib.Core.Bool.{not, true}
use Rattle.model.specs.Reading.{is_formula}
use Rattle.policies.specs.Node.{as_role}
use Rattle.policies.specs.declared.node.Role.{Role}
use Rattle.policies.specs.declared.node.Role.TheVariants.{Restriction, Formula, Operand}
use Rattle.policies.proofs.node.is_formula.Goals as goal
use Rattle.policies.proofs.node.is_formula.Goals.{in-Restriction, in_default}

-- every role but a restriction's
others : (role : Role) → (role ≡ Restriction → ⊥) → true ≡ is_formula (as_role role)
unfolding is_formula
others Restriction k = absurd (k refl)
others Formula k = refl
others (Operand b) k = refl

pub returns : goal.returns
unfolding is_formula
returns c =
    elim c.match-matches.branch [
      | in-Restriction w ↦ rw (w.matches-is, w.in-Restriction.is)
      | in_default w ↦ ap not w.matches-is ∙ others c.args.role w.in_default.not-Restriction
    ]

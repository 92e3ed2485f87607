-- `policies::node::quantifier_cost` meets its contract: by the role, and for an operand by the two Bools.
use mathlib.Core.Path.{◌≡◌, refl}
use mathlib.Core.Bool.{Bool, true, false}
use Rattle.model.specs.Words.{same}
use Rattle.model.specs.Level.{quantifier_cost}
use Rattle.policies.specs.Node.{as_role}
use Rattle.policies.specs.declared.node.Role.{Role}
use Rattle.policies.specs.declared.node.Role.TheVariants.{Restriction, Formula, Operand}
use Rattle.policies.proofs.node.quantifier_cost.Goals as goal

-- in every other role it costs 2
others : (role : Role) (b : Bool) → ((b : Bool) → role ≡ Operand b → ⊥) → 2 ≡ quantifier_cost (as_role role) b
unfolding quantifier_cost
others Restriction b k = refl
others Formula b k = refl
others (Operand a) b k = absurd (k a refl)

pub returns-then-a-b : goal.returns-then-a-b
unfolding quantifier_cost
returns-then-a-b c =
    let alike : same c.in-Operand.a c.args.b ≡ true = c.if-a-b.true in
    rw (c.in-Operand.is, alike)

pub returns-else-a-b : goal.returns-else-a-b
unfolding quantifier_cost
returns-else-a-b c =
    let unlike : same c.in-Operand.a c.args.b ≡ false = c.if-a-b.false in
    rw (c.in-Operand.is, unlike)

pub returns-in_default : goal.returns-in_default
returns-in_default c = others c.args.role c.args.b c.in_default.not-Operand

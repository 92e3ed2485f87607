-- `policies::node::cost` meets its contract, by the tag.
use Rattle.std.specs.Prelude.{Bool}
use mathlib.Core.Path.{◌≡◌, refl}
use Rattle.model.specs.Level as L
use Rattle.policies.specs.Node.{as_tag, as_role}
use Rattle.policies.specs.declared.node.Tag.{Tag}
use Rattle.policies.specs.declared.node.Tag.TheVariants.{Plain, Atom, Compare, Join, Quantifier, Some, Unused}
use Rattle.policies.specs.declared.node.Role.{Role}
use Rattle.policies.proofs.node.cost.Goals as goal

-- every tag but a quantifier's costs 1
others : (role : Role) (tag : Tag) → ((b : Bool) → tag ≡ Quantifier b → ⊥) → 1 ≡ L.cost (as_role role) (as_tag tag)
unfolding L.cost
others role (Plain b) k = refl
others role (Atom b) k = refl
others role (Compare b) k = refl
others role (Join b) k = refl
others role (Quantifier b) k = absurd (k b refl)
others role Some k = refl
others role Unused k = refl

pub returns-in-Quantifier : goal.returns-in-Quantifier
unfolding L.cost
returns-in-Quantifier c = rw c.in-Quantifier.is c.quantifier_cost.ensures

pub returns-in_default : goal.returns-in_default
returns-in_default c = others c.args.role c.args.tag c.in_default.not-Quantifier

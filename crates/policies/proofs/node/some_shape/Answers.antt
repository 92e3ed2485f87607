-- `policies::node::some_shape` meets its contract: by the role, and then the room for one word.
use Prim.Native.Nat.{ℕ}
use native.Mathlib.Numerals.{add-one}
use mathlib.Core.Path.{◌≡◌, refl, sym, ap, ◌∙◌}
use mathlib.Core.Bool.{true, false}
use lib.Dec.{leb}
use lib.ListN.{length}
use Rattle.model.specs.Level.{Role, restriction, formula, operand}
use Rattle.model.specs.Reading.{is_formula, is_restriction, own}
use Rattle.laws.specs.Reading.Nodes.{kind-restriction}
use Rattle.policies.proofs.node.some_shape.Goals as goal

-- a formula is no restriction
formula-kind : (role : Role) → is_formula role ≡ true → is_restriction role ≡ false
unfolding is_formula is_restriction
formula-kind restriction e = sym e
formula-kind formula e = refl
formula-kind (operand b) e = refl

pub returns-then-is_formula : goal.returns-then-is_formula
unfolding own
returns-then-is_formula c scope = rw (formula-kind _ (sym c.is_formula.ensures ∙ c.if-is_formula.true))

pub returns : goal.returns
unfolding own
returns c scope =
    rw (kind-restriction _ (sym c.is_formula.ensures ∙ c.if-is_formula.false))
    (ap (λ (k : ℕ). leb k (length c.args.spot.words.now)) (sym (add-one c.args.spot.at)))

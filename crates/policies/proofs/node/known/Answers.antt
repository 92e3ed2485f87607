-- `policies::node::known` meets its contract: only atoms have a predicate.
use Rattle.std.specs.Prelude.{Bool}
use Prim.Native.Nat.{ℕ}
use mathlib.Core.Path.{◌≡◌, refl}
use mathlib.Core.Bool.{true}
use Rattle.model.specs.Words.{Words}
use Rattle.model.specs.Reading.{good_predicate}
use Rattle.policies.specs.Node.{as_tag}
use Rattle.policies.specs.declared.node.Tag.{Tag}
use Rattle.policies.specs.declared.node.Tag.TheVariants.{Plain, Atom, Compare, Join, Quantifier, Some, Unused}
use Rattle.policies.proofs.node.known.Goals as goal

-- every tag but an atom's
others :
    (table words : Words) (tag : Tag) (at : ℕ) →
    ((b : Bool) → tag ≡ Atom b → ⊥) →
    true ≡ good_predicate table words (as_tag tag) at
unfolding good_predicate
others table words (Plain b) at k = refl
others table words (Atom b) at k = absurd (k b refl)
others table words (Compare b) at k = refl
others table words (Join b) at k = refl
others table words (Quantifier b) at k = refl
others table words Some at k = refl
others table words Unused at k = refl

pub returns-in_default : goal.returns-in_default
returns-in_default c =
    others c.args.table.now c.args.spot.words.now c.args.tag c.args.spot.at c.in_default.not-Atom

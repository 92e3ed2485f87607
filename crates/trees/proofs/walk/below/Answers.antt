-- `trees::walk::below` meets its contract, by the tag.
use Rattle.std.specs.Prelude.{Bool}
use Prim.Native.Nat.{ℕ}
use mathlib.Core.Path.{◌≡◌, refl}
use Rattle.model.specs.Words.{Words}
use Rattle.policies.specs.Node.{as_tag}
use Rattle.policies.specs.declared.node.Tag.{Tag}
use Rattle.policies.specs.declared.node.Tag.TheVariants.{Plain, Atom, Compare, Join, Quantifier, Some, Unused}
use Rattle.trees.specs.Grown.{below}
use Rattle.trees.proofs.walk.below.Goals as goal

-- the other tags
others : (words : Words) (tag : Tag) (at : ℕ) → (((b : Bool) → tag ≡ Join b → ⊥) × ((b : Bool) → tag ≡ Quantifier b → ⊥) × (tag ≡ Some → ⊥)) → 0 ≡ below words (as_tag tag) at
unfolding below
others words (Plain b) at k = refl
others words (Atom b) at k = refl
others words (Compare b) at k = refl
others words (Join b) at k = absurd (k.0 b refl)
others words (Quantifier b) at k = absurd (k.1 b refl)
others words Some at k = absurd (k.2 refl)
others words Unused at k = refl

pub returns-in-Join : goal.returns-in-Join
unfolding below
returns-in-Join c = rw (c.in-Join.is, c.value.ensures)

pub returns-in-Quantifier : goal.returns-in-Quantifier
unfolding below
returns-in-Quantifier c = rw c.in-Quantifier.is

pub returns-in-Some : goal.returns-in-Some
unfolding below
returns-in-Some c = rw c.in-Some.is

pub returns-in_default : goal.returns-in_default
returns-in_default c =
    others c.args.words.now c.args.tag c.args.at (c.in_default.not-Join, c.in_default.not-Quantifier, c.in_default.not-Some)

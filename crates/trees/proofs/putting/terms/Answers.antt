-- `trees::putting::terms` meets its contract, by the tag.
use Rattle.std.specs.Prelude.{Bool}
use Prim.Native.Nat.{ℕ}
use mathlib.Core.Path.{◌≡◌, refl}
use Rattle.model.specs.Words.{Words}
use Rattle.policies.specs.Node.{as_tag}
use Rattle.policies.specs.declared.node.Tag.{Tag}
use Rattle.policies.specs.declared.node.Tag.TheVariants.{Plain, Atom, Compare, Join, Quantifier, Some, Unused}
use Rattle.trees.specs.Own.{terms}
use Rattle.trees.proofs.putting.terms.Goals as goal

-- the other tags
others : (words : Words) (tag : Tag) (at : ℕ) → (((b : Bool) → tag ≡ Atom b → ⊥) × ((b : Bool) → tag ≡ Compare b → ⊥)) → 0 ≡ terms words (as_tag tag) at
unfolding terms
others words (Plain b) at k = refl
others words (Atom b) at k = absurd (k.0 b refl)
others words (Compare b) at k = absurd (k.1 b refl)
others words (Join b) at k = refl
others words (Quantifier b) at k = refl
others words Some at k = refl
others words Unused at k = refl

pub returns-in-Atom : goal.returns-in-Atom
unfolding terms
returns-in-Atom c = rw (c.in-Atom.is, c.value.ensures)

pub returns-in-Compare : goal.returns-in-Compare
unfolding terms
returns-in-Compare c = rw c.in-Compare.is

pub returns-in_default : goal.returns-in_default
returns-in_default c = others c.args.words.now c.args.tag c.args.at (c.in_default.not-Atom, c.in_default.not-Compare)

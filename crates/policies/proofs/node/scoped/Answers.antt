-- `policies::node::scoped` meets its contract, by the tag. That the own words are there bounds the indices.
use Rattle.std.specs.Prelude.{Bool}
use Prim.Native.Nat.{ℕ, ◌+◌, ◌*◌, ◌≤◌}
use native.Mathlib.Omega.{arith}
use native.Mathlib.Numerals.{add-one}
use mathlib.Core.Path.{◌≡◌, refl, sym, ap}
use mathlib.Core.Bool.{true}
use lib.ListN.{length}
use lib.Dec.{leb}
use Rattle.model.specs.Words.{Words, value}
use Rattle.model.specs.Level as L
use Rattle.model.specs.Reading.{own}
use Rattle.policies.specs.Node.{as_tag}
use Rattle.policies.specs.declared.node.Tag.{Tag}
use Rattle.policies.specs.declared.node.Tag.TheVariants.{Plain, Atom, Compare, Join, Quantifier, Some, Unused}
use Rattle.policies.proofs.NodeShape.{fitting_same, atom-there, compare-there, quantifier-there}
use Rattle.policies.proofs.node.scoped.Goals as goal

-- the other tags
others :
    (words : Words) (tag : Tag) (role : L.Role) (scope at : ℕ) →
    (((b : Bool) → tag ≡ Atom b → ⊥) × ((b : Bool) → tag ≡ Compare b → ⊥) × ((b : Bool) → tag ≡ Quantifier b → ⊥) × (tag ≡ Some → ⊥)) →
    true ≡ (own words (as_tag tag) role scope at).scope
unfolding own
others words (Plain b) role scope at k = refl
others words (Atom b) role scope at k = absurd (k.0 b refl)
others words (Compare b) role scope at k = absurd (k.1 b refl)
others words (Join b) role scope at k = refl
others words (Quantifier b) role scope at k = absurd (k.2 b refl)
others words Some role scope at k = absurd (k.3 refl)
others words Unused role scope at k = refl

pub overflow_add-at : goal.overflow_add-at
overflow_add-at c =
    let atom-words : c.args.at + (3 + 2 * value c.args.words.now (c.args.at + 2)) ≤ length c.args.words.now =
    atom-there c.args.words.now (as_tag c.args.tag) c.args.at c.requires (ap as_tag c.in-Atom.is) in
    omega (arith, atom-words)

pub overflow_add-at-in-Atom : goal.overflow_add-at-in-Atom
overflow_add-at-in-Atom c =
    let atom-words : c.args.at + (3 + 2 * value c.args.words.now (c.args.at + 2)) ≤ length c.args.words.now =
    atom-there c.args.words.now (as_tag c.args.tag) c.args.at c.requires (ap as_tag c.in-Atom.is) in
    omega (arith, atom-words)

pub variables-requires : goal.variables-requires
variables-requires c =
    let atom-words : c.args.at + (3 + 2 * value c.args.words.now (c.args.at + 2)) ≤ length c.args.words.now =
    atom-there c.args.words.now (as_tag c.args.tag) c.args.at c.requires (ap as_tag c.in-Atom.is) in
    omega (arith, atom-words, c.value.ensures)

pub overflow_add-at-in-Compare : goal.overflow_add-at-in-Compare
overflow_add-at-in-Compare c =
    let compare-words : c.args.at + 6 ≤ length c.args.words.now = compare-there c.args.words.now (as_tag c.args.tag) c.args.at c.requires (ap as_tag c.in-Compare.is) in
    omega (arith, compare-words)

pub variables-requires-in-Compare : goal.variables-requires-in-Compare
variables-requires-in-Compare c =
    let compare-words : c.args.at + 6 ≤ length c.args.words.now = compare-there c.args.words.now (as_tag c.args.tag) c.args.at c.requires (ap as_tag c.in-Compare.is) in
    omega (arith, compare-words)

pub overflow_add-at-in-Quantifier : goal.overflow_add-at-in-Quantifier
overflow_add-at-in-Quantifier c =
    let quantifier-words : let words = c.args.words.now in c.args.at + (3 + value words (c.args.at + 1) * value words (c.args.at + 2)) ≤ length words
    = quantifier-there c.args.words.now (as_tag c.args.tag) c.args.at c.requires (ap as_tag c.in-Quantifier.is) in
    omega (arith, quantifier-words)

pub returns-in-Atom : goal.returns-in-Atom
unfolding own
returns-in-Atom c role =
    rw (c.in-Atom.is, ← c.value.ensures) c.variables.ensures

pub returns-in-Compare : goal.returns-in-Compare
unfolding own
returns-in-Compare c role = rw c.in-Compare.is c.variables-in-Compare.ensures

pub returns-in-Quantifier : goal.returns-in-Quantifier
unfolding own
returns-in-Quantifier c role =
    rw (c.in-Quantifier.is, ← c.value-in-Quantifier.ensures) (fitting_same c.value-in-Quantifier.result c.args.depth.scope 16 c.args.depth.scopes)

pub returns-in-Some : goal.returns-in-Some
unfolding own
returns-in-Some c role =
    rw c.in-Some.is (ap (λ (k : ℕ). leb k 16) (sym (add-one c.args.depth.scope)))

pub returns-in_default : goal.returns-in_default
returns-in_default c role =
    others c.args.words.now c.args.tag role c.args.depth.scope c.args.at (c.in_default.not-Atom, c.in_default.not-Compare, c.in_default.not-Quantifier, c.in_default.not-Some)

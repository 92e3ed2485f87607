-- `policies::node::size` meets its contract, by the tag. That the own words are there bounds the sums and the product.
use Rattle.std.specs.Prelude.{Bool}
use Prim.Native.Nat.{ℕ, ◌+◌, ◌*◌, ◌≤◌}
use native.Mathlib.Omega.{arith}
use mathlib.Core.Path.{◌≡◌, refl, ap}
use lib.ListN.{length}
use Rattle.model.specs.Words.{Words, value}
use Rattle.model.specs.Level as L
use Rattle.model.specs.Reading.{own}
use Rattle.policies.specs.Node.{as_tag}
use Rattle.policies.specs.declared.node.Tag.{Tag}
use Rattle.policies.specs.declared.node.Tag.TheVariants.{Plain, Atom, Compare, Join, Quantifier, Some, Unused}
use Rattle.policies.proofs.NodeShape.{atom-there, quantifier-there}
use Rattle.policies.proofs.node.size.Goals as goal

-- the other tags
others :
    (words : Words) (tag : Tag) (role : L.Role) (scope at : ℕ) →
    (((b : Bool) → tag ≡ Atom b → ⊥) × ((b : Bool) → tag ≡ Compare b → ⊥) × ((b : Bool) → tag ≡ Join b → ⊥) × ((b : Bool) → tag ≡ Quantifier b → ⊥)) →
    1 ≡ (own words (as_tag tag) role scope at).size
unfolding own
others words (Plain b) role scope at k = refl
others words (Atom b) role scope at k = absurd (k.0 b refl)
others words (Compare b) role scope at k = absurd (k.1 b refl)
others words (Join b) role scope at k = absurd (k.2 b refl)
others words (Quantifier b) role scope at k = absurd (k.3 b refl)
others words Some role scope at k = refl
others words Unused role scope at k = refl

pub overflow_add-at : goal.overflow_add-at
overflow_add-at c =
    let atom-words : c.args.at + (3 + 2 * value c.args.words.now (c.args.at + 2)) ≤ length c.args.words.now =
    atom-there c.args.words.now (as_tag c.args.tag) c.args.at c.requires (ap as_tag c.in-Atom.is) in
    omega (arith, atom-words)

pub overflow_mul-result : goal.overflow_mul-result
overflow_mul-result c =
    let atom-words : c.args.at + (3 + 2 * value c.args.words.now (c.args.at + 2)) ≤ length c.args.words.now =
    atom-there c.args.words.now (as_tag c.args.tag) c.args.at c.requires (ap as_tag c.in-Atom.is) in
    omega (arith, atom-words, c.value.ensures)

pub overflow_add-result : goal.overflow_add-result
overflow_add-result c =
    let atom-words : c.args.at + (3 + 2 * value c.args.words.now (c.args.at + 2)) ≤ length c.args.words.now =
    atom-there c.args.words.now (as_tag c.args.tag) c.args.at c.requires (ap as_tag c.in-Atom.is) in
    omega (arith, atom-words, c.value.ensures)

pub overflow_add-at-in-Quantifier : goal.overflow_add-at-in-Quantifier
overflow_add-at-in-Quantifier c =
    let quantifier-words : let words = c.args.words.now in c.args.at + (3 + value words (c.args.at + 1) * value words (c.args.at + 2)) ≤ length words
    = quantifier-there c.args.words.now (as_tag c.args.tag) c.args.at c.requires (ap as_tag c.in-Quantifier.is) in
    omega (arith, quantifier-words)

pub overflow_add-at-in-Quantifier-2 : goal.overflow_add-at-in-Quantifier-2
overflow_add-at-in-Quantifier-2 c =
    let quantifier-words : let words = c.args.words.now in c.args.at + (3 + value words (c.args.at + 1) * value words (c.args.at + 2)) ≤ length words
    = quantifier-there c.args.words.now (as_tag c.args.tag) c.args.at c.requires (ap as_tag c.in-Quantifier.is) in
    omega (arith, quantifier-words)

pub overflow_mul-result-in-Quantifier : goal.overflow_mul-result-in-Quantifier
overflow_mul-result-in-Quantifier c =
    let quantifier-words : let words = c.args.words.now in c.args.at + (3 + value words (c.args.at + 1) * value words (c.args.at + 2)) ≤ length words
    = quantifier-there c.args.words.now (as_tag c.args.tag) c.args.at c.requires (ap as_tag c.in-Quantifier.is) in
    let product : c.args.at + (3 + c.value-in-Quantifier.result * c.value-in-Quantifier-2.result) ≤ length c.args.words.now =
    rw (c.value-in-Quantifier.ensures, c.value-in-Quantifier-2.ensures) (quantifier-words) in
    omega (arith, product)

pub overflow_add-result-in-Quantifier : goal.overflow_add-result-in-Quantifier
overflow_add-result-in-Quantifier c =
    let quantifier-words : let words = c.args.words.now in c.args.at + (3 + value words (c.args.at + 1) * value words (c.args.at + 2)) ≤ length words
    = quantifier-there c.args.words.now (as_tag c.args.tag) c.args.at c.requires (ap as_tag c.in-Quantifier.is) in
    let product : c.args.at + (3 + c.value-in-Quantifier.result * c.value-in-Quantifier-2.result) ≤ length c.args.words.now =
    rw (c.value-in-Quantifier.ensures, c.value-in-Quantifier-2.ensures) (quantifier-words) in
    omega (arith, product)

pub returns-in-Atom : goal.returns-in-Atom
unfolding own
returns-in-Atom c role scope = rw (c.in-Atom.is, c.value.ensures)

pub returns-in-Compare : goal.returns-in-Compare
unfolding own
returns-in-Compare c role scope = rw c.in-Compare.is

pub returns-in-Join : goal.returns-in-Join
unfolding own
returns-in-Join c role scope = rw c.in-Join.is

pub returns-in-Quantifier : goal.returns-in-Quantifier
unfolding own
returns-in-Quantifier c role scope =
    rw (c.in-Quantifier.is, c.value-in-Quantifier.ensures, c.value-in-Quantifier-2.ensures)

pub returns-in_default : goal.returns-in_default
returns-in_default c role scope =
    others c.args.words.now c.args.tag role scope c.args.at (c.in_default.not-Atom, c.in_default.not-Compare, c.in_default.not-Join, c.in_default.not-Quantifier)

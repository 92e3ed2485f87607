-- The proof of the cycle of calls {children, quantified, walk}. The measure is twice the levels left, and one more for
-- `children` and `quantified`, which call `walk` at their own level; `walk` calls each of the three a level down.
-- The loop of `children`: the nodes left tell what all of them do, given the greatest level of those behind.
use Rattle.std.proofs.Common.{refl}
use Rattle.std.specs.Prelude.{Bool}
use Prim.Native.Nat.{ℕ, ◌+◌}
use native.Mathlib.Omega.{arith}
use mathlib.Core.Path.{◌≡◌, sym, ap, ◌∙◌}
use borrow.Author.Rules.{rules}
use Rattle.model.specs.Level.{restriction}
use Rattle.laws.specs.Answer.{passed_on}
use Rattle.laws.specs.Reading.Nodes.{asked}
use Rattle.tables.specs.Checked.{outcome}
use Rattle.policies.specs.Node.{as_tag, as_role}
use Rattle.policies.specs.Policy.{placed}
use Rattle.policies.specs.declared.node.Tag.{Tag}
use Rattle.policies.specs.declared.node.Tag.TheVariants.{Plain, Atom, Compare, Join, Quantifier, Some, Unused}
use Rattle.policies.proofs.PolicyRead.{read_fits, left-first, left-last, left-refused}
use Rattle.policies.proofs.PolicyRead.{left-read, restriction-refused, body_refused, both_read}
use Rattle.policies.proofs.NodeQuestions.{fits-there}
use Rattle.policies.proofs.PolicyNode.{refused-tells, entered, next_fits, level-fits, level_down, quantifier-range}
use Rattle.policies.proofs.PolicyNode.{some-range, join-tells, quantifier-tells, some-tells, Leaf, leaf-tells}
use Rattle.policies.proofs.policy.+children_quantified_walk.Goals as goal

-- the tags that are left when joins, quantifiers and some are not
leaf : (tag : Tag) → (((b : Bool) → tag ≡ Join b → ⊥) × ((b : Bool) → tag ≡ Quantifier b → ⊥) × (tag ≡ Some → ⊥)) → Leaf (as_tag tag)
leaf (Plain b) k = tt
leaf (Atom b) k = tt
leaf (Compare b) k = tt
leaf (Join b) k = absurd (k.0 b refl)
leaf (Quantifier b) k = absurd (k.1 b refl)
leaf Some k = absurd (k.2 refl)
leaf Unused k = tt

pub children-loop-init : goal.children-loop-init
children-loop-init t c =
    let s = c.args in (
      search rules,
      c.requires,
      search rules,
      left-first s.table.now s.words.now (as_role s.role) s.depth.level s.depth.scope s.n s.at,
    )

pub children-walk-requires : goal.children-walk-requires
children-walk-requires t c = (omega (arith, c.decreases), c.loop.invariant.1)

pub children-returns-in_err-child : goal.children-returns-in_err-child
children-returns-in_err-child t c =
    let s = c.args in
    rw (passed_on _ c.from_residual.ensures.1)
    (left-refused s.table.now s.words.now (as_role s.role) s.depth.level s.depth.scope s.n s.at
    c.loop.counter
    c.loop.next
    c.loop.level
    c.loop.invariant.3
    c.loop-test.true
    (ap (placed _) c.in_err-child.was)
    c.walk.ensures)

pub children-loop-preserved : goal.children-loop-preserved
children-loop-preserved t c =
    let s = c.args in
    let l = c.loop in (
      omega (arith, c.loop-test.true),
      read_fits s.table.now s.words.now (as_role s.role) s.depth.level s.depth.scope l.next (ap (placed _) c.in_ok-child.was) c.walk.ensures,
      omega (arith, c.max-level.ensures, c.loop.invariant.2),
      rw c.max-level.ensures
          (left-read s.table.now s.words.now (as_role s.role) s.depth.level s.depth.scope s.n s.at
          l.counter
          l.next
          l.level
          l.invariant.3
          c.loop-test.true
          (ap (placed _) c.in_ok-child.was)
          c.walk.ensures),
    )

pub children-returns : goal.children-returns
children-returns t c =
    let s = c.args in
    left-last s.table.now s.words.now (as_role s.role) s.depth.level s.depth.scope s.n s.at
    c.loop.counter
    c.loop.next
    c.loop.level
    c.loop.invariant.3
    c.loop-test.false
    c.loop.invariant.2

pub quantified-returns-in_err-restriction : goal.quantified-returns-in_err-restriction
quantified-returns-in_err-restriction t c =
    let s = c.args in
    rw (passed_on _ c.from_residual.ensures.1)
    (restriction-refused s.table.now s.words.now s.depth.level s.depth.scope s.at c.walk.ensures (ap (placed _) c.in_err-restriction.was))

pub quantified-walk-requires-2 : goal.quantified-walk-requires-2
quantified-walk-requires-2 t c =
    let s = c.args in (
      omega (arith, c.decreases),
      read_fits s.table.now s.words.now restriction s.depth.level s.depth.scope s.at (ap (placed _) c.in_ok-restriction.was) c.walk.ensures,
    )

pub quantified-returns-in_err-body : goal.quantified-returns-in_err-body
quantified-returns-in_err-body t c =
    let s = c.args in
    rw (passed_on _ c.from_residual-in_err-body.ensures.1)
    (body_refused s.table.now s.words.now s.depth.level s.depth.scope s.at c.walk.ensures (ap (placed _) c.in_ok-restriction.was) c.walk-2.ensures (ap (placed _) c.in_err-body.was))

pub quantified-returns : goal.quantified-returns
quantified-returns t c =
    let s = c.args in
    rw c.max.ensures
    (both_read s.table.now s.words.now s.depth.level s.depth.scope s.at c.walk.ensures (ap (placed _) c.in_ok-restriction.was)
    c.walk-2.ensures
    (ap (placed _) c.in_ok-body.was))

pub walk-returns-in-Err : goal.walk-returns-in-Err
walk-returns-in-Err t c =
    let s = c.args in
    refused-tells s.table.now s.words.now (as_role s.role) s.depth.level s.depth.scope s.at c.args.depth.levels (as_tag c.tag_at-tag.result)
    c.tag_at-tag.ensures
    c.in-Err.is
    c.questions.ensures

pub walk-overflow_add-level : goal.walk-overflow_add-level
walk-overflow_add-level t c =
    let asks = ap outcome (sym c.in_default.is) ∙ c.questions.ensures in omega (arith, (asked _ _ _ _ _ _ _ (sym asks)).level, c.cost.ensures)

pub walk-size-requires : goal.walk-size-requires
walk-size-requires t c =
    let asks = ap outcome (sym c.in_default.is) ∙ c.questions.ensures in
    let s = c.args in
    fits-there s.words.now (as_tag c.tag_at-tag.result) (as_role s.role) s.depth.scope s.at (asked _ _ _ _ _ _ _ (sym asks)).fits

pub walk-overflow_add-next : goal.walk-overflow_add-next
walk-overflow_add-next t c =
    let node = entered c.args.depth.levels c.tag_at-tag.ensures c.in_default.is c.questions.ensures c.cost.ensures c.size.ensures in
    omega (arith, next_fits node)

pub walk-invariant_of-below : goal.walk-invariant_of-below
walk-invariant_of-below t c =
    let node = entered c.args.depth.levels c.tag_at-tag.ensures c.in_default.is c.questions.ensures c.cost.ensures c.size.ensures in
    record { levels = level-fits node; scopes = c.args.depth.scopes }

pub walk-children-requires : goal.walk-children-requires
walk-children-requires t c =
    let node = entered c.args.depth.levels c.tag_at-tag.ensures c.in_default.is c.questions.ensures c.cost.ensures c.size.ensures in
    (omega (arith, level_down node, level-fits node, c.decreases), next_fits node)

pub walk-overflow_add-below : goal.walk-overflow_add-below
walk-overflow_add-below t c =
    let node = entered c.args.depth.levels c.tag_at-tag.ensures c.in_default.is c.questions.ensures c.cost.ensures c.size.ensures in
    omega (arith, quantifier-range node (ap as_tag c.in-Quantifier.is), c.value-v.ensures)

pub walk-invariant_of-below-in-Quantifier : goal.walk-invariant_of-below-in-Quantifier
walk-invariant_of-below-in-Quantifier t c =
    let node = entered c.args.depth.levels c.tag_at-tag.ensures c.in_default.is c.questions.ensures c.cost.ensures c.size.ensures in record {
      levels = level-fits node;
      scopes = omega (arith, quantifier-range node (ap as_tag c.in-Quantifier.is), c.value-v.ensures);
    }

pub walk-quantified-requires : goal.walk-quantified-requires
walk-quantified-requires t c =
    let node = entered c.args.depth.levels c.tag_at-tag.ensures c.in_default.is c.questions.ensures c.cost.ensures c.size.ensures in
    (omega (arith, level_down node, level-fits node, c.decreases), next_fits node)

pub walk-invariant_of-below-in-Some : goal.walk-invariant_of-below-in-Some
walk-invariant_of-below-in-Some t c =
    let node = entered c.args.depth.levels c.tag_at-tag.ensures c.in_default.is c.questions.ensures c.cost.ensures c.size.ensures in
    record { levels = level-fits node; scopes = some-range node (ap as_tag c.in-Some.is) }

pub walk-walk-requires : goal.walk-walk-requires
walk-walk-requires t c =
    let node = entered c.args.depth.levels c.tag_at-tag.ensures c.in_default.is c.questions.ensures c.cost.ensures c.size.ensures in
    (omega (arith, level_down node, level-fits node, c.decreases), next_fits node)

pub walk-returns-in-Join : goal.walk-returns-in-Join
walk-returns-in-Join t c =
    let node = entered c.args.depth.levels c.tag_at-tag.ensures c.in_default.is c.questions.ensures c.cost.ensures c.size.ensures in
    join-tells node (ap as_tag c.in-Join.is) c.under.ensures c.value-n.ensures c.children.ensures

pub walk-returns-in-Quantifier : goal.walk-returns-in-Quantifier
walk-returns-in-Quantifier t c =
    let node = entered c.args.depth.levels c.tag_at-tag.ensures c.in_default.is c.questions.ensures c.cost.ensures c.size.ensures in
    quantifier-tells node (ap as_tag c.in-Quantifier.is) (ap (λ (n : ℕ). c.args.depth.scope + n) c.value-v.ensures) c.quantified.ensures

pub walk-returns-in-Some : goal.walk-returns-in-Some
walk-returns-in-Some t c =
    let node = entered c.args.depth.levels c.tag_at-tag.ensures c.in_default.is c.questions.ensures c.cost.ensures c.size.ensures in
    some-tells node (ap as_tag c.in-Some.is) c.walk.ensures

pub walk-returns-in_default-tag : goal.walk-returns-in_default-tag
walk-returns-in_default-tag t c =
    let node = entered c.args.depth.levels c.tag_at-tag.ensures c.in_default.is c.questions.ensures c.cost.ensures c.size.ensures in
    leaf-tells node (leaf c.tag_at-tag.result (c.in_default-tag.not-Join, c.in_default-tag.not-Quantifier, c.in_default-tag.not-Some))

-- The proof of the cycle of calls {children, formula, instances, quantifier}. The measure is three times the levels left, and
-- one more for `children` and `instances`, which call `formula` at their own level, and two for `quantifier`, which calls
-- `instances` there; `formula` calls each of them a level down.
-- The loops: the children or instances passed are in the state of the join.
use Prim.Native.Nat.{ℕ, ◌+◌, ◌-◌, ◌/◌}
use native.Mathlib.Omega.{arith}
use mathlib.Core.Path.{◌≡◌, refl, sym, ap, ◌∙◌, subst}
use mathlib.Core.Bool.{Bool, true}
use Rattle.model.specs.Level as L
use Rattle.model.specs.Reading.{is_formula}
use Rattle.policies.specs.Node.{as_tag}
use Rattle.policies.specs.declared.node.Tag.{Tag}
use Rattle.policies.specs.declared.node.Tag.TheVariants.{Plain, Atom, Compare, Join, Quantifier, Some, Unused}
use Rattle.model.specs.Tag as T
use mathlib.Core.Logic.{◌⊎◌, inl, inr, ⊎_elim}
use Rattle.policies.specs.Standing.{Here}
use Rattle.policies.proofs.Standing.{low}
use Rattle.policies.proofs.Stood.{stood, formula-kind, level-fits, own-fits, next_in, level_in, level_down}
use Rattle.joining.proofs.Lending.{rest-long, lent_long}
use Rattle.reduction.proofs.WalkChildren.{children-start, children-within, children-here, children-short}
use Rattle.reduction.proofs.WalkChildren.{children_adding, children-next, children_end}
use denote.Enum.Bare.{same_true, same_false}
use borrow.Author.Rules.{rules}
use Rattle.joining.specs.contracts.join.State.{the_type}
use Rattle.reduction.proofs.WalkNodes.{node-plain, atom-here, node-atom, compare-here, node-compare, join-here, node-join}
use Rattle.reduction.proofs.WalkNodes.{quantifier-here, node-quantifier, node-some, node-unused}
use Rattle.reduction.proofs.WalkInstances.{instances-start, lent_places}
use Rattle.reduction.proofs.WalkInstances.{kept_lent, instances_adding, instances-next}
use Rattle.reduction.proofs.WalkInstances.{instances-short, instances-within, instances_end, instances-none, instances-tree}
use Rattle.reduction.proofs.WalkQuantifier.{quantifier-short, quantifier-whole, concluding, body-here, restriction-here}
use Rattle.reduction.proofs.WalkQuantifier.{variables-few, first-within}
use Rattle.reduction.proofs.WalkQuantifier.{prepared_short, prepared_stood, worked_out}
use Rattle.reduction.proofs.walk.+children_formula_instances_quantifier.Goals as goal

-- an operand is a formula
operand-kind : (b : Bool) → is_formula (L.Role.operand b) ≡ true
unfolding is_formula
operand-kind b = refl

-- the tags that no formula has
other_tag : (tag : Tag) → (((b : Bool) → tag ≡ Plain b → ⊥) × ((b : Bool) → tag ≡ Atom b → ⊥) × ((b : Bool) → tag ≡ Compare b → ⊥) × ((b : Bool) →
    tag ≡ Join b → ⊥) × ((b : Bool) → tag ≡ Quantifier b → ⊥)) → (as_tag tag ≡ T.Tag.some) ⊎ (as_tag tag ≡ T.Tag.unused)
other_tag (Plain b) k = absurd (k.0 b refl)
other_tag (Atom b) k = absurd (k.1 b refl)
other_tag (Compare b) k = absurd (k.2 b refl)
other_tag (Join b) k = absurd (k.3 b refl)
other_tag (Quantifier b) k = absurd (k.4 b refl)
other_tag Some k = inl refl
other_tag Unused k = inr refl

pub children-loop-init : goal.children-loop-init
children-loop-init t c = children-start c.args.log.now.rows.now c.new-join.ensures

pub children-formula-child-requires : goal.children-formula-child-requires
children-formula-child-requires t c =
    let a = c.args in
    let here = children-here a.log.now.rows.now _ c.loop.invariant c.loop-test.true c.requires.1 (_, a.outer.now.bound) in (
      omega (arith, c.decreases, low _ _ _ _ _ _ here),
      (omega (arith, rest-long c.loop.out c.loop.join.words, c.loop.auto.out, c.requires.0), operand-kind a.kind, here),
    )

pub children-returns-in-Short : goal.children-returns-in-Short
children-returns-in-Short t c =
    let a = c.args in
    let within = children-within a.log.now.rows.now _ c.loop.invariant c.requires.1 (_, a.outer.now.bound) in
    children-short a.log.now.rows.now _ c.loop.invariant c.loop-test.true
    (ap (λ (n : ℕ). n / 17) c.loop.auto.scratch) c.formula-child.ensures c.in-Short.is
    (lent_long _ _ _ within c.formula-child.auto.out ∙ c.loop.auto.out) c.in-Short.is

pub children-add-join-requires : goal.children-add-join-requires
children-add-join-requires t c =
    children_adding c.args.log.now.rows.now _ c.loop.invariant c.loop-test.true
    (ap (λ (n : ℕ). n / 17) c.loop.auto.scratch) c.formula-child.ensures c.requires.1 (_, c.args.outer.now.bound)

pub children-loop-preserved : goal.children-loop-preserved
children-loop-preserved t c =
    children-next c.args.log.now.rows.now _ c.loop.invariant c.loop-test.true
    (ap (λ (n : ℕ). n / 17) c.loop.auto.scratch) c.formula-child.ensures c.in_default.not-Short c.add-join.ensures

pub children-returns : goal.children-returns
children-returns t c =
    children_end c.args.log.now.rows.now _ c.loop.invariant c.loop-test.false c.loop.auto.out c.finish-answer.ensures

pub instances-loop-i-init : goal.instances-loop-i-init
instances-loop-i-init t c =
    let a = c.args in (record { long = refl; front = refl }, instances-start a.log.now.rows.now a.placed.body c.new-join.ensures)

pub instances-offset_bounds-out-start : goal.instances-offset_bounds-out-start
instances-offset_bounds-out-start t c =
    let a = c.args in
    omega (
      arith,
      instances-within a.log.now.rows.now _ c.loop-i.invariant.1 c.requires.2 (_, a.outer.now.bound) c.requires.5,
      c.loop-i.auto.out,
      c.requires.1,
    )

pub instances-slice_bounds-formula-count-in-loop-i : goal.instances-slice_bounds-formula-count-in-loop-i
instances-slice_bounds-formula-count-in-loop-i t c =
    let a = c.args in
    instances-within a.log.now.rows.now _ c.loop-i.invariant.1 c.requires.2 (_, a.outer.now.bound) c.requires.5

pub instances-slice_bounds-formula-start-in-loop-i : goal.instances-slice_bounds-formula-start-in-loop-i
instances-slice_bounds-formula-start-in-loop-i t c =
    let a = c.args in
    instances-within a.log.now.rows.now _ c.loop-i.invariant.1 c.requires.2 (_, a.outer.now.bound) c.requires.5

pub instances-formula-child-requires : goal.instances-formula-child-requires
instances-formula-child-requires t c =
    let a = c.args in (
      omega (arith, c.decreases, low _ _ _ _ _ _ c.requires.2),
      (
        omega (arith, rest-long c.loop-i.out c.loop-i.join.words, c.loop-i.auto.out, c.requires.1),
        formula-kind,
        subst (λ (n : ℕ). Here a.log.now.table.now a.words.now L.Role.formula a.level n a.placed.body) (sym c.instance-bound.ensures.scope) c.requires.2,
      ),
    )

pub instances-add-join-requires : goal.instances-add-join-requires
instances-add-join-requires t c =
    instances_adding c.args.log.now.rows.now _ c.loop-i.invariant.1 c.loop-i-test.true c.loop-i.invariant.0 c.requires.3 c.requires.0
    c.instance-bound.ensures.numbers (lent_places c.loop-i.invariant.0 c.requires.4) c.instance-bound.ensures.scope
    c.formula-child.ensures c.requires.2 (_, c.args.outer.now.bound) c.requires.5

pub instances-loop-i-preserved : goal.instances-loop-i-preserved
instances-loop-i-preserved t c = (
  kept_lent c.loop-i.invariant.0 c.requires.4 _ c.formula-child.auto.scratch,
  instances-next c.args.log.now.rows.now _ c.loop-i.invariant.1 c.loop-i-test.true c.loop-i.invariant.0 c.requires.3 c.requires.0
      c.instance-bound.ensures.numbers (lent_places c.loop-i.invariant.0 c.requires.4) c.instance-bound.ensures.scope
      c.formula-child.ensures c.add-join.ensures c.in_default.not-Short,
)

pub instances-tree_end-requires : goal.instances-tree_end-requires
instances-tree_end-requires t c = instances-tree c.requires.2

pub instances-returns-in-Short-clause-works : goal.instances-returns-in-Short-clause-works
instances-returns-in-Short-clause-works t c =
    instances-short c.args.log.now.rows.now _ c.loop-i.invariant.1 c.loop-i-test.true c.loop-i.invariant.0 c.requires.3 c.requires.0
    c.instance-bound.ensures.numbers (lent_places c.loop-i.invariant.0 c.requires.4) c.instance-bound.ensures.scope
    c.formula-child.ensures c.add-join.ensures c.in-Short.is c.loop-i.next

pub instances-returns-then-k-eq0-clause-works : goal.instances-returns-then-k-eq0-clause-works
instances-returns-then-k-eq0-clause-works t c =
    instances-none c.args.log.now.rows.now _ c.loop-i.invariant.1 c.if-k-eq0.true _ c.tree_end.ensures

pub instances-returns-clause-works : goal.instances-returns-clause-works
instances-returns-clause-works t c =
    instances_end c.args.log.now.rows.now _ c.loop-i.invariant.1 c.loop-i-test.false (omega (arith, c.if-k-eq0.false))

pub quantifier-prepare-prepared-requires : goal.quantifier-prepare-prepared-requires
quantifier-prepare-prepared-requires t c =
    let q = c.requires.1.5 in
    let u = c.value-v.ensures in (variables-few u q, first-within u q, (_, _, restriction-here u q))

pub quantifier-returns-in_default : goal.quantifier-returns-in_default
quantifier-returns-in_default t c =
    let log = c.args.log.now.rows.now in
    let u = c.value-v.ensures in
    λ ρ v excluded d f next o q. quantifier-short u q log ρ o _ _ (prepared_short u q log ρ o _ _ _ c.in_default.is c.prepare-prepared.ensures) refl refl

pub quantifier-instances-worked-requires : goal.quantifier-instances-worked-requires
quantifier-instances-worked-requires t c =
    let a = c.args in
    let q = c.requires.1.5 in
    let u = c.value-v.ensures in
    let s = prepared_stood u q a.log.now.rows.now _ a.outer.now.bound _ _ _ _ c.in-Some.is c.prepare-prepared.ensures in
    let body : Here a.log.now.table.now a.words.now L.Role.formula a.level (a.outer.now.scope + c.value-v.result) c.in-Some.placed.body
    = subst (λ (n : ℕ). Here a.log.now.table.now a.words.now L.Role.formula a.level (a.outer.now.scope + c.value-v.result) n) (sym s.behind)
    (_, _, body-here u q) in (
      omega (arith, c.decreases, low _ _ _ _ _ _ body),
      (
        variables-few u q,
        c.requires.0,
        body,
        s.below,
        omega (arith, s.fits, c.prepare-prepared.auto.scratch),
        (_, s.found),
      ),
    )

pub quantifier-returns-then-eq : goal.quantifier-returns-then-eq
quantifier-returns-then-eq t c =
    let log = c.args.log.now.rows.now in
    let u = c.value-v.ensures in
    let is = same_true the_type (search rules) _ _ (sym c.eq.ensures ∙ c.if-eq.true) in
    λ ρ v excluded d f next o q.
    let s = prepared_stood u q log ρ o _ _ _ _ c.in-Some.is c.prepare-prepared.ensures in
    let few = (worked_out u q log ρ o _ _ _ _ _ _ s c.instances-worked.ensures.works).short is in
    quantifier-short u q log ρ o _ _ (omega (arith, few, s.counted, s.fits, c.prepare-prepared.auto.scratch)) c.instances-worked.auto.out refl

pub quantifier-conclude-answer-requires : goal.quantifier-conclude-answer-requires
quantifier-conclude-answer-requires t c =
    let a = c.args in
    let q = c.requires.1.5 in
    let u = c.value-v.ensures in
    let log = a.log.now.rows.now in
    let s = prepared_stood u q log _ a.outer.now.bound _ _ _ _ c.in-Some.is c.prepare-prepared.ensures in
    let w = worked_out u q log _ a.outer.now.bound _ _ _ _ _ _ s c.instances-worked.ensures.works in
    let more = same_false the_type _ _ (sym c.eq.ensures ∙ c.if-eq.false) in (
      omega (arith, c.instances-worked.auto.out, c.requires.0),
      omega (arith, s.below, s.fits, c.prepare-prepared.auto.scratch, c.instances-worked.auto.scratch),
      concluding u q log _ a.outer.now.bound _ _ _ _ _ _ _ _ _ s.below c.instances-worked.ensures.scratch_unchanged s.found s.behind w more,
    )

pub quantifier-returns : goal.quantifier-returns
quantifier-returns t c =
    let log = c.args.log.now.rows.now in
    let u = c.value-v.ensures in
    let more = same_false the_type _ _ (sym c.eq.ensures ∙ c.if-eq.false) in
    λ ρ v excluded d f next o q.
    let s = prepared_stood u q log ρ o _ _ _ _ c.in-Some.is c.prepare-prepared.ensures in
    let w = worked_out u q log ρ o _ _ _ _ _ _ s c.instances-worked.ensures.works in
    quantifier-whole u q log ρ o _ c.in-Some.placed.used _ _ _
    (ap (λ (n : ℕ). n / 17 - c.in-Some.placed.used) c.prepare-prepared.auto.scratch) s.counted s.fits c.instances-worked.auto.out
    (c.conclude-answer.ensures
    (concluding u q log ρ o _ _ _ _ _ _ _ _ _ s.below c.instances-worked.ensures.scratch_unchanged s.found s.behind w more))
    (w.behind more)

pub formula-overflow_add-level : goal.formula-overflow_add-level
formula-overflow_add-level t c =
    omega (arith, level-fits _ _ _ _ _ _ c.requires.2 (as_tag c.tag_at-tag.result) c.tag_at-tag.ensures, c.cost.ensures)

pub formula-size-requires : goal.formula-size-requires
formula-size-requires t c = own-fits _ _ _ _ _ _ c.requires.2 (as_tag c.tag_at-tag.result) c.tag_at-tag.ensures

pub formula-overflow_add-next : goal.formula-overflow_add-next
formula-overflow_add-next t c =
    let node = stood c.requires.1 c.requires.2 c.tag_at-tag.ensures c.cost.ensures c.size.ensures in
    omega (arith, next_in node)

pub formula-atom-requires : goal.formula-atom-requires
formula-atom-requires t c =
    let node = stood c.requires.1 c.requires.2 c.tag_at-tag.ensures c.cost.ensures c.size.ensures in (c.args.outer.now.scopes, atom-here node (ap as_tag c.in-Atom.is))

pub formula-compare-requires : goal.formula-compare-requires
formula-compare-requires t c =
    let node = stood c.requires.1 c.requires.2 c.tag_at-tag.ensures c.cost.ensures c.size.ensures in
    compare-here node c.args.outer.now.scopes (ap as_tag c.in-Compare.is)

pub formula-children-requires : goal.formula-children-requires
formula-children-requires t c =
    let node = stood c.requires.1 c.requires.2 c.tag_at-tag.ensures c.cost.ensures c.size.ensures in (
      omega (arith, level_down node, level_in node, c.decreases),
      (c.requires.0, join-here node (ap as_tag c.in-Join.is) c.value-n.ensures),
    )

pub formula-quantifier-requires : goal.formula-quantifier-requires
formula-quantifier-requires t c =
    let node = stood c.requires.1 c.requires.2 c.tag_at-tag.ensures c.cost.ensures c.size.ensures in (
      omega (arith, level_down node, level_in node, c.decreases),
      (c.requires.0, quantifier-here node (ap as_tag c.in-Quantifier.is)),
    )

pub formula-returns-in-Plain : goal.formula-returns-in-Plain
formula-returns-in-Plain t c =
    let node = stood c.requires.1 c.requires.2 c.tag_at-tag.ensures c.cost.ensures c.size.ensures in
    node-plain node c.args.log.now.rows.now (ap as_tag c.in-Plain.is)

pub formula-returns-in-Atom : goal.formula-returns-in-Atom
formula-returns-in-Atom t c =
    let node = stood c.requires.1 c.requires.2 c.tag_at-tag.ensures c.cost.ensures c.size.ensures in
    node-atom node c.args.log.now.rows.now (ap as_tag c.in-Atom.is) c.atom.ensures

pub formula-returns-in-Compare : goal.formula-returns-in-Compare
formula-returns-in-Compare t c =
    let node = stood c.requires.1 c.requires.2 c.tag_at-tag.ensures c.cost.ensures c.size.ensures in
    node-compare node c.args.log.now.rows.now (ap as_tag c.in-Compare.is) c.compare.ensures

pub formula-returns-in-Join : goal.formula-returns-in-Join
formula-returns-in-Join t c =
    let node = stood c.requires.1 c.requires.2 c.tag_at-tag.ensures c.cost.ensures c.size.ensures in
    node-join node c.args.log.now.rows.now (ap as_tag c.in-Join.is) c.value-n.ensures c.children.ensures

pub formula-returns-in-Quantifier : goal.formula-returns-in-Quantifier
formula-returns-in-Quantifier t c =
    let node = stood c.requires.1 c.requires.2 c.tag_at-tag.ensures c.cost.ensures c.size.ensures in
    node-quantifier node c.args.log.now.rows.now (ap as_tag c.in-Quantifier.is) c.quantifier.ensures

pub formula-returns-in_default : goal.formula-returns-in_default
formula-returns-in_default t c =
    let node = stood c.requires.1 c.requires.2 c.tag_at-tag.ensures c.cost.ensures c.size.ensures in
    let log = c.args.log.now.rows.now in
    ⊎_elim (λ e. node-some node log e) (λ e. node-unused node log e)
    (other_tag c.tag_at-tag.result (c.in_default.not-Plain, c.in_default.not-Atom, c.in_default.not-Compare, c.in_default.not-Join, c.in_default.not-Quantifier))

-- The proof of the cycle of calls {bind, bind_all, bind_any, bind_some}. The measure is twice the levels left: one more for
-- `bind_all` and `bind_any`, which call `bind` at their own level, and one less for `bind_some`, which calls it a level down.
-- The loops: the operands left tell what all of them do, given the marks of those behind.
use Rattle.std.proofs.Common.{refl}
use Rattle.std.specs.Prelude.{Bool}
use Prim.Native.Nat.{ℕ, ◌+◌}
use native.Mathlib.Omega.{arith}
use mathlib.Core.Path.{◌≡◌, sym, ap, ◌∙◌, subst}
use Rattle.laws.specs.Answer.{passed_on}
use Rattle.model.specs.Level.{restriction}
use Rattle.model.specs.Mode.{bindings}
use Rattle.model.specs.Tag as T
use mathlib.Core.Bool.{true, false}
use Rattle.policies.specs.Standing.{HereAll}
use Rattle.policies.specs.Node.{as_tag}
use Rattle.policies.specs.declared.node.Tag.{Tag}
use Rattle.policies.specs.declared.node.Tag.TheVariants.{Plain, Atom, Compare, Join, Quantifier, Some, Unused}
use Rattle.policies.proofs.Standing.{here-terms, here-compare, here-join, here-some, low}
use Rattle.modes.specs.Mode.{set_of}
use Rattle.modes.proofs.ModeWalk.{Other, from-atom, from-compare, from-join, from_some, from-plain}
use Rattle.modes.proofs.ModeLoops.{none-yet, one-here, one-passes, one-stops, all-passed}
use Rattle.modes.proofs.ModeLoops.{All, all_none, all_one, all-no, Any, any_none, any-first, any-first-no, any_one, any-no}
use Rattle.modes.proofs.ModeSome.{some-stop, some_unbound, some-bound}
use Rattle.modes.proofs.mode.+bind_bind_all_bind_any_bind_some.Goals as goal

-- the tags that are left when atoms, comparisons, joins and some are not
other : (tag : Tag) → (((b : Bool) → tag ≡ Atom b → ⊥) × ((b : Bool) → tag ≡ Compare b → ⊥) × ((b : Bool) → tag ≡ Join b → ⊥) × (tag ≡ Some → ⊥)) → Other (as_tag tag)
other (Plain b) k = tt
other (Atom b) k = absurd (k.0 b refl)
other (Compare b) k = absurd (k.1 b refl)
other (Join b) k = absurd (k.2 b refl)
other (Quantifier b) k = tt
other Some k = absurd (k.3 refl)
other Unused k = tt

pub bind-bind_atom-requires : goal.bind-bind_atom-requires
bind-bind_atom-requires t c =
    here-terms c.args.table.now c.args.words.now c.args.depth.level c.args.depth.scope c.args.at
    c.args.depth.scopes _ (ap as_tag (sym c.in-Atom.is) ∙ c.tag_at-tag.ensures) c.requires
    (omega (arith))

pub bind-bind_compare-requires : goal.bind-bind_compare-requires
bind-bind_compare-requires t c =
    here-compare c.args.table.now c.args.words.now c.args.depth.level c.args.depth.scope c.args.at
    c.args.depth.scopes _ (ap as_tag (sym c.in-Compare.is) ∙ c.tag_at-tag.ensures) c.requires
    (omega (arith))

pub bind-invariant_of-below : goal.bind-invariant_of-below
bind-invariant_of-below t c = record {
  levels = low c.args.table.now c.args.words.now restriction c.args.depth.level c.args.depth.scope c.args.at c.requires;
  scopes = c.args.depth.scopes;
}

pub bind-invariant_of-below-else-every : goal.bind-invariant_of-below-else-every
bind-invariant_of-below-else-every t c = record {
  levels = low c.args.table.now c.args.words.now restriction c.args.depth.level c.args.depth.scope c.args.at c.requires;
  scopes = c.args.depth.scopes;
}

pub bind-bind_all-requires : goal.bind-bind_all-requires
bind-bind_all-requires t c =
    let a = c.args in
    let (operands, two) =
    here-join a.table.now a.words.now a.depth.level a.depth.scope a.at _ (ap as_tag (sym c.in-Join.is) ∙ c.tag_at-tag.ensures) c.requires in
    let l = low a.table.now a.words.now restriction a.depth.level a.depth.scope a.at c.requires in (
      omega (arith, l, c.decreases),
      subst (λ (n : ℕ). HereAll a.table.now a.words.now restriction (a.depth.level + 1) a.depth.scope n (a.at + 2)) (sym c.value-n.ensures) operands,
    )

pub bind-bind_any-requires : goal.bind-bind_any-requires
bind-bind_any-requires t c =
    let a = c.args in
    let (operands, two) =
    here-join a.table.now a.words.now a.depth.level a.depth.scope a.at _ (ap as_tag (sym c.in-Join.is) ∙ c.tag_at-tag.ensures) c.requires in
    let l = low a.table.now a.words.now restriction a.depth.level a.depth.scope a.at c.requires in (
      omega (arith, l, c.decreases),
      (
        omega (arith, two, c.value-n.ensures),
        subst (λ (n : ℕ). HereAll a.table.now a.words.now restriction (a.depth.level + 1) a.depth.scope n (a.at + 2)) (sym c.value-n.ensures) operands,
      ),
    )

pub bind-bind_some-requires : goal.bind-bind_some-requires
bind-bind_some-requires t c =
    let a = c.args in
    let (free, child) =
    here-some a.table.now a.words.now a.depth.level a.depth.scope a.at (ap as_tag (sym c.in-Some.is) ∙ c.tag_at-tag.ensures) c.requires in
    let l = low a.table.now a.words.now restriction a.depth.level a.depth.scope a.at c.requires in
    (omega (arith, l, c.decreases), (omega (arith, l), omega (arith, free), child))

pub bind-returns-in-Atom : goal.bind-returns-in-Atom
bind-returns-in-Atom t c =
    from-atom c.args.table.now c.args.words.now c.args.depth.level c.args.depth.scope c.args.at
    (set_of c.args.bound) _ _
    (ap as_tag (sym c.in-Atom.is) ∙ c.tag_at-tag.ensures) c.bind_atom.ensures

pub bind-returns-in-Compare : goal.bind-returns-in-Compare
bind-returns-in-Compare t c =
    from-compare c.args.table.now c.args.words.now c.args.depth.level c.args.depth.scope c.args.at
    (set_of c.args.bound) _ _
    (ap as_tag (sym c.in-Compare.is) ∙ c.tag_at-tag.ensures) c.bind_compare.ensures

pub bind-returns-then-every : goal.bind-returns-then-every
unfolding bindings
bind-returns-then-every t c =
    from-join c.args.table.now c.args.words.now c.args.depth.level c.args.depth.scope c.args.at
    (set_of c.args.bound) _ true
    (ap T.Tag.join (sym c.if-every.true) ∙ ap as_tag (sym c.in-Join.is) ∙ c.tag_at-tag.ensures)
    (λ ts next nodes n. c.bind_all.ensures ts next nodes (n ∙ sym c.value-n.ensures))

pub bind-returns-else-every : goal.bind-returns-else-every
unfolding bindings
bind-returns-else-every t c =
    from-join c.args.table.now c.args.words.now c.args.depth.level c.args.depth.scope c.args.at
    (set_of c.args.bound) _ false
    (ap T.Tag.join (sym c.if-every.false) ∙ ap as_tag (sym c.in-Join.is) ∙ c.tag_at-tag.ensures)
    (λ ts next nodes n. c.bind_any.ensures ts next nodes (n ∙ sym c.value-n.ensures))

pub bind-returns-in-Some : goal.bind-returns-in-Some
bind-returns-in-Some t c =
    from_some c.args.table.now c.args.words.now c.args.depth.level c.args.depth.scope c.args.at
    (set_of c.args.bound) _
    (ap as_tag (sym c.in-Some.is) ∙ c.tag_at-tag.ensures) c.bind_some.ensures

pub bind-returns-in_default : goal.bind-returns-in_default
bind-returns-in_default t c =
    from-plain c.args.table.now c.args.words.now c.args.depth.level c.args.depth.scope c.args.at
    (as_tag c.tag_at-tag.result) c.tag_at-tag.ensures
    (other c.tag_at-tag.result (c.in_default.not-Atom, c.in_default.not-Compare, c.in_default.not-Join, c.in_default.not-Some)) c.args.bound

pub bind_all-loop-init : goal.bind_all-loop-init
bind_all-loop-init t c =
    let a = c.args in (
      omega arith,
      none-yet a.table.now a.words.now a.depth.level a.depth.scope (All a.table.now a.depth.scope (set_of a.bound)),
    )

pub bind_all-bind-requires : goal.bind_all-bind-requires
bind_all-bind-requires t c = (omega (arith, c.decreases), one-here c.loop.invariant.1 c.loop-test.true c.requires)

pub bind_all-returns-in_err-child : goal.bind_all-returns-in_err-child
bind_all-returns-in_err-child t c =
    let a = c.args in
    rw (passed_on _ c.from_residual.ensures.1)
    (one-stops c.loop.invariant.1 c.loop-test.true (set_of c.loop.set) c.bind.ensures c.in_err-child.was
    (λ t us. all-no a.table.now a.depth.scope (set_of c.loop.set) t us c.loop.next))

pub bind_all-loop-preserved : goal.bind_all-loop-preserved
bind_all-loop-preserved t c =
    let a = c.args in (
      omega (arith, c.loop-test.true),
      one-passes c.loop.invariant.1 c.loop-test.true (set_of c.loop.set) c.bind.ensures c.in_ok-child.was _
          (λ t us. all_one a.table.now a.depth.scope (set_of c.loop.set) t us c.loop.next),
    )

pub bind_all-returns : goal.bind_all-returns
bind_all-returns t c =
    let a = c.args in all-passed c.loop.invariant.1 c.loop-test.false (all_none a.table.now a.depth.scope (set_of c.loop.set) c.loop.next)

pub bind_any-bind-requires : goal.bind_any-bind-requires
bind_any-bind-requires t c =
    let a = c.args in
    (omega (arith, c.decreases), one-here (none-yet a.table.now a.words.now a.depth.level a.depth.scope (Any a.table.now a.depth.scope (set_of a.bound))) c.requires.0 c.requires.1)

pub bind_any-returns-in_err-first : goal.bind_any-returns-in_err-first
bind_any-returns-in_err-first t c =
    let a = c.args in
    rw (passed_on _ c.from_residual.ensures.1)
    (one-stops (none-yet a.table.now a.words.now a.depth.level a.depth.scope (Any a.table.now a.depth.scope (set_of a.bound))) c.requires.0 (set_of a.bound)
    c.bind.ensures c.in_err-first.was (λ t us. any-first-no a.table.now a.depth.scope (set_of a.bound) t us a.at))

pub bind_any-loop-init : goal.bind_any-loop-init
bind_any-loop-init t c =
    let a = c.args in (
      c.requires.0,
      one-passes (none-yet a.table.now a.words.now a.depth.level a.depth.scope (Any a.table.now a.depth.scope (set_of a.bound))) c.requires.0 (set_of a.bound)
          c.bind.ensures c.in_ok-first.was _ (λ t us. any-first a.table.now a.depth.scope (set_of a.bound) t us a.at),
    )

pub bind_any-bind-requires-in-loop : goal.bind_any-bind-requires-in-loop
bind_any-bind-requires-in-loop t c = (omega (arith, c.decreases), one-here c.loop.invariant.1 c.loop-test.true c.requires.1)

pub bind_any-returns-in_err-child : goal.bind_any-returns-in_err-child
bind_any-returns-in_err-child t c =
    let a = c.args in
    rw (passed_on _ c.from_residual-in_err-child.ensures.1)
    (one-stops c.loop.invariant.1 c.loop-test.true (set_of a.bound) c.bind-in-loop.ensures c.in_err-child.was
    (λ t us. any-no a.table.now a.depth.scope (set_of a.bound) t us c.loop.next (set_of c.loop.set)))

pub bind_any-loop-preserved : goal.bind_any-loop-preserved
bind_any-loop-preserved t c =
    let a = c.args in (
      omega (arith, c.loop-test.true),
      one-passes c.loop.invariant.1 c.loop-test.true (set_of a.bound) c.bind-in-loop.ensures c.in_ok-child.was _
          (λ t us. any_one a.table.now a.depth.scope (set_of a.bound) t us c.loop.next (set_of c.loop.set) (set_of c.in_ok-child.child.set) (set_of c.both-set.result) c.both-set.ensures),
    )

pub bind_any-returns : goal.bind_any-returns
bind_any-returns t c =
    let a = c.args in
    all-passed c.loop.invariant.1 c.loop-test.false (any_none a.table.now a.depth.scope (set_of a.bound) (set_of c.loop.set) c.loop.next)

pub bind_some-returns-in_err-child : goal.bind_some-returns-in_err-child
bind_some-returns-in_err-child t c =
    rw (passed_on _ c.from_residual.ensures.1)
    (some-stop c.args.table.now c.args.words.now c.args.depth.level c.args.depth.scope c.args.at
    (set_of c.args.bound) c.bind.result c.bind.ensures c.in_err-child.was)

pub bind_some-returns-then-not-has : goal.bind_some-returns-then-not-has
bind_some-returns-then-not-has t c =
    some_unbound c.args.table.now c.args.words.now c.args.depth.level c.args.depth.scope c.args.at
    (set_of c.args.bound) c.bind.result c.bind.ensures c.in_ok-child.was
    (sym c.has.ensures ∙ c.if-not-has.true)

pub bind_some-returns : goal.bind_some-returns
bind_some-returns t c =
    some-bound c.args.table.now c.args.words.now c.args.depth.level c.args.depth.scope c.args.at
    (set_of c.args.bound) c.bind.result c.bind.ensures c.in_ok-child.was
    (sym c.has.ensures ∙ c.if-not-has.false) c.without.ensures

-- The proof of the cycle of calls {list, list_join, list_some}. The measure is twice the levels left: one more for
-- `list_join`, which calls `list` at its own level, and one less for `list_some`, which calls it a level down.
-- The loop: the children passed made the lists that stand, and those left stand at the index reached.
use Rattle.std.specs.Prelude.{Bool}
use Prim.Native.Nat.{ℕ, ◌+◌}
use native.Mathlib.Omega.{arith}
use mathlib.Core.Path.{◌≡◌, refl, sym, ap, ◌∙◌, subst}
use mathlib.Core.Bool.{false}
use Rattle.model.specs.Level.{restriction}
use Rattle.model.specs.Tag as T
use Rattle.policies.specs.Standing.{HereAll}
use Rattle.policies.specs.Node.{as_tag}
use Rattle.policies.specs.declared.node.Tag.{Tag}
use Rattle.policies.specs.declared.node.Tag.TheVariants.{Plain, Atom, Compare, Join, Quantifier, Some, Unused}
use Rattle.policies.proofs.Standing.{here-atom, here-join, here-some, low}
use Rattle.listing.proofs.Leaves.{LeafTag}
use Rattle.listing.proofs.AtomLaws.{terms-there}
use Rattle.listing.proofs.JoinLaws.{join_first, join_asks, join_room, join-stop, join_passing, join-next, join_close}
use Rattle.listing.proofs.WalkLaws.{from-atom, from-kept, from-join, from_some}
use Rattle.listing.proofs.SomeLaws.{some-short, some-full, some_end}
use Rattle.listing.proofs.restriction.+list_list_join_list_some.Goals as goal

-- the tags that are left when joins, some and atoms are not
other : (tag : Tag) → (((b : Bool) → tag ≡ Atom b → ⊥) × ((b : Bool) → tag ≡ Join b → ⊥) × (tag ≡ Some → ⊥)) → LeafTag (as_tag tag)
other (Plain b) k = tt
other (Atom b) k = absurd (k.0 b refl)
other (Compare b) k = tt
other (Join b) k = absurd (k.1 b refl)
other (Quantifier b) k = tt
other Some k = absurd (k.2 refl)
other Unused k = tt

pub list-invariant_of-below-clause-levels : goal.list-invariant_of-below-clause-levels
list-invariant_of-below-clause-levels t c =
    let a = c.args in
    low a.log.now.table.now a.words.now restriction a.depth.level a.depth.scope a.at c.requires.0

pub list-list_join-requires : goal.list-list_join-requires
list-list_join-requires t c =
    let a = c.args in
    let j =
    here-join a.log.now.table.now a.words.now a.depth.level a.depth.scope a.at
    _ (ap as_tag (sym c.in-Join.is) ∙ c.tag_at-tag.ensures) c.requires.0 in
    let l = low a.log.now.table.now a.words.now restriction a.depth.level a.depth.scope a.at c.requires.0 in
    let here =
    subst (λ (n : ℕ). HereAll a.log.now.table.now a.words.now restriction (a.depth.level + 1) a.depth.scope n (a.at + 2))
    (sym c.value-n.ensures) j.0 in (
      omega (arith, l, c.decreases),
      (omega (arith, j.1, c.value-n.ensures), here, c.requires.1),
    )

pub list-list_some-requires : goal.list-list_some-requires
list-list_some-requires t c =
    let a = c.args in
    let k =
    here-some a.log.now.table.now a.words.now a.depth.level a.depth.scope a.at
    (ap as_tag (sym c.in-Some.is) ∙ c.tag_at-tag.ensures)
    c.requires.0 in
    let l = low a.log.now.table.now a.words.now restriction a.depth.level a.depth.scope a.at c.requires.0 in (
      omega (arith, l, c.decreases),
      (omega (arith, l), omega (arith, k.0), k.1, c.requires.1),
    )

pub list-list_atom-requires : goal.list-list_atom-requires
list-list_atom-requires t c =
    let a = c.args in (
      here-atom a.log.now.table.now a.words.now a.depth.level a.depth.scope a.at
          c.args.log.now.few a.depth.scopes _ (ap as_tag (sym c.in-Atom.is) ∙ c.tag_at-tag.ensures)
          c.requires.0 (omega (arith)),
      terms-there
          a.log.now.table.now a.words.now a.depth.level a.depth.scope a.at _
          (ap as_tag (sym c.in-Atom.is) ∙ c.tag_at-tag.ensures) c.requires.0,
      c.requires.1,
    )

pub list-returns-in-Join : goal.list-returns-in-Join
list-returns-in-Join t c =
    let a = c.args in
    from-join a.log.now.table.now a.words.now a.log.now.rows.now a.depth.level a.depth.scope a.at a.room
    a.scratch.now _ _ _ (ap as_tag (sym c.in-Join.is) ∙ c.tag_at-tag.ensures)
    (λ ts next nodes n. c.list_join.ensures ts next nodes (n ∙ sym c.value-n.ensures))

pub list-returns-in-Some : goal.list-returns-in-Some
list-returns-in-Some t c =
    let a = c.args in
    from_some a.log.now.table.now a.words.now a.log.now.rows.now a.depth.level a.depth.scope a.at a.room
    a.scratch.now _ _ (ap as_tag (sym c.in-Some.is) ∙ c.tag_at-tag.ensures) c.list_some.ensures

pub list-returns-then-holds : goal.list-returns-then-holds
list-returns-then-holds t c =
    let a = c.args in
    from-atom a.log.now.table.now a.words.now a.log.now.rows.now a.depth.level a.depth.scope a.at a.room
    a.scratch.now _ _
    (ap T.Tag.atom (sym c.if-holds.true)
    ∙ (ap as_tag (sym c.in-Atom.is) ∙ c.tag_at-tag.ensures))
    c.list_atom.ensures

pub list-returns-else-holds : goal.list-returns-else-holds
list-returns-else-holds t c =
    let a = c.args in
    from-kept a.log.now.table.now a.words.now a.log.now.rows.now a.depth.level a.depth.scope a.at a.room
    a.scratch.now _ _ (T.Tag.atom false)
    (ap T.Tag.atom (sym c.if-holds.false) ∙ (ap as_tag (sym c.in-Atom.is) ∙ c.tag_at-tag.ensures))
    tt c.list_kept.ensures

pub list-returns-in_default : goal.list-returns-in_default
list-returns-in_default t c =
    let a = c.args in
    from-kept a.log.now.table.now a.words.now a.log.now.rows.now a.depth.level a.depth.scope a.at a.room
    a.scratch.now _ _ (as_tag c.tag_at-tag.result) c.tag_at-tag.ensures (other c.tag_at-tag.result (c.in_default.not-Atom, c.in_default.not-Join, c.in_default.not-Some))
    c.list_kept-in_default.ensures

pub list_join-loop-init : goal.list_join-loop-init
list_join-loop-init t c =
    let a = c.args in
    join_first a.log.now.table.now a.words.now a.log.now.rows.now a.depth.level a.depth.scope a.n a.at a.room a.scratch.now a.every

pub list_join-list-requires : goal.list_join-list-requires
list_join-list-requires t c =
    let a = c.args in
    let l = c.loop in (
      omega (arith, c.decreases, a.depth.levels),
      (
        join_asks a.log.now.table.now a.words.now a.log.now.rows.now a.depth.level a.depth.scope a.n a.at a.room
            a.scratch.now c.requires.1 l.counter l.next l.handed l.scratch l.auto.scratch a.every l.invariant c.loop-test.true,
        join_room a.log.now.table.now a.words.now a.log.now.rows.now a.depth.level a.depth.scope a.n a.at a.room
            a.scratch.now c.requires.1 l.counter l.next l.handed l.scratch l.auto.scratch a.every l.invariant c.requires.2,
      ),
    )

pub list_join-returns-in_err-child : goal.list_join-returns-in_err-child
list_join-returns-in_err-child t c =
    let a = c.args in
    let l = c.loop in
    rw c.from_residual.ensures
    (join-stop a.log.now.table.now a.words.now a.log.now.rows.now a.depth.level a.depth.scope a.n a.at a.room
    a.scratch.now c.requires.1 l.counter l.next l.handed l.scratch l.auto.scratch a.every l.invariant
    c.loop-test.true _ c.in_err-child.ensures)

pub list_join-pass_on-handed-requires : goal.list_join-pass_on-handed-requires
list_join-pass_on-handed-requires t c =
    let a = c.args in
    let l = c.loop in
    join_passing a.log.now.table.now a.words.now a.log.now.rows.now a.depth.level a.depth.scope a.n a.at a.room
    a.scratch.now c.requires.1 l.counter l.next l.handed l.scratch l.auto.scratch a.every l.invariant
    c.loop-test.true _ _ c.in_ok-child.ensures c.requires.2 c.list.auto.scratch

pub list_join-loop-preserved : goal.list_join-loop-preserved
list_join-loop-preserved t c =
    let a = c.args in
    let l = c.loop in
    join-next a.log.now.table.now a.words.now a.log.now.rows.now a.depth.level a.depth.scope a.n a.at a.room
    a.scratch.now c.requires.1 l.counter l.next l.handed l.scratch l.auto.scratch a.every l.invariant
    c.loop-test.true _ _ c.in_ok-child.ensures _ _ c.pass_on-handed.ensures

pub list_join-returns : goal.list_join-returns
list_join-returns t c =
    let a = c.args in
    let l = c.loop in
    join_close a.log.now.table.now a.words.now a.log.now.rows.now a.depth.level a.depth.scope a.n a.at a.room
    a.scratch.now c.requires.1 l.counter l.next l.handed l.scratch l.auto.scratch a.every l.invariant
    c.loop-test.false c.requires.0 _ c.close.ensures

pub list_some-returns-in_err-to : goal.list_some-returns-in_err-to
list_some-returns-in_err-to t c = λ d next node.
    let a = c.args in
    rw c.from_residual.ensures
    (some-short a.log.now.table.now a.log.now.rows.now a.depth.scope d a.room a.scratch.now _ next (c.in_err-to.ensures d next node))

pub list_some-returns-then-to : goal.list_some-returns-then-to
list_some-returns-then-to t c = λ d next node.
    let a = c.args in
    some-full a.log.now.table.now a.log.now.rows.now a.depth.scope d a.room a.scratch.now _ next _ (c.in_ok-to.ensures d next node) _ c.release_all.ensures c.if-to.true

pub list_some-returns : goal.list_some-returns
list_some-returns t c = λ d next node.
    let a = c.args in
    some_end a.log.now.table.now a.log.now.rows.now a.depth.scope d a.room a.scratch.now _ next _ (c.in_ok-to.ensures d next node) _ c.release_all.ensures
    c.counted.ensures refl

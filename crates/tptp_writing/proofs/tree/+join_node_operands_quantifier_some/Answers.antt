-- The proof of the cycle of calls {join, node, operands, quantifier, some}. The measure is three times the levels left: `node`
-- calls the others at its own level, `join` calls `operands` a level down, which calls `node` there, and `quantifier` and
-- `some` call `node` a level down. The loop of `operands`: the operands behind the first stand up to the one reached, whatever
-- nodes they are.
use Prim.Native.Nat.{◌+◌, ◌*◌, ◌<◌}
use native.Mathlib.Omega.{arith}
use mathlib.Core.Path.{refl, sym, ap, ◌∙◌}
use lib.ListN.{length}
use Rattle.model.specs.Bytes.{bytes}
use Rattle.model.specs.Tptp.{connective}
use Rattle.policies.specs.Node.{as_tag}
use Rattle.tptp_writing.proofs.PrintableLaws.{here-low, here-inside, atom-here, compare-here, unused-here}
use Rattle.tptp_writing.proofs.PrintableLaws.{joined, quantified, something, headed}
use Rattle.tptp_writing.proofs.WalkLaws.{prints_stopped, plain_prints, atom_prints, compare_prints, quantifier_prints, some_prints}
use Rattle.tptp_writing.proofs.WalkLaws.{join_prints, some-stands, quantifier-full, body-here, quantifier-stands}
use Rattle.tptp_writing.proofs.WalkLaws.{operand_adds, more-none, more-here, more_turn, more-full, more_end}
use Rattle.tptp_writing.proofs.tree.+join_node_operands_quantifier_some.Goals as goal

pub join-overflow_add-below : goal.join-overflow_add-below
join-overflow_add-below t c =
    let a = c.args in
    omega (arith, here-low a.words.now a.depth.level a.depth.scope a.at c.requires.1)

pub join-operands-next-requires : goal.join-operands-next-requires
join-operands-next-requires t c =
    let a = c.args in
    let j = joined a.words.now a.depth.level a.depth.scope a.at c.requires.1 a.every _ c.requires.0 c.value-n.ensures in
    (omega (arith, here-low a.words.now a.depth.level a.depth.scope a.at c.requires.1, c.decreases), (j.some, j.operands))

pub join-returns : goal.join-returns
unfolding bytes
join-returns t c =
    let a = c.args in
    λ h. join_prints (joined a.words.now a.depth.level a.depth.scope a.at h a.every _ c.requires.0 c.value-n.ensures) a.bare
    c.either.ensures c.operands-next.ensures c.either-2.ensures

pub node-atom-requires : goal.node-atom-requires
node-atom-requires t c =
    let a = c.args in
    let (is, next, some, fits) = atom-here a.words.now a.depth.level a.depth.scope a.at c.requires _ (sym (ap as_tag c.in-Atom.is) ∙ c.tag_at-tag.ensures) in
    (some, fits)

pub node-compare-requires : goal.node-compare-requires
node-compare-requires t c =
    let a = c.args in
    let (is, next, fits) = compare-here a.words.now a.depth.level a.depth.scope a.at c.requires _ (sym (ap as_tag c.in-Compare.is) ∙ c.tag_at-tag.ensures) in
    fits

pub node-join-requires : goal.node-join-requires
node-join-requires t c =
    let a = c.args in
    let tag = sym (ap as_tag c.in-Join.is) ∙ c.tag_at-tag.ensures in
    (omega (arith, here-low a.words.now a.depth.level a.depth.scope a.at c.requires, c.decreases), (tag, c.requires))

pub node-quantifier-requires : goal.node-quantifier-requires
node-quantifier-requires t c =
    let a = c.args in
    let tag = sym (ap as_tag c.in-Quantifier.is) ∙ c.tag_at-tag.ensures in
    (omega (arith, here-low a.words.now a.depth.level a.depth.scope a.at c.requires, c.decreases), (tag, c.requires))

pub node-some-requires : goal.node-some-requires
node-some-requires t c =
    let a = c.args in
    let tag = sym (ap as_tag c.in-Some.is) ∙ c.tag_at-tag.ensures in
    (omega (arith, here-low a.words.now a.depth.level a.depth.scope a.at c.requires, c.decreases), (tag, c.requires))

pub node-returns-in_err-w : goal.node-returns-in_err-w
node-returns-in_err-w t c = λ h. rw c.from_residual.ensures (prints_stopped c.in_err-w.was)

pub node-returns-in-Plain : goal.node-returns-in-Plain
unfolding bytes
node-returns-in-Plain t c =
    let a = c.args in
    λ h. plain_prints a.words.now a.depth.level a.depth.scope a.at h a.bare _ (sym (ap as_tag c.in-Plain.is) ∙ c.tag_at-tag.ensures) c.either.ensures

pub node-returns-in-Atom : goal.node-returns-in-Atom
node-returns-in-Atom t c =
    let a = c.args in
    λ h. atom_prints a.words.now a.depth.level a.depth.scope a.at h a.bare _ (sym (ap as_tag c.in-Atom.is) ∙ c.tag_at-tag.ensures) c.atom.ensures

pub node-returns-in-Compare : goal.node-returns-in-Compare
node-returns-in-Compare t c =
    let a = c.args in
    λ h. compare_prints a.words.now a.depth.level a.depth.scope a.at h a.bare _ (sym (ap as_tag c.in-Compare.is) ∙ c.tag_at-tag.ensures) c.compare.ensures

pub node-returns-in-Quantifier : goal.node-returns-in-Quantifier
node-returns-in-Quantifier t c =
    let a = c.args in
    λ h. quantifier_prints a.words.now a.depth.level a.depth.scope a.at h a.bare _ _ _ _
    (quantified a.words.now a.depth.level a.depth.scope a.at h _ _ _ _ (sym (ap as_tag c.in-Quantifier.is) ∙ c.tag_at-tag.ensures) refl refl refl)
    (c.quantifier.ensures h)

pub node-returns-in-Some : goal.node-returns-in-Some
node-returns-in-Some t c =
    let a = c.args in
    λ h. some_prints a.words.now a.depth.level a.depth.scope a.at h a.bare
    (something a.words.now a.depth.level a.depth.scope a.at h (sym (ap as_tag c.in-Some.is) ∙ c.tag_at-tag.ensures)) (c.some.ensures h)

pub node-returns-in-Unused : goal.node-returns-in-Unused
node-returns-in-Unused t c =
    let a = c.args in
    λ h. absurd (unused-here a.words.now a.depth.level a.depth.scope a.at h (sym (ap as_tag c.in-Unused.is) ∙ c.tag_at-tag.ensures))

pub operands-node-next-requires : goal.operands-node-next-requires
operands-node-next-requires t c =
    let a = c.args in
    let f = headed a.words.now a.depth.level a.depth.scope a.n a.at c.requires.1 c.requires.0 in
    (omega (arith, here-low a.words.now a.depth.level a.depth.scope a.at f.first, c.decreases), f.first)

pub operands-loop-init : goal.operands-loop-init
operands-loop-init t c = λ h f. more-none c.requires.0 (c.node-next.ensures f.first)

pub operands-node-next-requires-in-loop : goal.operands-node-next-requires-in-loop
operands-node-next-requires-in-loop t c =
    let a = c.args in
    let f = headed a.words.now a.depth.level a.depth.scope a.n a.at c.requires.1 c.requires.0 in (
      omega (arith, here-low a.words.now a.depth.level a.depth.scope a.at f.first, c.decreases),
      more-here (c.loop.invariant c.requires.1 f) c.in_ok-from.was c.loop-test.true,
    )

pub operands-loop-preserved : goal.operands-loop-preserved
unfolding bytes connective
operands-loop-preserved t c =
    λ h f. more_turn (c.loop.invariant h f) c.in_ok-from.was c.loop-test.true c.either.ensures _ c.node-next-in-loop.ensures refl

pub operands-returns : goal.operands-returns
operands-returns t c =
    let a = c.args in
    λ h.
    let f = headed a.words.now a.depth.level a.depth.scope a.n a.at h c.requires.0 in
    more_end (c.loop.invariant h f) (operand_adds f.first.tree _ _ (c.node-next.ensures f.first) refl) c.loop-test.false

pub operands-returns-in_err-from : goal.operands-returns-in_err-from
operands-returns-in_err-from t c =
    let a = c.args in
    λ h.
    let f = headed a.words.now a.depth.level a.depth.scope a.n a.at h c.requires.0 in
    rw c.from_residual.ensures
    (more-full (c.loop.invariant h f) (operand_adds f.first.tree _ _ (c.node-next.ensures f.first) refl) c.in_err-from.was)

pub quantifier-overflow_mul-first : goal.quantifier-overflow_mul-first
quantifier-overflow_mul-first t c =
    let a = c.args in
    let q = quantified a.words.now a.depth.level a.depth.scope a.at c.requires.1 a.every _ _ _ c.requires.0 c.value-v.ensures c.value-m.ensures refl in
    let long : a.at + 3 + c.value-v.result * c.value-m.result < length a.words.now =
    omega (arith, here-inside a.words.now (a.depth.level + 1) _ _ q.restricts) in
    omega (arith, long)

pub quantifier-overflow_add-first-2 : goal.quantifier-overflow_add-first-2
quantifier-overflow_add-first-2 t c =
    let a = c.args in
    let q = quantified a.words.now a.depth.level a.depth.scope a.at c.requires.1 a.every _ _ _ c.requires.0 c.value-v.ensures c.value-m.ensures refl in
    let long : a.at + 3 + c.value-v.result * c.value-m.result < length a.words.now =
    omega (arith, here-inside a.words.now (a.depth.level + 1) _ _ q.restricts) in
    omega (arith, long)

pub quantifier-put_head-requires : goal.quantifier-put_head-requires
quantifier-put_head-requires t c =
    let a = c.args in
    let q = quantified a.words.now a.depth.level a.depth.scope a.at c.requires.1 a.every _ _ _ c.requires.0 c.value-v.ensures c.value-m.ensures refl in
    (q.some, q.few)

pub quantifier-overflow_add-below : goal.quantifier-overflow_add-below
quantifier-overflow_add-below t c =
    let a = c.args in
    omega (arith, here-low a.words.now a.depth.level a.depth.scope a.at c.requires.1)

pub quantifier-overflow_add-below-2 : goal.quantifier-overflow_add-below-2
quantifier-overflow_add-below-2 t c =
    let a = c.args in
    let q = quantified a.words.now a.depth.level a.depth.scope a.at c.requires.1 a.every _ _ _ c.requires.0 c.value-v.ensures c.value-m.ensures refl in
    omega (arith, q.few)

pub quantifier-node-requires : goal.quantifier-node-requires
quantifier-node-requires t c =
    let a = c.args in
    let q = quantified a.words.now a.depth.level a.depth.scope a.at c.requires.1 a.every _ _ _ c.requires.0 c.value-v.ensures c.value-m.ensures refl in
    (omega (arith, here-low a.words.now a.depth.level a.depth.scope a.at c.requires.1, c.decreases), q.restricts)

pub quantifier-slice_bounds-put_tuples-end : goal.quantifier-slice_bounds-put_tuples-end
quantifier-slice_bounds-put_tuples-end t c =
    let a = c.args in
    let q = quantified a.words.now a.depth.level a.depth.scope a.at c.requires.1 a.every _ _ _ c.requires.0 c.value-v.ensures c.value-m.ensures refl in
    let long : a.at + 3 + c.value-v.result * c.value-m.result < length a.words.now =
    omega (arith, here-inside a.words.now (a.depth.level + 1) _ _ q.restricts) in
    omega (arith, long)

pub quantifier-put_tuples-requires : goal.quantifier-put_tuples-requires
quantifier-put_tuples-requires t c =
    let a = c.args in
    let q = quantified a.words.now a.depth.level a.depth.scope a.at c.requires.1 a.every _ _ _ c.requires.0 c.value-v.ensures c.value-m.ensures refl in
    (q.some, q.few, q.excluded)

pub quantifier-node-next-requires : goal.quantifier-node-next-requires
quantifier-node-next-requires t c =
    let a = c.args in
    let q = quantified a.words.now a.depth.level a.depth.scope a.at c.requires.1 a.every _ _ _ c.requires.0 c.value-v.ensures c.value-m.ensures refl in
    (omega (arith, here-low a.words.now a.depth.level a.depth.scope a.at c.requires.1, c.decreases), body-here q c.node.ensures c.in_ok-body.was)

pub quantifier-returns-in_err-body : goal.quantifier-returns-in_err-body
quantifier-returns-in_err-body t c =
    let a = c.args in
    λ h.
    let q = quantified a.words.now a.depth.level a.depth.scope a.at h a.every _ _ _ c.requires.0 c.value-v.ensures c.value-m.ensures refl in
    rw c.from_residual.ensures (quantifier-full q c.node.ensures c.put_head.ensures ((c.node.ensures q.restricts).full c.in_err-body.was))

pub quantifier-returns-in_err-w : goal.quantifier-returns-in_err-w
quantifier-returns-in_err-w t c =
    let a = c.args in
    λ h.
    let q = quantified a.words.now a.depth.level a.depth.scope a.at h a.every _ _ _ c.requires.0 c.value-v.ensures c.value-m.ensures refl in
    rw c.from_residual-in_err-w.ensures (quantifier-full q c.node.ensures c.put_head.ensures c.in_err-w.was)

pub quantifier-returns : goal.quantifier-returns
unfolding bytes
quantifier-returns t c =
    let a = c.args in
    λ h.
    quantifier-stands (quantified a.words.now a.depth.level a.depth.scope a.at h a.every _ _ _ c.requires.0 c.value-v.ensures c.value-m.ensures refl)
    c.node.ensures c.in_ok-body.was c.put_head.ensures c.put_tuples.ensures c.either.ensures c.node-next.ensures c.bytes.ensures

pub some-put_head-requires : goal.some-put_head-requires
some-put_head-requires t c =
    let a = c.args in
    let x = something a.words.now a.depth.level a.depth.scope a.at c.requires.1 c.requires.0 in
    (omega arith, x.few)

pub some-overflow_add-below : goal.some-overflow_add-below
some-overflow_add-below t c =
    let a = c.args in
    omega (arith, here-low a.words.now a.depth.level a.depth.scope a.at c.requires.1)

pub some-overflow_add-below-2 : goal.some-overflow_add-below-2
some-overflow_add-below-2 t c =
    let a = c.args in
    let x = something a.words.now a.depth.level a.depth.scope a.at c.requires.1 c.requires.0 in
    omega (arith, x.few)

pub some-node-next-requires : goal.some-node-next-requires
some-node-next-requires t c =
    let a = c.args in
    let x = something a.words.now a.depth.level a.depth.scope a.at c.requires.1 c.requires.0 in
    (omega (arith, here-low a.words.now a.depth.level a.depth.scope a.at c.requires.1, c.decreases), x.restricts)

pub some-returns : goal.some-returns
unfolding bytes
some-returns t c =
    let a = c.args in
    λ h. some-stands (something a.words.now a.depth.level a.depth.scope a.at h c.requires.0) c.put_head.ensures c.node-next.ensures c.bytes.ensures

pub join-invariant_of-below : goal.join-invariant_of-below
join-invariant_of-below t c =
    let a = c.args in
    record { levels = omega (arith, here-low a.words.now a.depth.level a.depth.scope a.at c.requires.1); scopes = a.depth.scopes }

pub quantifier-invariant_of-below : goal.quantifier-invariant_of-below
quantifier-invariant_of-below t c =
    let a = c.args in
    let q = quantified a.words.now a.depth.level a.depth.scope a.at c.requires.1 a.every _ _ _ c.requires.0 c.value-v.ensures c.value-m.ensures refl in
    record { levels = omega (arith, here-low a.words.now a.depth.level a.depth.scope a.at c.requires.1); scopes = q.few }

pub some-invariant_of-below : goal.some-invariant_of-below
some-invariant_of-below t c =
    let a = c.args in
    let x = something a.words.now a.depth.level a.depth.scope a.at c.requires.1 c.requires.0 in
    record { levels = omega (arith, here-low a.words.now a.depth.level a.depth.scope a.at c.requires.1); scopes = omega (arith, x.few) }

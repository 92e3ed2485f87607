-- `listing::restriction::list_kept` meets its contract. The invariant: the environments kept of those before the i-th stand from
-- the first free place on.
use native.Mathlib.Omega.{arith}
use mathlib.Core.Path.{sym, ◌∙◌}
use Rattle.model.specs.Log.{rows}
use Rattle.model.specs.Level.{restriction}
use Rattle.policies.specs.Node.{as_tag}
use Rattle.trees.proofs.Forming.{node_grown}
use Rattle.listing.specs.Keeping.{keeps_of}
use Rattle.listing.proofs.MapLaws.{map-start, map_read}
use Rattle.listing.proofs.LeafLaws.{kept, tree-there, leaf-behind}
use Rattle.listing.proofs.MapRoom.{map_placed}
use Rattle.listing.proofs.KeptRoom.{kept-none, kept-one, kept-short, kept_stood}
use Rattle.listing.proofs.restriction.list_kept.Goals as goal

pub loop-i-init : goal.loop-i-init
loop-i-init c =
    let a = c.args in (
      omega arith,
      λ es h above scope t next node. map-start (kept (keeps_of a.log.now.table.now (rows a.log.now.rows.now) t)) es a.room.base a.scratch.now,
    )

pub loop-i-preserved-then-not-keeps : goal.loop-i-preserved-then-not-keeps
loop-i-preserved-then-not-keeps c =
    let a = c.args in
    let (made, far) = c.loop-i.invariant in
    let before = a.room.before in (
      made,
      λ es h above scope t next node.
          let n = h.long in
          let s = far es h above scope t next node in
          let held = c.read-environment.ensures _ (map_read s a.room.from (omega arith) h.listed (omega arith)) in
          kept-none (keeps_of a.log.now.table.now (rows a.log.now.rows.now) t) s (omega arith) (sym (c.keeps.ensures _ above scope t next held node) ∙ c.if-not-keeps.true),
    )

pub returns-then-left-made : goal.returns-then-left-made
returns-then-left-made c = λ above scope t next node leaf. (
  tt,
  λ es h.
      let a = c.args in
      let (made, far) = c.loop-i.invariant in
      let before = a.room.before in
      let n = h.long in
      let s = far es h above scope t next node in
      let held = c.read-environment.ensures _ (map_read s a.room.from (omega arith) h.listed (omega arith)) in
      kept-short a.log.now.table.now a.log.now.rows.now scope t leaf s made h (omega arith)
      (sym (c.keeps.ensures _ above scope t next held node) ∙ c.if-not-keeps.false) c.if-left-made.true c.loop-i.auto.scratch,
)

pub loop-i-preserved : goal.loop-i-preserved
loop-i-preserved c =
    let a = c.args in
    let (made, far) = c.loop-i.invariant in
    let before = a.room.before in
    let long = c.loop-i.auto.scratch in (
      omega arith,
      λ es h above scope t next node.
          let n = h.long in
          let s = far es h above scope t next node in
          let held = c.read-environment.ensures _ (map_read s a.room.from (omega arith) h.listed (omega arith)) in
          kept-one (keeps_of a.log.now.table.now (rows a.log.now.rows.now) t) s (omega arith) (sym (c.keeps.ensures _ above scope t next held node) ∙ c.if-not-keeps.false) (omega arith) _
          (c.store.ensures _ held),
    )

pub size-requires : goal.size-requires
size-requires c =
    let a = c.args in
    let (above, scope, small, here) = c.requires.0 in
    let (t, next, node) = here in
    tree-there a.words.now a.at next t
    (node_grown a.log.now.table.now a.words.now restriction above scope a.at t next node) (as_tag a.tag)
    c.requires.1

pub overflow_add-result : goal.overflow_add-result
overflow_add-result c =
    let a = c.args in
    let (above, scope, small, here) = c.requires.0 in
    let (t, next, node) = here in
    let there =
    tree-there a.words.now a.at next t
    (node_grown a.log.now.table.now a.words.now restriction above scope a.at t next node) (as_tag a.tag)
    c.requires.1 restriction 0 in
    let size = c.size.ensures restriction 0 in
    omega arith

pub returns : goal.returns
returns c = λ above scope t next node leaf.
    let a = c.args in
    let (made, far) = c.loop-i.invariant in (
      map_placed c.filled.ensures
          (leaf-behind a.words.now a.at next t
          (node_grown a.log.now.table.now a.words.now restriction above scope a.at t next node) (as_tag a.tag)
          c.requires.1 leaf _ c.size.ensures),
      λ es h. kept_stood a.log.now.table.now a.log.now.rows.now scope t leaf (far es h above scope t next node) made h (omega arith) c.loop-i.auto.scratch c.filled.ensures,
    )

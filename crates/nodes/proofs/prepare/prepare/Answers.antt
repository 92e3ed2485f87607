-- `nodes::prepare::prepare` meets its contract, from what the listing and the choice of instances ensure.
use Prim.Native.Nat.{ℕ, ◌+◌, ◌*◌, ◌/◌}
use native.Mathlib.Omega.{arith}
use mathlib.Core.Path.{sym, subst}
use lib.ListN.{length}
use Rattle.model.specs.Level.{restriction}
use Rattle.policies.specs.Standing.{Here}
use Rattle.policies.proofs.Standing.{low}
use Rattle.nodes.proofs.Preparing.{prepare_short, prepare_inside, prepare_stood}
use Rattle.nodes.proofs.prepare.prepare.Goals as goal

pub invariant_of-depth-clause-levels : goal.invariant_of-depth-clause-levels
invariant_of-depth-clause-levels c = omega (arith, low _ _ _ _ _ _ c.requires.2)

pub list-requires : goal.list-requires
list-requires c =
    let a = c.args in
    let here =
    subst
    (λ (m : ℕ). Here a.log.now.table.now a.words.now restriction a.level (a.outer.now.scope + a.v) (a.at + 3 + a.v * m))
    (sym c.value-m.ensures) c.requires.2 in
    (here, omega (arith, c.room.ensures.is-limit, c.store.auto.scratch))

pub returns-in_err-to : goal.returns-in_err-to
returns-in_err-to c =
    let a = c.args in
    let places = length a.scratch.now / 17 in
    λ ρ d body o node.
    rw c.from_residual.ensures
    (prepare_short _ _ places a.scratch.now _ _ c.if-places-lt1.false (omega arith) c.room.ensures c.store.ensures
    _ _ a.log.now.rows.now _ _ _ _ c.value-m.ensures _ _ c.list.ensures c.in_err-to.was ρ d body o node)

pub instances-count-requires : goal.instances-count-requires
instances-count-requires c =
    let a = c.args in
    let places = length a.scratch.now / 17 in
    let within =
    prepare_inside _ _ places a.scratch.now _ _ c.if-places-lt1.false (omega arith) c.room.ensures c.store.ensures
    _ _ a.log.now.rows.now _ _ _ _ c.value-m.ensures _ _ c.list.ensures _ c.in_ok-to.was c.requires.2 in
    let made = c.in_ok-to.to in
    let long = c.list.auto.scratch in
    let longer = c.store.auto.scratch in
    (c.requires.0, omega (arith, within, made.before, made.counted))

pub returns : goal.returns
returns c =
    let a = c.args in
    let places = length a.scratch.now / 17 in
    prepare_stood _ _ places a.scratch.now _ _ c.if-places-lt1.false (omega arith) c.room.ensures c.store.ensures
    _ _ a.log.now.rows.now _ _ _ _ c.value-m.ensures _ _ c.list.ensures _ c.in_ok-to.was c.requires.0 _ _ c.instances-count.ensures

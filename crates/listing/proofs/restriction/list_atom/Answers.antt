-- `listing::restriction::list_atom` meets its contract. The invariant: what the environments before the i-th gave stands from the
-- first free place on.
use Prim.Native.Nat.{ℕ, ◌+◌}
use native.Mathlib.Omega.{arith}
use mathlib.Core.Path.{ap₂, ◌∙◌}
use Rattle.model.specs.Lists.{gather}
use Rattle.model.specs.Log.{rows}
use Rattle.model.specs.Listing.{matches}
use Rattle.policies.specs.Standing.{terms_at}
use Rattle.listing.proofs.MapLaws.{map-start, map_read, map-step}
use Rattle.listing.proofs.MapRoom.{map_ran_out, at-list}
use Rattle.listing.proofs.restriction.list_atom.Goals as goal

pub loop-i-init : goal.loop-i-init
loop-i-init c =
    let a = c.args in (
      omega arith,
      λ es h. map-start
          (λ e. matches (rows a.log.now.rows.now) c.value-predicate.result
          (terms_at a.words.now (a.at + 3) c.value-n.result) e) es a.room.base a.scratch.now,
    )

pub returns-in_err-made : goal.returns-in_err-made
returns-in_err-made c =
    let a = c.args in
    let (made, far) = c.loop-i.invariant in
    let before = a.room.before in
    rw c.from_residual.ensures (
      tt,
      λ es h.
          let n = h.long in
          let held = c.read-environment.ensures _ (map_read (far es h) a.room.from (omega arith) h.listed (omega arith)) in
          at-list
          (ap₂ (λ (p n : ℕ). gather (matches (rows a.log.now.rows.now) p (terms_at a.words.now (a.at + 3) n)) es) c.value-predicate.ensures c.value-n.ensures)
          (map_ran_out (far es h) made h (omega arith) (c.match_rows.auto.scratch ∙ c.loop-i.auto.scratch) (c.in_err-made.ensures.adds _ held)),
    )

pub loop-i-preserved : goal.loop-i-preserved
loop-i-preserved c =
    let a = c.args in
    let (made, far) = c.loop-i.invariant in
    let before = a.room.before in (
      omega (arith, c.in_ok-made.ensures.few),
      λ es h.
          let n = h.long in
          let adds = c.in_ok-made.ensures.adds _ (c.read-environment.ensures _ (map_read (far es h) a.room.from (omega arith) h.listed (omega arith))) in
          map-step (far es h) _ _ (omega arith) adds.came.count adds.came.listed adds.front,
    )

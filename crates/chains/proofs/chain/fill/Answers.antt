-- `chains::chain::fill` meets its contract. The invariant: the rows from `row` on are linked, and their keys kept.
use Prim.Native.Nat.{ℕ, ◌-◌, ◌/◌}
use native.Mathlib.Omega.{arith}
use mathlib.Core.Path.{◌≡◌, refl, sym, subst}
use lib.ListN.{length, length-set}
use Rattle.model.specs.Log.{row_count}
use Rattle.chains.specs.Chain.{Empty, Chained}
use Rattle.chains.specs.Key as K
use Rattle.chains.proofs.Keys.{key_in, heads-few}
use Rattle.chains.proofs.Chains.{fill_start, fill_step, fill_end}
use Rattle.chains.proofs.chain.fill.Goals as goal

pub loop-row-init : goal.loop-row-init
unfolding row_count
loop-row-init c =
    let a = c.args in
    let rows = length a.log.now / 8 in
    fill_start (K.key_by a.kind a.log.now) c.heads-heads.result rows _ a.keys.now a.links.now (omega arith) c.requires.1
    (subst (λ (n : ℕ). Empty n rows a.links.now) (sym c.heads-heads.ensures) c.requires.2)

pub overflow_cast-keys : goal.overflow_cast-keys
overflow_cast-keys c = omega (arith, c.of-key.ensures, key_in c.args.kind c.args.log.now (c.loop-row.row - 1), heads-few c.args.kind)

pub offset_bounds-links-key : goal.offset_bounds-links-key
offset_bounds-links-key c = omega (arith, c.of-key.ensures, key_in c.args.kind c.args.log.now (c.loop-row.row - 1), heads-few c.args.kind)

pub bounds-links-key : goal.bounds-links-key
bounds-links-key c = omega (arith, c.of-key.ensures, key_in c.args.kind c.args.log.now (c.loop-row.row - 1))

pub overflow_cast-links : goal.overflow_cast-links
unfolding row_count
overflow_cast-links c = omega (arith, c.requires.0)

pub offset_bounds-links-key-in-loop-row : goal.offset_bounds-links-key-in-loop-row
offset_bounds-links-key-in-loop-row c = omega (arith, c.of-key.ensures, key_in c.args.kind c.args.log.now (c.loop-row.row - 1), heads-few c.args.kind)

pub bounds-links-key-in-loop-row : goal.bounds-links-key-in-loop-row
bounds-links-key-in-loop-row c = simp length-set (omega (arith, c.of-key.ensures, key_in c.args.kind c.args.log.now (c.loop-row.row - 1)))

pub loop-row-preserved : goal.loop-row-preserved
loop-row-preserved c =
    let a = c.args in
    let k = key_in a.kind a.log.now (c.loop-row.row - 1) in
    fill_step (K.key_by a.kind a.log.now) c.heads-heads.result (length a.log.now / 8) (c.loop-row.row - 1) c.loop-row.row
    (length a.log.now / 8 - (c.loop-row.row - 1)) c.of-key.result c.loop-row.keys c.loop-row.links
    (omega (arith, c.of-key.ensures, k)) (omega arith) (omega arith) c.loop-row.invariant refl c.of-key.ensures

pub returns : goal.returns
unfolding row_count
returns c =
    let a = c.args in
    let rows = length a.log.now / 8 in
    let filling = c.loop-row.invariant in
    let done : c.loop-row.row ≡ 0 = omega (arith, c.loop-row-test.false) in record {
      keys = record { long = filling.keys-long; keyed = λ r inside. filling.kept r (omega arith) inside };
      chained = subst (λ (n : ℕ). Chained (K.key_by a.kind a.log.now) n rows c.loop-row.links) c.heads-heads.ensures
          (fill_end (K.key_by a.kind a.log.now) c.heads-heads.result rows c.loop-row.keys c.loop-row.links c.loop-row.row done filling);
    }

-- `instances::choosing::choose` meets its contract. The loop's invariant: that of `by_pairs`, and the excluded tuples and those found are
-- entered in the table.
use Prim.Native.Nat.{◌+◌, ◌*◌}
use native.Mathlib.Omega.{arith}
use Rattle.instances.proofs.InstanceLaws.{turn, going_first, going_last, next}
use Rattle.instances.proofs.KeyLaws.{key-small}
use Rattle.instances.proofs.SeenLaws.{keyed-excluded, on_known, on_new, keyed_on}
use Rattle.instances.proofs.choosing.choose.Goals as goal

pub loop-i-init : goal.loop-i-init
loop-i-init c =
    let a = c.args in (
      going_first a.excluded.words.now a.excluded.from a.excluded.m a.excluded.v a.scope a.scratch.now a.first a.count,
      keyed-excluded a.excluded.words.now a.excluded.from a.excluded.m a.excluded.v a.scratch.now (17 * a.first + a.scope) _ _
          c.enter_excluded.ensures,
    )

pub loop-i-preserved-then-seen : goal.loop-i-preserved-then-seen
loop-i-preserved-then-seen c =
    let t = turn c.requires.0 c.requires.1 c.loop-i-test.true c.loop-i.invariant.0 in
    (on_known t c.seen.result c.seen.ensures c.if-seen.true, c.loop-i.invariant.1)

pub enter-requires : goal.enter-requires
enter-requires c =
    let t = turn c.requires.0 c.requires.1 c.loop-i-test.true c.loop-i.invariant.0 in
    let g = c.loop-i.invariant.0 in
    (omega (arith, c.key-key.ensures, key-small 0 (next t)), omega (arith, g.few, c.requires.2))

pub loop-i-preserved : goal.loop-i-preserved
loop-i-preserved c =
    let t = turn c.requires.0 c.requires.1 c.loop-i-test.true c.loop-i.invariant.0 in (
      on_new t c.seen.result c.seen.ensures c.if-seen.false _ c.copy_place.ensures,
      keyed_on
          t _ c.copy_place.ensures c.key-key.result c.loop-i.keys.heads c.loop-i.keys.links _ _ c.requires.2 c.key-key.ensures
          c.loop-i.invariant.1 c.enter.ensures.heads c.enter.ensures.links,
    )

pub returns : goal.returns
returns c =
    let a = c.args in
    going_last a.excluded.words.now a.excluded.from a.excluded.m a.excluded.v a.scope a.scratch.now c.loop-i.scratch a.first a.count
    c.loop-i.found c.loop-i.i (omega arith) c.loop-i.invariant.0

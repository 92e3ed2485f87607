-- `instances::choosing::by_pairs` meets its contract. The loop's invariant: of the first i places those with fresh tuples stand
-- in front, and their tuples and the fresh ones of what is left are the fresh ones of the whole list.
use native.Mathlib.Omega.{arith}
use Rattle.instances.proofs.InstanceLaws.{turn, going_first, going_last, on_excluded, on_seen, on_found}
use Rattle.instances.proofs.choosing.by_pairs.Goals as goal

pub loop-i-init : goal.loop-i-init
loop-i-init c =
    let a = c.args in
    going_first a.excluded.words.now a.excluded.from a.excluded.m a.excluded.v a.scope a.scratch.now a.first a.count

pub loop-i-preserved-then-stands : goal.loop-i-preserved-then-stands
loop-i-preserved-then-stands c =
    let t = turn c.requires.0 c.requires.1 c.loop-i-test.true c.loop-i.invariant in
    on_excluded t c.stands.result c.stands.ensures c.if-stands.true

pub loop-i-preserved-then-stands-2 : goal.loop-i-preserved-then-stands-2
loop-i-preserved-then-stands-2 c =
    let t = turn c.requires.0 c.requires.1 c.loop-i-test.true c.loop-i.invariant in
    on_seen t c.stands.result c.stands.ensures c.stands-in-loop-i.result
    c.stands-in-loop-i.ensures c.if-stands-2.true

pub loop-i-preserved : goal.loop-i-preserved
loop-i-preserved c =
    let t = turn c.requires.0 c.requires.1 c.loop-i-test.true c.loop-i.invariant in
    on_found t c.stands.result c.stands.ensures c.stands-in-loop-i.result c.stands-in-loop-i.ensures
    c.if-stands.false c.if-stands-2.false _ c.copy_place.ensures

pub returns : goal.returns
returns c =
    let a = c.args in
    going_last a.excluded.words.now a.excluded.from a.excluded.m a.excluded.v a.scope a.scratch.now c.loop-i.scratch a.first a.count
    c.loop-i.found c.loop-i.i (omega arith) c.loop-i.invariant

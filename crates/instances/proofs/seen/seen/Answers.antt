-- `instances::seen::seen` meets its contract. The loop's invariant: the tuple is one of the entries if it is one of those below the link,
-- the last of which has its key. The measure is the link, which falls along a chain.
use Prim.Native.Nat.{◌-◌}
use native.Mathlib.Omega.{arith}
use lib.ListN.{take, drop}
use Rattle.instances.specs.Keyed.{entry_at}
use Rattle.instances.proofs.KeyLaws.{key-small, walking_first, walking_found, walking_on, walking_last}
use Rattle.instances.proofs.seen.seen.Goals as goal

pub offset_bounds-heads-key : goal.offset_bounds-heads-key
offset_bounds-heads-key c =
    let a = c.args in
    omega (arith, c.requires.3, key-small 0 (take a.excluded.v (drop a.at a.scratch.now)))

pub bounds-heads-key : goal.bounds-heads-key
bounds-heads-key c =
    let a = c.args in
    omega (arith, c.requires.3, c.requires.4.keys, key-small 0 (take a.excluded.v (drop a.at a.scratch.now)))

pub loop-link-init : goal.loop-link-init
loop-link-init c =
    let a = c.args in
    walking_first (entry_at a.excluded.words.now a.excluded.from a.excluded.m a.excluded.v a.scratch.now a.start)
    (take a.excluded.v (drop a.at a.scratch.now)) a.n a.heads.now a.links.now c.requires.4 a.key
    c.requires.3

pub returns-then-equal_entry : goal.returns-then-equal_entry
returns-then-equal_entry c =
    let a = c.args in
    walking_found (entry_at a.excluded.words.now a.excluded.from a.excluded.m a.excluded.v a.scratch.now a.start)
    (take a.excluded.v (drop a.at a.scratch.now)) a.n a.heads.now a.links.now c.requires.4 c.loop-link.link
    (c.loop-link.link - 1) (omega arith) c.loop-link.invariant c.equal_entry.result c.equal_entry.ensures c.if-equal_entry.true

pub loop-link-preserved : goal.loop-link-preserved
loop-link-preserved c =
    let a = c.args in
    walking_on (entry_at a.excluded.words.now a.excluded.from a.excluded.m a.excluded.v a.scratch.now a.start)
    (take a.excluded.v (drop a.at a.scratch.now)) a.n a.heads.now a.links.now c.requires.4 c.loop-link.link
    (c.loop-link.link - 1) (omega arith) c.loop-link.invariant c.equal_entry.result c.equal_entry.ensures c.if-equal_entry.false

pub returns : goal.returns
returns c =
    let a = c.args in
    walking_last (entry_at a.excluded.words.now a.excluded.from a.excluded.m a.excluded.v a.scratch.now a.start)
    (take a.excluded.v (drop a.at a.scratch.now)) a.n a.heads.now a.links.now c.requires.4 c.loop-link.link
    (omega arith) c.loop-link.invariant

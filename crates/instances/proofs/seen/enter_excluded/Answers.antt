-- `instances::seen::enter_excluded` meets its contract. The loop's invariant: the first e tuples are entered.
use Prim.Native.Nat.{◌+◌, ◌*◌}
use native.Mathlib.Omega.{arith}
use mathlib.Core.Path.{refl}
use lib.ListN.{take, drop}
use Rattle.instances.proofs.KeyLaws.{key-small, keyed-none, keyed_entered}
use Rattle.instances.proofs.seen.enter_excluded.Goals as goal

pub loop-e-init : goal.loop-e-init
loop-e-init c =
    let a = c.args in
    keyed-none (λ e. take a.excluded.v (drop (a.excluded.from + a.excluded.v * e) a.excluded.words.now)) 8192 a.heads.now
    a.links.now refl c.requires.1 c.requires.2

pub enter-requires : goal.enter-requires
enter-requires c =
    let a = c.args in
    let small = key-small 0 (take a.excluded.v (drop (a.excluded.from + a.excluded.v * c.loop-e.e) a.excluded.words.now)) in
    (omega (arith, small, c.key-k.ensures, c.loop-e.invariant.keys), omega (arith, c.requires.0, c.loop-e.invariant.room), omega (arith, c.requires.0))

pub loop-e-preserved : goal.loop-e-preserved
loop-e-preserved c =
    let a = c.args in
    keyed_entered (λ e. take a.excluded.v (drop (a.excluded.from + a.excluded.v * e) a.excluded.words.now)) c.loop-e.e c.key-k.result
    c.loop-e.heads c.loop-e.links (omega (arith, c.requires.0)) c.key-k.ensures c.loop-e.invariant _ _ c.enter.ensures.heads_after
    c.enter.ensures.links_after

-- `nodes::last::tuples` meets its contract. The loop's invariant: the first j tuples stand one behind another.
use Prim.Native.Nat.{◌+◌, ◌*◌, ◌≤◌}
use native.Mathlib.Omega.{arith}
use lib.ListN.{length}
use mathlib.Core.Path.{◌≡◌}
use Rattle.nodes.proofs.LastLaws.{copied_start, copied_more, copied_end}
use Rattle.nodes.proofs.last.tuples.Goals as goal

pub loop-j-init : goal.loop-j-init
loop-j-init c =
    let a = c.args in
    copied_start a.scratch.now a.v (17 * a.from + a.scope) a.k a.out.now a.to (omega arith) c.requires.2

pub loop-j-preserved : goal.loop-j-preserved
loop-j-preserved c =
    let a = c.args in
    let there : 17 * a.from + a.scope + 17 * a.k + a.v ≤ length a.scratch.now + 17 =
    omega (arith, c.requires) in
    let place : 17 * (a.from + c.loop-j.j) + a.scope ≡ 17 * a.from + a.scope + 17 * c.loop-j.j = omega arith in
    copied_more _ _ _ _ _ _ there _ _ c.loop-j.invariant c.loop-j-test.true _ _ place c.copy_words.ensures

pub returns : goal.returns
returns c =
    let a = c.args in
    copied_end a.scratch.now a.v (17 * a.from + a.scope) a.k a.out.now a.to
    (omega (arith, c.requires)) c.loop-j.j c.loop-j.out c.loop-j.invariant (omega arith)

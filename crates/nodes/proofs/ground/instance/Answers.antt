-- `nodes::ground::instance` meets its contract. The loop's invariant: the environment so far binds i variables more, to the first
-- i numbers of the instance.
use Prim.Native.Nat.{◌+◌, ◌*◌, ◌-◌}
use native.Mathlib.Omega.{arith}
use mathlib.Core.Path.{◌≡◌}
use lib.ListN.{get_or}
use lib.IntN.{pos}
use mir.Syntax.{w32}
use mir.Val.{to_z, of_z}
use borrow.Author.Rules.{rules}
use Rattle.environments.proofs.Places.{held-bind}
use Rattle.nodes.proofs.GroundLaws.{binding-more}
use Rattle.nodes.proofs.ground.instance.Goals as goal

pub loop-i-preserved : goal.loop-i-preserved
loop-i-preserved c =
    let a = c.args in
    let z = get_or a.scratch.now (17 * a.place + a.scope + c.loop-i.i) (pos 0) in
    let back : to_z w32 (of_z w32 z) ≡ z = search rules in (
      omega arith,
      binding-more a.scratch.now (17 * a.place + a.scope) a.scope a.environment c.loop-i.bound _ c.loop-i.i _ (omega arith) back
          (λ e h. held-bind h (a.scope + c.loop-i.i) _)
          c.loop-i.invariant.1,
    )

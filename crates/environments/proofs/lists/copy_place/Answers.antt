-- `environments::lists::copy_place` meets its contract: words copied to where they stand are as they were.
use Prim.Native.Nat.{◌*◌}
use mathlib.Core.Path.{refl}
use lib.ListN.{take-append-drop}
use lib.Seq.{drop-drop}
use Rattle.environments.proofs.lists.copy_place.Goals as goal

pub returns-then-source-target : goal.returns-then-source-target
returns-then-source-target c =
    let a = c.args in
    rw (c.if-source-target.true, ← drop-drop 17 (17 * a.target) a.scratch.now, take-append-drop, take-append-drop) refl

-- `nodes::last::head` meets its contract: two words are copied, and the sum of the numbers of tuples is stored behind them.
use Prim.Native.Nat.{◌+◌}
use native.Mathlib.Omega.{arith}
use mathlib.Core.Path.{◌≡◌}
use lib.IntN.{pos}
use mir.Syntax.{w32}
use mir.Val.{SFits, to_z, of_z}
use mir.Facts.{to_z-of_z}
use Rattle.nodes.proofs.LastLaws.{head-laid}
use Rattle.nodes.proofs.last.head.Goals as goal

pub returns : goal.returns
returns c =
    let a = c.args in
    let n = c.value-m.result + a.k in
    let fits : SFits w32 (pos n) = record { sfits = omega (arith, c.requires.1, c.value-m.ensures) } in
    let back : to_z w32 (of_z w32 (pos n)) ≡ pos n = to_z-of_z fits in
    head-laid a.words.now a.at a.k c.requires.0 a.out.now _ c.value-m.result _ c.requires.2 c.value-m.ensures
    back c.copy_words.ensures

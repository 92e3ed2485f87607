-- `joining::join::head` meets its contract: the words move to the right, and the two words of the header are stored.
use native.Mathlib.Omega.{arith}
use mathlib.Core.Path.{◌≡◌, ap, ap₂, ◌∙◌}
use mathlib.Core.Bool.{Bool, true, false, cond}
use Prim.Native.Nat.{ℕ, ◌≤◌}
use lib.ListN.{take, set}
use lib.IntN.{ℤ, pos}
use mir.Syntax.{w32}
use mir.Val.{SFits, to_z, of_z}
use mir.Facts.{to_z-of_z}
use Rattle.model.specs.Words.{Words}
use Rattle.words.specs.Laying.{laid}
use Rattle.words.proofs.MovingLaws.{headed}
use Rattle.joining.proofs.join.head.Goals as goal

-- a small number is stored as it is
stored : (n : ℕ) → n ≤ 1048576 → to_z w32 (of_z w32 (pos n)) ≡ pos n
stored n h = let fits : SFits w32 (pos n) = record { sfits = omega arith } in to_z-of_z (fits)

small : (kind : Bool) → cond kind 6 7 ≤ 1048576
small true = omega arith
small false = omega arith

pub returns : goal.returns
returns c =
    let a = c.args in
    let tag : to_z w32 (of_z w32 (pos c.tag.result)) ≡ pos (cond a.kind 6 7)
    = ap (λ (n : ℕ). to_z w32 (of_z w32 (pos n))) c.tag.ensures ∙ stored (cond a.kind 6 7) (small a.kind) in
    ap (λ (l : Words). set (set l 1 (to_z w32 (of_z w32 (pos a.parts)))) 0 (to_z w32 (of_z w32 (pos c.tag.result)))) c.right.ensures
    ∙ ap₂ (λ (x y : ℤ). set (set (laid a.out.now 2 (take a.n a.out.now)) 1 x) 0 y) (stored a.parts c.requires.1) tag
    ∙ headed a.out.now a.n (pos (cond a.kind 6 7)) (pos a.parts) c.requires.0

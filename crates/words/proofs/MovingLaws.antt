-- A header of two words, put in front of words that have moved to the right.
use Prim.Native.Nat.{ℕ, ◌+◌, ◌≤◌}
use native.Mathlib.Omega.{arith}
use mathlib.Core.Path.{◌≡◌, ap}
use mathlib.Core.List.{[], ◌∷◌, ◌++◌}
use lib.ListN.{length, take, drop, set}
use lib.IntN.{ℤ}
use Rattle.model.specs.Words.{Words}
use Rattle.words.specs.Laying.{laid}

-- two words put before words that have moved to the right
pub headed :
    (old : Words) (n : ℕ) (x y : ℤ) →
    n + 2 ≤ length old →
    set (set (laid old 2 (take n old)) 1 y) 0 x ≡ laid old 0 (x ∷ y ∷ take n old)
unfolding laid
headed [] n x y h = absurd (omega arith)
headed (a ∷ []) n x y h = absurd (omega arith)
headed (a ∷ b ∷ rest) n x y h =
    let part : Words = take n (a ∷ b ∷ rest) in
    let e : 2 + length part ≡ 0 + length (x ∷ y ∷ part) = omega arith in
    ap (λ (m : ℕ). x ∷ y ∷ part ++ drop m (a ∷ b ∷ rest)) e

-- Signed words of 32 bits widened to 64 bits and added: nothing wraps.
use Prim.Native.Nat.{ℕ, suc, ◌^◌, ◌<◌}
use native.Mathlib.Omega.{arith}
use mathlib.Core.Path.{◌≡◌, ap, ◌∙◌}
use mathlib.Core.Logic.{⊎_elim}
use lib.Dec.{ltb}
use lib.IntN.{ℤ, pos, negsuc, sub_ℕ, ◌+ℤ◌}
use mir.Syntax.{w32, w64}
use mir.Val.{SFits, to_z, of_z}
use mir.Facts.{to_z-of_z, sfits_widen}
use Rattle.laws.specs.Words.Tests.{decide}

-- a difference of two numbers below 2 ^ 32
difference_fits : (a b : ℕ) → a < 2 ^ 32 → b < 2 ^ 32 → SFits w64 (sub_ℕ a b)
difference_fits a b h k = ⊎_elim (λ e. rw e (record { sfits = omega arith })) (λ e. rw e (record { sfits = omega arith })) (decide (ltb a b))

pub sum_fits : (x d : ℤ) → SFits w32 x → SFits w32 d → SFits w64 (x +ℤ d)
sum_fits (pos a) (pos b) h k = record { sfits = omega (arith, h.sfits, k.sfits) }
sum_fits (pos a) (negsuc b) h k = difference_fits a (suc b) (omega (arith, h.sfits)) (omega (arith, k.sfits))
sum_fits (negsuc a) (pos b) h k = difference_fits b (suc a) (omega (arith, k.sfits)) (omega (arith, h.sfits))
sum_fits (negsuc a) (negsuc b) h k = record { sfits = omega (arith, h.sfits, k.sfits) }

-- what the machine reads back of a widened word is the word
pub widened : (x : ℤ) → SFits w32 x → to_z w64 (of_z w64 (to_z w32 (of_z w32 x))) ≡ x
widened x h = ap (λ (z : ℤ). to_z w64 (of_z w64 z)) (to_z-of_z h) ∙ to_z-of_z (sfits_widen {w' = w64} tt h)

-- `words::from_least` meets its contract: the sum is taken in 64 bits, where it fits and is not negative.
use Prim.Native.Nat.{◌^◌}
use native.Mathlib.Omega.{arith}
use mathlib.Core.Path.{◌≡◌, ◌∙◌, ap, sym, subst}
use lib.Dec.{T}
use lib.IntN.{ℤ, pos, nat_abs, ◌+ℤ◌}
use lib.Signed.{non_neg}
use mir.Syntax.{w32, w64}
use mir.Val.{Fits, SFits, to_z, of_z}
use mir.Facts.{to_z-of_z, sfits_widen}
use Rattle.words.specs.Offset.{from_least}
use Rattle.words.proofs.Signed.{raised}
use Rattle.words.proofs.from_least.Goals as goal

module _ (x : ℤ) (h : SFits w32 x) where
  -- the word is read back as it was, at both widths
  wide : to_z w64 (of_z w64 (to_z w32 (of_z w32 x))) ≡ x
  wide = ap (λ (z : ℤ). to_z w64 (of_z w64 z)) (to_z-of_z h) ∙ to_z-of_z (sfits_widen {w' = w64} tt h)

  sum_fits : SFits w64 (x +ℤ pos (2 ^ 31))
  sum_fits = let (y, e, b) = raised x h in subst (SFits w64) (sym e) (record { sfits = omega arith })

  -- and so is the sum
  read_back : to_z w64 (of_z w64 (to_z w64 (of_z w64 (to_z w32 (of_z w32 x))) +ℤ pos (2 ^ 31))) ≡ x +ℤ pos (2 ^ 31)
  read_back = ap (λ (z : ℤ). to_z w64 (of_z w64 (z +ℤ pos (2 ^ 31)))) wide ∙ to_z-of_z sum_fits

  sum_number : T (non_neg (x +ℤ pos (2 ^ 31))) × Fits w64 (nat_abs (x +ℤ pos (2 ^ 31)))
  sum_number =
      let (y, e, b) = raised x h in
      subst (λ (z : ℤ). T (non_neg z) × Fits w64 (nat_abs z)) (sym e) (tt, record { fits = omega arith })

pub returns : goal.returns
unfolding from_least
returns c = ap nat_abs (read_back c.args.x c.ranges.x)

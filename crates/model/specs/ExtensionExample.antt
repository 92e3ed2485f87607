-- A log with a row in front of another's extends it, over table T: what is known of send (7, 9, 100) stays, though the row in front
-- begins like it.
use Rattle.std.specs.Prelude.{ℕ, zero, suc, ◌≡◌, refl, Bool, true, false, cond, ◌&&◌, [], ◌∷◌, ℤ, pos, negsuc}
use Rattle.std.proofs.Common.{arith, true≢false, eqb-true, ne_eqb}
use Rattle.model.specs.Words.{Words, equal}
use Rattle.model.specs.Log.{known, unknown}
use Rattle.model.specs.Truth.{structure, Extends}
use Rattle.model.specs.Examples.{words, T, computing}

-- 7 sent to 9 at 100; and in front of this row: 7 did not send to 9 at 101
unfoldable pub one : Words
one = words (0 ∷ 1 ∷ 7 ∷ 9 ∷ 100 ∷ 0 ∷ 0 ∷ 0 ∷ [])

unfoldable pub two : Words
two = words (0 ∷ 0 ∷ 7 ∷ 9 ∷ 101 ∷ 0 ∷ 0 ∷ 0 ∷ 0 ∷ 1 ∷ 7 ∷ 9 ∷ 100 ∷ 0 ∷ 0 ∷ 0 ∷ [])

-- no number is both times
apart : (z : ℤ) → equal (pos 100) z ≡ true → equal (pos 101) z ≡ false
unfolding equal
apart (pos n) e = let is : 100 ≡ n = eqb-true 100 n e in ne_eqb 101 n (λ other. omega arith)
apart (negsuc n) e = refl

-- tests of three arguments: of the row alone, and of the row in front before it
front-row :
    (a b c d v : Bool) →
    (c ≡ true → d ≡ false) →
    cond (a && (b && (c && true))) (known true) unknown ≡ known v →
    cond (a && (b && (d && true))) (known false) (cond (a && (b && (c && true))) (known true) unknown) ≡ known v
front-row false b c d v h e = e
front-row true false c d v h e = e
front-row true true c false v h e = e
front-row true true true true v h e = absurd (true≢false (h refl))
front-row true true false true v h e = let z : ◌≡◌ {A = ℕ} 0 1 = cc in absurd (omega arith)

pub row_in_front : Extends T (structure T one) (structure T two)
unfolding computing one two
row_in_front zero [] is_ground b e = absurd (omega arith)
row_in_front zero (x ∷ []) is_ground b e = absurd (omega arith)
row_in_front zero (x ∷ y ∷ []) is_ground b e = absurd (omega arith)
row_in_front zero (x ∷ y ∷ z ∷ []) is_ground b e =
    front-row (equal (pos 7) x) (equal (pos 9) y) (equal (pos 100) z) (equal (pos 101) z) b (apart z) e
row_in_front zero (x ∷ y ∷ z ∷ w ∷ more) is_ground b e = absurd (omega arith)
row_in_front (suc zero) ns is_ground b e = e
row_in_front (suc (suc zero)) ns is_ground b e = e
row_in_front (suc (suc (suc p))) ns is_ground b e = absurd (omega arith)

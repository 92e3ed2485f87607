-- Laws for words laid in front of others that were laid before them, and behind them.
use Prim.Native.Nat.{ℕ, suc, ◌+◌, ◌<◌}
use native.Mathlib.Numerals.{add-one}
use native.Mathlib.Omega.{arith}
use mathlib.Core.Path.{◌≡◌, refl, sym, ap, ◌∙◌}
use mathlib.Core.List.{[], ◌∷◌, ◌++◌}
use lib.ListN.{length, set}
use lib.Seq.{sets, set_comm}
use lib.IntN.{ℤ}
use Rattle.model.specs.Words.{Words}

-- a word at an index below all of a list is laid before it or behind it
pub sets-set : (xs out : Words) (i w : ℕ) (a : ℤ) → i < w → sets (set out i a) w xs ≡ set (sets out w xs) i a
sets-set [] out i w a h = refl
sets-set (x ∷ xs) out i w a h =
    ap (λ (o : Words). sets o (suc w) xs) (set_comm out i w a x (λ e. omega arith))
    ∙ sets-set xs (set out w x) i (suc w) a (omega arith)

-- one word, two and three in front of a list
pub laid_one : (xs out : Words) (w : ℕ) (a : ℤ) → set (sets out (w + 1) xs) w a ≡ sets out w (a ∷ xs)
laid_one xs out w a =
    ap (λ (k : ℕ). set (sets out k xs) w a) (add-one w) ∙ sym (sets-set xs out w (suc w) a (omega arith))

pub laid-two : (xs out : Words) (w : ℕ) (a b : ℤ) → set (set (sets out (w + 2) xs) w a) (w + 1) b ≡ sets out w (a ∷ b ∷ xs)
laid-two xs out w a b =
    let next : w + 2 ≡ w + 1 + 1 = omega arith in
    set_comm (sets out (w + 2) xs) w (w + 1) a b (λ e. omega arith)
    ∙ ap (λ (k : ℕ). set (set (sets out k xs) (w + 1) b) w a) next
    ∙ ap (λ (o : Words). set o w a) (laid_one xs out (w + 1) b)
    ∙ laid_one (b ∷ xs) out w a

pub laid_three :
    (xs out : Words) (w : ℕ) (a b c : ℤ) →
    set (set (set (sets out (w + 3) xs) w a) (w + 1) b) (w + 2) c ≡ sets out w (a ∷ b ∷ c ∷ xs)
laid_three xs out w a b c =
    let next : w + 3 ≡ w + 2 + 1 = omega arith in
    let laid = sets out (w + 3) xs in
    set_comm (set laid w a) (w + 1) (w + 2) b c (λ e. omega arith)
    ∙ ap (λ (o : Words). set o (w + 1) b) (set_comm laid w (w + 2) a c (λ e. omega arith))
    ∙ ap (λ (k : ℕ). set (set (set (sets out k xs) (w + 2) c) w a) (w + 1) b) next
    ∙ ap (λ (o : Words). set (set o w a) (w + 1) b) (laid_one xs out (w + 2) c)
    ∙ laid-two (c ∷ xs) out w a b

-- one more at the end of what was laid
pub sets_last : (ks out : Words) (w : ℕ) (k : ℤ) → set (sets out w ks) (w + length ks) k ≡ sets out w (ks ++ k ∷ [])
sets_last [] out w k = ap (λ (n : ℕ). set out n k) (let e : w + 0 ≡ w = omega arith in e)
sets_last (j ∷ ks) out w k =
    ap (λ (n : ℕ). set (sets (set out w j) (suc w) ks) n k) (let e : w + suc (length ks) ≡ suc w + length ks = omega arith in e)
    ∙ sets_last ks (set out w j) (suc w) k

-- An array filled from the front, element by element.
use Prim.Native.Nat.{ℕ, suc, ◌+◌, ◌*◌, ◌-◌, ◌≤◌, ◌<◌, ◌/◌, ◌%◌}
use native.Mathlib.Omega.{arith}
use native.Mathlib.Numerals.{add-one}
use mathlib.Core.Path.{◌≡◌, refl, sym, ap, ◌∙◌}
use mathlib.Core.Bool.{Bool, cond, true, false}
use mathlib.Core.List.{List, [], ◌∷◌, ◌++◌, append_assoc, append-nil}
use lib.ListN.{length, get_or, set, take, drop}
use lib.Seq.{take-suc-set, take_all, drop-cons, drop-set-lt}
use lib.Dec.{eqb}
use mir.Val.{bool_byte}
use Rattle.environments.specs.Environment.{bits, unbits}

module _ {A : Type 0} where
  -- one element more is there, and one less is left
  pub take_next : (l : List A) (i : ℕ) (v : A) → i < length l → take (i + 1) (set l i v) ≡ take i l ++ (v ∷ [])
  take_next l i v h = rw (add-one i) (take-suc-set l i v h)

  pub drop-next : (l : List A) (i : ℕ) (v : A) → drop (i + 1) (set l i v) ≡ drop (i + 1) l
  drop-next l i v = drop-set-lt (i + 1) l i v (omega arith)

-- the marks that are there and those that the rest of the number has are one more and one less
pub unbits-next :
    (marks : List Bool) (n left i : ℕ) →
    i < length marks →
    i < n →
    take i marks ++ unbits (n - i) left ≡ take (i + 1) (set marks i (eqb (left % 2) 1)) ++ unbits (n - (i + 1)) (left / 2)
unfolding unbits
unbits-next marks n left i h k =
    let some : n - i ≡ suc (n - (i + 1)) = omega arith in
    let b = eqb (left % 2) 1 in
    ap (λ (m : ℕ). take i marks ++ unbits m left) some
    ∙ sym (append_assoc (take i marks) (b ∷ []) (unbits (n - (i + 1)) (left / 2)))
    ∙ sym (ap (λ (p : List Bool). p ++ unbits (n - (i + 1)) (left / 2)) (take_next marks i b h))

pub unbits-last : (marks : List Bool) (n left i : ℕ) → length marks ≡ n → n ≤ i → take i marks ++ unbits (n - i) left ≡ marks
unfolding unbits
unbits-last marks n left i l h =
    let none : n - i ≡ 0 = omega arith in
    ap (λ (m : ℕ). take i marks ++ unbits m left) none ∙ append-nil (take i marks) ∙ take_all i marks (omega arith)

-- a mark as a bit
byte_bit : (b : Bool) → bool_byte b ≡ cond b 1 0
byte_bit true = refl
byte_bit false = refl

pub byte_small : (b : Bool) → bool_byte b ≤ 1
byte_small true = omega arith
byte_small false = omega arith

-- the bits of the marks from a number on, one mark more
pub bits-more :
    (marks : List Bool) (i word : ℕ) →
    0 < i →
    i ≤ length marks →
    word ≡ bits (drop i marks) →
    2 * word + bool_byte (get_or marks (i - 1) false) ≡ bits (drop (i - 1) marks)
unfolding bits
bits-more marks i word l h e =
    let b = get_or marks (i - 1) false in
    let next : suc (i - 1) ≡ i = omega arith in
    let bit : bool_byte b ≡ cond b 1 0 = byte_bit b in
    let cut : bits (drop (i - 1) marks) ≡ cond b 1 0 + 2 * bits (drop (suc (i - 1)) marks) = ap bits (drop-cons marks (i - 1) false (omega arith)) in
    let rest : bits (drop (suc (i - 1)) marks) ≡ word = ap (λ (k : ℕ). bits (drop k marks)) next ∙ sym e in
    omega arith

-- Laws for the writing of numbers: how many digits there are, and the digits one after another, from the last to the first.
use Prim.Native.Nat.{ℕ, zero, suc, ◌+◌, ◌-◌, ◌/◌, ◌%◌, ◌^◌, ◌≤◌, ◌<◌}
use native.Mathlib.Nat.{one-le-pow}
use native.Mathlib.Numerals.{add-one}
use native.Mathlib.Omega.{arith}
use mathlib.Core.Path.{◌≡◌, refl, sym, ap, ap₂, ◌∙◌, subst}
use mathlib.Core.Logic.{⊎_elim}
use mathlib.Core.Bool.{Bool, true, false}
use mathlib.Core.List.{List, [], ◌∷◌, ◌++◌, append_assoc, append-nil}
use lib.ListN.{length, take, drop, set, get_or, length-append, length-set}
use lib.Seq.{take-suc, append_snoc, set_at, take_at, take-set-le, take-suc-set, length-take-le}
use lib.Dec.{leb}
use lib.IntN.{ℤ, pos, negsuc, nat_abs}
use Rattle.std.specs.List.{prefix_len}
use lib.Signed.{lt_z}
use mir.Val.{bool_byte}
use borrow.Author.Tests.{lt-ltb, le-ltb, leb-true, leb-false}
use Rattle.model.specs.Words.{Words, word, value}
use Rattle.model.specs.Bytes.{Text, minus, nought}
use Rattle.model.specs.Decimal.{digits, decimal}
use Rattle.laws.specs.Words.Tests.{decide}
use Rattle.laws.specs.Lists.Span.{side}
use Rattle.text.specs.Writing.{last_digits, Width}
use Rattle.text.specs.Put.{Wrote}

-- the digits of a number of suc r digits are its last ones, and so are as many digits as are written of a longer one
last-all : (k r n : ℕ) → r < k → (1 ≤ r → 10 ^ r ≤ n) → (suc r < k → n < 10 ^ suc r) → digits k n ≡ last_digits (suc r) n
unfolding digits last_digits
last-all zero r n h low high = absurd (omega arith)
last-all (suc k) zero n h low high = ⊎_elim one (many k high) (side 10 n)
  where
    one : n < 10 → digits (suc k) n ≡ (nought + n % 10) ∷ []
    one l = let same : n ≡ n % 10 = omega arith in rw (lt-ltb n 10 l) (ap (λ (m : ℕ). (nought + m) ∷ []) same)

    many : (k : ℕ) → (1 < suc k → n < 10) → 10 ≤ n → digits (suc k) n ≡ (nought + n % 10) ∷ []
    many zero high l = rw (le-ltb n 10 l)
    many (suc k) high l = absurd (omega (arith, high (omega arith)))
last-all (suc k) (suc r) n h low high =
    let some = one-le-pow r 10 (omega arith) in
    let least = low (omega arith) in
    rw (le-ltb n 10 (omega arith))
    (ap (λ (t : Text). t ++ (nought + n % 10) ∷ [])
    (last-all k r (n / 10) (omega arith) (λ _. omega arith) (λ l. omega (arith, high (omega arith)))))

-- powers of ten from 10 ^ (k + 1) on
abbrev pub powers : ℕ → ℕ → List ℕ
powers k zero = []
powers k (suc left) = 10 ^ suc k ∷ powers (suc k) left

-- so the number of those that a number reaches tells how many there are
pub width_reached : (n r : ℕ) → r ≡ prefix_len (λ p. leb p n) (powers 0 9) → Width n (1 + r)
width_reached n r e = rw e (from 0 9 refl (λ h. absurd (omega arith)))
  where
    here : (k : ℕ) → k < 10 → (1 ≤ k → 10 ^ k ≤ n) → (suc k < 10 → n < 10 ^ suc k) → Width n (1 + k + 0)
    here k h low high =
        let count : suc k ≡ 1 + k + 0 = omega arith in
        subst (Width n) count (record { some = omega arith; few = h; is = last-all 10 k n h low high })

    from : (k left : ℕ) → k + left ≡ 9 → (1 ≤ k → 10 ^ k ≤ n) → Width n (1 + k + prefix_len (λ p. leb p n) (powers k left))
    from k zero h low = here k (omega arith) low (λ l. absurd (omega arith))
    from k (suc left) h low =
        ⊎_elim
        (λ (l : leb (10 ^ suc k) n ≡ true).
        let more = from (suc k) left (omega arith) (λ _. leb-true (10 ^ suc k) n l) in
        let count : 1 + suc k + prefix_len (λ p. leb p n) (powers (suc k) left) ≡ 1 + k + (1 + prefix_len (λ p. leb p n) (powers (suc k) left)) = omega arith in
        rw l (subst (Width n) count more))
        (λ (l : leb (10 ^ suc k) n ≡ false). rw l (here k (omega arith) low (λ _. leb-false (10 ^ suc k) n l)))
        (decide (leb (10 ^ suc k) n))

length_last : (k n : ℕ) → length (last_digits k n) ≡ k
unfolding last_digits
length_last zero n = refl
length_last (suc k) n = length-append (last_digits k (n / 10)) _ ∙ omega (arith, length_last k (n / 10))

-- the last digits of a number stand from an index on, and those in front of them are the digits of what is left of it
pub record Ending (old : Text) (from next n : ℕ) (buffer : Text) (left i : ℕ) : Type 0 where
  pub low : from ≤ i
  pub high : i ≤ next
  pub last : Text
  pub is : buffer ≡ take i old ++ (last ++ drop next old)
  pub all : last_digits (i - from) left ++ last ≡ last_digits (next - from) n
  pub long : length buffer ≡ length old

module _ (old : Text) (from next n : ℕ) (fits : next ≤ length old) where
  module _ (buffer : Text) (left i : ℕ) (e : Ending old from next n buffer left i) where
    -- one more digit
    pub ending-more : (b : ℕ) → from < i → b ≡ nought + left % 10 → Ending old from next n (set buffer (i - 1) b) (left / 10) (i - 1)
    unfolding last_digits
    ending-more b h is =
        let j = i - 1 in
        let next_one : i ≡ suc j = omega arith in
        let count : i - from ≡ suc (j - from) = omega arith in
        record {
          low = omega arith;
          high = omega (arith, e.high);
          last = b ∷ e.last;
          is =
              ap (λ (l : Text). set l j b)
              (e.is
              ∙ ap (λ (k : ℕ). take k old ++ (e.last ++ drop next old)) next_one
              ∙ ap (λ (l : Text). l ++ (e.last ++ drop next old)) (take-suc old j 0 (omega (arith, e.high)))
              ∙ append_snoc (take j old) (get_or old j 0) (e.last ++ drop next old))
              ∙ set_at (take j old) (get_or old j 0) (e.last ++ drop next old) b j (length-take-le j old (omega (arith, e.high)));
          all =
              ap (λ (c : ℕ). last_digits (j - from) (left / 10) ++ c ∷ e.last) is
              ∙ sym (append_snoc (last_digits (j - from) (left / 10)) (nought + left % 10) e.last)
              ∙ ap (λ (k : ℕ). last_digits k left ++ e.last) (sym count)
              ∙ e.all;
          long = length-set buffer j b ∙ e.long;
        }

    -- all of them
    pub ending-all : i ≤ from → take next buffer ≡ take from old ++ last_digits (next - from) n
    unfolding last_digits
    ending-all h =
        let first : i ≡ from = omega (arith, e.low) in
        let none : i - from ≡ 0 = omega arith in
        let digits : e.last ≡ last_digits (next - from) n = ap (λ (k : ℕ). last_digits k left ++ e.last) (sym none) ∙ e.all in
        ap (take next)
        (e.is
        ∙ ap₂ (λ (k : ℕ) (t : Text). take k old ++ (t ++ drop next old)) first digits
        ∙ sym (append_assoc (take from old) (last_digits (next - from) n) (drop next old)))
        ∙ take_at (take from old ++ last_digits (next - from) n) (drop next old) next
        (length-append (take from old) (last_digits (next - from) n)
        ∙ omega (arith, length-take-le from old (omega (arith, e.low, e.high)), length_last (next - from) n, e.low, e.high))

-- a number that is not negative
module _ (n r : ℕ) (w : Width n r) where
  pub natural-long : length (digits 10 n) ≡ r
  natural-long = ap length w.is ∙ length_last r n

  pub natural-stands :
      (out out' : Text) (at : ℕ) →
      at + r ≤ length out →
      take (at + r) out' ≡ take at out ++ last_digits (at + r - at) n →
      Wrote (digits 10 n) at out out' (at + r)
  natural-stands out out' at h stands =
      let count : at + r - at ≡ r = omega arith in
      record {
        ends = omega (arith, natural-long);
        fits = h;
        stands =
            stands
            ∙ ap (λ (k : ℕ). take at out ++ last_digits k n) count
            ∙ ap (λ (t : Text). take at out ++ t) (sym w.is);
      }

-- a minus or none
sign : Bool → Text
sign true = minus ∷ []
sign false = []

length_sign : (b : Bool) → length (sign b) ≡ bool_byte b
unfolding sign
length_sign true = refl
length_sign false = refl

pub sign_few : (b : Bool) → bool_byte b ≤ 1
sign_few true = omega arith
sign_few false = omega arith

-- a number is written as its sign and its digits
decimal-parts : (z : ℤ) → decimal z ≡ sign (lt_z z (pos 0)) ++ digits 10 (nat_abs z)
unfolding decimal sign
decimal-parts (pos n) = rw (le-ltb n 0 (omega arith))
decimal-parts (negsuc n) = refl

-- a minus that is written in any case stays where the digits come behind it
sign_stands :
    (out : Text) (at m : ℕ) (b : Bool) →
    at < length out →
    m ≡ minus →
    take (at + bool_byte b) (set out at m) ≡ take at out ++ sign b
unfolding sign
sign_stands out at m true h e = rw (add-one at) (take-suc-set out at m h ∙ ap (λ (c : ℕ). take at out ++ c ∷ []) e)
sign_stands out at m false h e =
    let same : at + 0 ≡ at = omega arith in
    rw same (take-set-le at out at m (omega arith) ∙ sym (append-nil (take at out)))

module _ (words : Words) (i n r : ℕ) (b : Bool) (number : n ≡ value words i) (negative : b ≡ lt_z (word words i) (pos 0)) (w : Width n r) where
  number-parts : decimal (word words i) ≡ sign b ++ last_digits r n
  unfolding value
  number-parts =
      decimal-parts (word words i)
      ∙ ap₂ (λ (c : Bool) (m : ℕ). sign c ++ digits 10 m) (sym negative) (sym number)
      ∙ ap (λ (t : Text). sign b ++ t) w.is

  pub number-long : length (decimal (word words i)) ≡ bool_byte b + r
  number-long =
      ap length number-parts ∙ length-append (sign b) (last_digits r n) ∙ ap₂ (λ (x y : ℕ). x + y) (length_sign b) (length_last r n)

  pub number-stands :
      (out out' : Text) (at m : ℕ) →
      let from = at + bool_byte b in
      m ≡ minus →
      from + r ≤ length out →
      take (from + r) out' ≡ take from (set out at m) ++ last_digits (from + r - from) n →
      Wrote (decimal (word words i)) at out out' (from + r)
  number-stands out out' at m e h stands =
      let from = at + bool_byte b in
      let count : from + r - from ≡ r = omega arith in
      record {
        ends = omega (arith, number-long);
        fits = h;
        stands =
            stands
            ∙ ap₂ (λ (t : Text) (k : ℕ). t ++ last_digits k n) (sign_stands out at m b (omega (arith, w.some)) e) count
            ∙ append_assoc (take at out) (sign b) (last_digits r n)
            ∙ ap (λ (t : Text). take at out ++ t) (sym number-parts);
      }

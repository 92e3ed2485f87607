-- Numbers of 32 bits in decimal: each is spelled in one way, which is how it is written.
use Rattle.std.specs.Prelude.{ℕ, zero, suc, ◌+◌, ◌*◌, ◌-◌, ◌/◌, ◌%◌, ◌^◌, ◌≤◌, ◌<◌, ◌≡◌, refl, ◌≢◌, true, false, not, ◌&&◌, [], ◌∷◌, ◌++◌, length, leb, eqb, ℤ, pos, negsuc, neg_ℤ}
use Rattle.std.proofs.Common.{zero-add, add-zero, arith, sym, ap, ◌∙◌, subst, ⊎_elim, append-nil, length-append, eqb-true, ne_eqb, leb-true, le-leb, lt-ltb, le-ltb}
use Rattle.std.proofs.Math.Nat.{pow-le-pow_right}
use Rattle.std.proofs.lemmas.Bool.{false≢true, eqb-false, not-true}
use Rattle.std.proofs.Math.Seq.{append_snoc}
use Rattle.model.specs.Words.{word_sized}
use Rattle.model.specs.Bytes.{Text, minus, nought, quote, comma, digit}
use Rattle.model.specs.Lists.{all}
use Rattle.model.specs.Csv.{text_data}
use Rattle.model.specs.Decimal.{numeral, plain_digits, good_number, number_of, digits, decimal}
use Rattle.laws.specs.Words.Tests.{decide, and_left, and_right, and-true, or_cases, or_left}
use Rattle.laws.specs.Lists.Membership.{all_mem, all_intro, all_append}
use Rattle.laws.specs.Lists.Span.{side}

-- a digit is a byte from 48 to 57
pub digit-range : (b : ℕ) → digit b ≡ true → (48 ≤ b) × (b ≤ 57)
unfolding digit
digit-range b e = (leb-true 48 b (and_left _ _ e), leb-true b 57 (and_right (leb nought b) _ e))

-- the digit of a number below 10
range-digit : (n : ℕ) → n < 10 → digit (nought + n) ≡ true
unfolding digit
range-digit n h = and-true (le-leb nought (nought + n) (omega arith)) (le-leb (nought + n) 57 (omega arith))

pub digit-text : (b : ℕ) → digit b ≡ true → text_data b ≡ true
unfolding text_data
digit-text b e =
    let h = digit-range b e in
    and-true (and-true (and-true (le-leb 32 b (omega arith)) (le-leb b 126 (omega arith)))
    (ap not (ne_eqb b quote (λ k. omega arith)))) (ap not (ne_eqb b comma (λ k. omega arith)))

-- the digits of a number of two digits or more
digits_step : (k n : ℕ) → 10 ≤ n → digits (suc k) n ≡ digits k (n / 10) ++ (nought + n % 10) ∷ []
unfolding digits
digits_step k n h = rw (le-ltb n 10 h)

-- of one digit
digits-one : (k n : ℕ) → n < 10 → digits (suc k) n ≡ (nought + n) ∷ []
unfolding digits
digits-one k n h = rw (lt-ltb n 10 h)

-- how many digits there are: at most those that are written, and at least one; of a number below 100 at most two
pub digits-few : (k n : ℕ) → length (digits k n) ≤ k
unfolding digits
digits-few zero n = omega arith
digits-few (suc k) n =
    ⊎_elim
    (λ h. rw (digits-one k n h) (omega arith))
    (λ h. rw (digits_step k n h, length-append) (omega (arith, digits-few k (n / 10))))
    (side 10 n)

pub digits-some : (k n : ℕ) → 1 ≤ length (digits (suc k) n)
digits-some k n =
    ⊎_elim
    (λ h. rw (digits-one k n h) (omega arith))
    (λ h. rw (digits_step k n h, length-append) (omega arith))
    (side 10 n)

pub digits-two : (k n : ℕ) → n < 100 → length (digits (suc (suc k)) n) ≤ 2
digits-two k n l =
    ⊎_elim
    (λ h. rw (digits-one (suc k) n h) (omega arith))
    (λ h. rw (digits_step (suc k) n h, digits-one k (n / 10) (omega arith)) (omega arith))
    (side 10 n)

-- digits of a number are digits, and stand for the number
digits-all : (k n : ℕ) → all digit (digits k n) ≡ true
unfolding all digits
digits-all zero n = refl
digits-all (suc k) n =
    ⊎_elim
    (λ h. rw (digits-one k n h) (one n h))
    (λ h. rw (digits_step k n h) (all_append digit (digits k (n / 10)) _ (digits-all k (n / 10)) (one (n % 10) (omega arith))))
    (side 10 n)
  where
    one : (m : ℕ) → m < 10 → all digit ((nought + m) ∷ []) ≡ true
    one m h = and-true (range-digit m h) refl

pub numeral-append : (m : ℕ) (t : Text) (b : ℕ) → numeral m (t ++ b ∷ []) ≡ 10 * numeral m t + (b - nought)
unfolding numeral
numeral-append m [] b = refl
numeral-append m (c ∷ t) b = numeral-append (10 * m + (c - nought)) t b

digits-numeral : (k n : ℕ) → n < 10 ^ k → numeral 0 (digits k n) ≡ n
unfolding numeral digits
digits-numeral zero n h = omega arith
digits-numeral (suc k) n h =
    ⊎_elim
    (λ l. rw (digits-one k n l) (omega arith))
    (λ l.
    rw (digits_step k n l)
    (numeral-append 0 (digits k (n / 10)) (nought + n % 10) ∙ omega (arith, digits-numeral k (n / 10) (omega arith))))
    (side 10 n)

-- those of a number that is not 0 begin with another digit than 0
digits-first : (k n : ℕ) → 1 ≤ n → n < 10 ^ k → (b : ℕ) × (t : Text) × (digits k n ≡ b ∷ t) × (eqb b nought ≡ false)
digits-first zero n l h = absurd (omega arith)
digits-first (suc k) n l h =
    ⊎_elim
    (λ m. (nought + n, [], digits-one k n m, ne_eqb (nought + n) nought (λ e. omega arith)))
    (λ m.
    let (b, t, is, first) = digits-first k (n / 10) (omega arith) (omega arith) in
    (b, t ++ (nought + n % 10) ∷ [], digits_step k n m ∙ ap (λ (s : Text). s ++ (nought + n % 10) ∷ []) is, first))
    (side 10 n)

plain-first : (b : ℕ) (t : Text) → all digit (b ∷ t) ≡ true → eqb b nought ≡ false → plain_digits (b ∷ t) ≡ true
unfolding plain_digits
plain-first b t e first = and-true e (or_left (not (eqb b nought)) _ (ap not first))

-- digits of a number have no 0 in front
digits-plain : (k n : ℕ) → n < 10 ^ suc k → plain_digits (digits (suc k) n) ≡ true
unfolding plain_digits all digit
digits-plain k n h =
    ⊎_elim
    (λ l. let none : n ≡ 0 = omega arith in rw (digits-one k n (omega arith), none))
    (λ l.
    let (b, t, is, first) = digits-first (suc k) n l h in
    subst (λ (u : Text). plain_digits u ≡ true) (sym is) (plain-first b t (rw is at (digits-all (suc k) n)) first))
    (side 1 n)

-- digits alone spell the number that they stand for
plain-number :
    (t : Text) →
    plain_digits t ≡ true →
    numeral 0 t ≤ 2147483647 →
    (good_number t ≡ true) × (number_of t ≡ pos (numeral 0 t))
unfolding plain_digits all good_number number_of
plain-number [] e h = absurd (false≢true e)
plain-number (b ∷ t) e h =
    let r = digit-range b (and_left _ _ (and_left (all digit (b ∷ t)) _ e)) in
    let no_minus : eqb b minus ≡ false = ne_eqb b minus (λ k. omega arith) in
    (rw no_minus (and-true e (le-leb _ _ h)), rw no_minus)

-- a number of 32 bits is written as a text that spells a number, and that one
pub decimal-good : (z : ℤ) → word_sized z ≡ true → (good_number (decimal z) ≡ true) × (number_of (decimal z) ≡ z)
unfolding word_sized decimal good_number number_of
decimal-good (pos n) e =
    let small = leb-true n 2147483647 e in
    let is = digits-numeral 10 n (omega arith) in
    let h = plain-number (digits 10 n) (digits-plain 9 n (omega arith)) (omega arith) in
    (h.0, h.1 ∙ ap pos is)
decimal-good (negsuc n) e =
    let small = leb-true n 2147483647 (and_left _ _ e) in
    let m = numeral 0 (digits 10 (suc n)) in
    let is : m ≡ suc n = digits-numeral 10 (suc n) (omega arith) in (
      and-true (and-true (digits-plain 9 (suc n) (omega arith)) (le-leb 1 m (omega arith))) (le-leb m 2147483648 (omega arith)),
      ap (λ (k : ℕ). neg_ℤ (pos k)) is,
    )

digits-text : (k n : ℕ) → all text_data (digits k n) ≡ true
digits-text k n = all_intro text_data (digits k n) (λ b m. digit-text b (all_mem digit (digits-all k n) m))

-- a number is written in TEXTDATA
pub decimal-text : (z : ℤ) → all text_data (decimal z) ≡ true
unfolding decimal all text_data
decimal-text (pos n) = digits-text 10 n
decimal-text (negsuc n) = digits-text 10 (suc n)

-- a digit more behind those of a number
digits_more : (j n b : ℕ) → 1 ≤ n → digit b ≡ true → digits (suc j) (10 * n + (b - nought)) ≡ digits j n ++ b ∷ []
digits_more j n b l e =
    let r = digit-range b e in
    let front : (10 * n + (b - nought)) / 10 ≡ n = omega arith in
    let back : nought + (10 * n + (b - nought)) % 10 ≡ b = omega arith in
    digits_step j (10 * n + (b - nought)) (omega arith) ∙ rw (front, back)

-- the digits of the number that digits stand for, behind those that stand for n
numeral-digits :
    (t : Text) (n j : ℕ) →
    1 ≤ n →
    all digit t ≡ true →
    digits (j + length t) (numeral n t) ≡ digits j n ++ t
unfolding numeral all
numeral-digits [] n j l e = rw (add-zero, append-nil)
numeral-digits (b ∷ t) n j l e =
    let count : j + suc (length t) ≡ suc j + length t = omega arith in
    rw count
    (numeral-digits t (10 * n + (b - nought)) (suc j) (omega arith) (and_right (digit b) _ e)
    ∙ ap (λ (s : Text). s ++ t) (digits_more j n b l (and_left _ _ e))
    ∙ append_snoc (digits j n) b t)

-- so many digits stand for a number at least as large as that power of ten
numeral-long : (t : Text) (n i : ℕ) → 10 ^ i ≤ n → 10 ^ (i + length t) ≤ numeral n t
unfolding numeral
numeral-long [] n i h = rw add-zero h
numeral-long (b ∷ t) n i h =
    let count : i + suc (length t) ≡ suc i + length t = omega arith in
    rw count (numeral-long t (10 * n + (b - nought)) (suc i) (omega arith))

numeral-short : (t : Text) (n : ℕ) → 1 ≤ n → numeral n t ≤ 2147483648 → length t ≤ 9
numeral-short t n l h =
    ⊎_elim
    (λ k. omega arith)
    (λ k.
    let long = numeral-long t n 0 l in
    let more : 10 ^ 10 ≤ 10 ^ (0 + length t) = pow-le-pow_right (omega arith) {i = 10} (omega arith) in
    absurd (omega arith))
    (side 10 (length t))

-- so digits with no 0 in front are the digits of their number
first_only :
    (b : ℕ) (t : Text) →
    all digit (b ∷ t) ≡ true →
    1 ≤ b - nought →
    numeral (b - nought) t ≤ 2147483648 →
    digits 10 (numeral (b - nought) t) ≡ b ∷ t
unfolding all
first_only b t e l h =
    let r = digit-range b (and_left _ _ e) in
    let n = b - nought in
    let short = numeral-short t n l h in
    let count : 10 ≡ suc (9 - length t) + length t = omega arith in
    let back : nought + (b - nought) ≡ b = omega arith in
    ap (λ (k : ℕ). digits k (numeral n t)) count
    ∙ numeral-digits t n (suc (9 - length t)) l (and_right (digit b) _ e)
    ∙ ap (λ (s : Text). s ++ t) (digits-one (9 - length t) n (omega arith))
    ∙ ap (λ (c : ℕ). c ∷ t) back

-- and so are all digits that spell a number
plain_only : (t : Text) → plain_digits t ≡ true → numeral 0 t ≤ 2147483648 → digits 10 (numeral 0 t) ≡ t
unfolding plain_digits numeral all
plain_only [] e h = absurd (false≢true e)
plain_only (b ∷ []) e h =
    let r = digit-range b (and_left _ _ (and_left (all digit (b ∷ [])) _ e)) in
    let back : nought + (0 + (b - nought)) ≡ b = omega arith in
    digits-one 9 (0 + (b - nought)) (omega arith) ∙ ap (λ (c : ℕ). c ∷ []) back
plain_only (b ∷ c ∷ t) e h =
    ⊎_elim
    (λ k.
    let r = digit-range b (and_left _ _ (and_left (all digit (b ∷ c ∷ t)) _ e)) in
    let other : b ≢ nought = eqb-false b nought (not-true _ k) in
    rw zero-add (first_only b (c ∷ t) (and_left _ _ e) (omega arith) (rw zero-add at h)))
    (λ k. absurd (omega (arith, eqb-true (suc (length t)) 0 k)))
    (or_cases _ _ (and_right (all digit (b ∷ c ∷ t)) _ e))

-- a number below 0
minus-decimal : (m : ℕ) → 1 ≤ m → decimal (neg_ℤ (pos m)) ≡ minus ∷ digits 10 m
unfolding decimal
minus-decimal zero l = absurd (omega arith)
minus-decimal (suc m) l = refl

minus-sized : (m : ℕ) → m ≤ 2147483648 → word_sized (neg_ℤ (pos m)) ≡ true
unfolding word_sized
minus-sized zero h = refl
minus-sized (suc m) h = and-true (le-leb m 2147483647 (omega arith)) refl

-- a number is spelled in one way: a text that spells one is how it is written; and it has 32 bits
pub decimal_only : (t : Text) → good_number t ≡ true → (decimal (number_of t) ≡ t) × (word_sized (number_of t) ≡ true)
unfolding good_number number_of decimal word_sized
decimal_only [] e = absurd (false≢true e)
decimal_only (b ∷ t) e =
    ⊎_elim
    (λ k.
    let m = numeral 0 t in
    let e' : plain_digits t && leb 1 m && leb m 2147483648 ≡ true = rw k at e in
    let some = leb-true 1 m (and_right (plain_digits t) _ (and_left _ _ e')) in
    let few = leb-true m 2147483648 (and_right (plain_digits t && leb 1 m) _ e') in
    let is = plain_only t (and_left _ _ (and_left _ _ e')) few in
    let sign = sym (eqb-true b minus k) in
    rw k (minus-decimal m some ∙ ap (λ (u : Text). minus ∷ u) is ∙ ap (λ (c : ℕ). c ∷ t) sign, minus-sized m few))
    (λ k.
    let m = numeral 0 (b ∷ t) in
    let e' : plain_digits (b ∷ t) && leb m 2147483647 ≡ true = rw k at e in
    let few = leb-true m 2147483647 (and_right (plain_digits (b ∷ t)) _ e') in
    rw k (plain_only (b ∷ t) (and_left _ _ e') (omega arith), le-leb m 2147483647 few))
    (decide (eqb b minus))

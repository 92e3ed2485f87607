-- The readers of numbers and terms take the tokens of every number of 32 bits and of every good term, before what is no digit.
use Rattle.std.specs.Prelude.{ℕ, zero, suc, ◌+◌, ◌*◌, ◌-◌, ◌≤◌, ◌≡◌, Bool, false, cond, ◌&&◌, length, leb, eqb, ℤ, pos, neg_ℤ}
use Rattle.std.proofs.Common.{arith, sym, ap, ◌∙◌, ⊎_elim, eqb-true, eq-eqb, ne_eqb, leb-true, le-leb}
use Rattle.std.proofs.Math.Path.{refl}
use Rattle.std.proofs.Math.Bool.{true, not}
use Rattle.std.proofs.lemmas.Bool.{false≢true, not-true}
use mathlib.Core.List.{[], ◌∷◌, ◌++◌, append_assoc, nil≢cons}
use Rattle.model.specs.Words.{word_sized}
use Rattle.model.specs.Bytes.{Text, bytes, blank, digit, minus, nought, letter_x}
use Rattle.model.specs.Lists.{all}
use Rattle.model.specs.Answer.{Outcome, passed}
use Rattle.model.specs.Decimal.{numeral, plain_digits, good_number, number_of, digits, decimal}
use Rattle.model.specs.Tree.{Term, constant, variable}
use Rattle.model.specs.Tptp.{Tokens, Stand, greatest_number, variable_token, term_token, good_term}
use Rattle.model.specs.TptpReading.{Got, Reader, give, onwards, ◌>>=◌, peek, literal, look, token, behind_blanks, more_digits, number}
use Rattle.model.specs.TptpReading.{natural, integer, term}
use Rattle.laws.specs.Words.Tests.{decide, and_left, and_right, and-true, or_cases, clash}
use Rattle.laws.specs.Lists.Span.{side}
use Rattle.laws.specs.Decimal.{digit-range, decimal-good}
use Rattle.laws.specs.Tptp.Spelling.TokensAhead.{free, solid, apart, solid-append, blank-digit, stand_ahead, ahead_token, ahead_first}
use Rattle.laws.specs.Tptp.Complete.Readers.{took, Completes, blanks-passed, literal-passed, give_completes, map_completes, look_completes}

-- further digits make a number no smaller
numeral_grows : (n : ℕ) (t : Text) → n ≤ numeral n t
unfolding numeral
numeral_grows n [] = omega arith
numeral_grows n (b ∷ t) = omega (arith, numeral_grows (10 * n + (b - nought)) t)

-- the reading of such a value before such a rest passed
abbrev Passed : {A : Type 0} → A → Text → Outcome (Got A) → Type 0
Passed a rest o = (q : ℕ) × (o ≡ passed (record { what = a; rest = rest; at = q }))

-- further digits are passed
further-passed :
    (most n : ℕ) (t rest : Text) (p : ℕ) →
    all digit t ≡ true →
    numeral n t ≤ most →
    (n ≡ 0 → t ≡ []) →
    apart rest ≡ true →
    Passed (numeral n t) rest (more_digits most n (t ++ rest) p)
unfolding all numeral more_digits free
further-passed most n [] [] p e h none l = (p, refl)
further-passed most n [] (c ∷ rest) p e h none l = (p, rw (not-true (digit c) l))
further-passed most n (b ∷ t) rest p e h none l =
    let raised = 10 * n + (b - nought) in
    let some : 1 ≤ n = ⊎_elim (λ k. absurd (nil≢cons (sym (none (omega arith))))) (λ k. k) (side 1 n) in
    let low = le-leb raised most (omega (arith, numeral_grows raised t)) in
    rw (and_left (digit b) _ e, and-true (le-leb 1 n some) low)
    (further-passed most raised t rest (suc p) (and_right (digit b) _ e) h (λ z. absurd (omega arith)) l)

-- digits with no 0 in front of others
plain-passed :
    (test : ℕ → Bool) (most b : ℕ) (t rest : Text) (p : ℕ) →
    test b ≡ true →
    plain_digits (b ∷ t) ≡ true →
    numeral 0 (b ∷ t) ≤ most →
    apart rest ≡ true →
    Passed (numeral 0 (b ∷ t)) rest (number test most (b ∷ t ++ rest) p)
unfolding number plain_digits numeral all
plain-passed test most b t rest p e plain h l =
    let each = and_left (digit b && all digit t) _ plain in
    let range = digit-range b (and_left (digit b) _ each) in
    let front : b - nought ≡ 0 → t ≡ [] = λ z.
    ⊎_elim
    (λ k. clash (eq-eqb b nought (omega arith)) (not-true (eqb b nought) k))
    (λ k. length-nil t (eqb-true (length t) 0 k))
    (or_cases (not (eqb b nought)) _ (and_right (digit b && all digit t) _ plain)) in
    let same : 10 * 0 + (b - nought) ≡ b - nought = omega arith in
    rw (e, same) (further-passed most (b - nought) t rest (suc p) (and_right (digit b) _ each) (rw same at h) front l)
  where
    length-nil : (t : Text) → length t ≡ 0 → t ≡ []
    length-nil [] e = refl
    length-nil (b ∷ t) e = absurd (omega arith)

-- a number that is good has a minus in front, or none
data Number (b : ℕ) (t : Text) : Type 0 where
  negative :
      b ≡ minus →
      plain_digits t ≡ true →
      1 ≤ numeral 0 t →
      numeral 0 t ≤ 2147483648 →
      number_of (b ∷ t) ≡ neg_ℤ (pos (numeral 0 t)) →
      Number b t
  positive :
      eqb b minus ≡ false →
      plain_digits (b ∷ t) ≡ true →
      numeral 0 (b ∷ t) ≤ greatest_number →
      number_of (b ∷ t) ≡ pos (numeral 0 (b ∷ t)) →
      Number b t

good-number : (b : ℕ) (t : Text) → good_number (b ∷ t) ≡ true → Number b t
unfolding good_number number_of
good-number b t e =
    ⊎_elim
    (λ k.
    let good : plain_digits t && leb 1 (numeral 0 t) && leb (numeral 0 t) 2147483648 ≡ true = rw k at e in
    let front = and_left (plain_digits t && leb 1 (numeral 0 t)) _ good in
    negative (eqb-true b minus k) (and_left (plain_digits t) _ front) (leb-true 1 _ (and_right (plain_digits t) _ front))
    (leb-true _ 2147483648 (and_right (plain_digits t && leb 1 (numeral 0 t)) _ good)) (rw k))
    (λ k.
    let good : plain_digits (b ∷ t) && leb (numeral 0 (b ∷ t)) 2147483647 ≡ true = rw k at e in
    positive k (and_left (plain_digits (b ∷ t)) _ good)
    (leb-true (numeral 0 (b ∷ t)) 2147483647 (and_right (plain_digits (b ∷ t)) _ good)) (rw k))
    (decide (eqb b minus))

-- the first of such digits is a digit
plain-first : (b : ℕ) (t : Text) → plain_digits (b ∷ t) ≡ true → digit b ≡ true
unfolding plain_digits all
plain-first b t e = and_left (digit b) _ (and_left (digit b && all digit t) _ e)

-- a number below 0 is none of the others
below : (m n : ℕ) → 1 ≤ m → neg_ℤ (pos m) ≡ pos n → ⊥
below zero n h e = absurd (omega arith)
below (suc m) n h e = let z : ◌≡◌ {A = ℕ} 0 1 = cc in omega arith

pos-same : {m n : ℕ} → pos m ≡ pos n → m ≡ n
pos-same e = cc

-- the number of a predicate or a variable
natural-passed :
    (n : ℕ) (rest : Text) (p : ℕ) →
    n ≤ greatest_number →
    apart rest ≡ true →
    Passed n rest (natural (digits 10 n ++ rest) p)
unfolding natural word_sized decimal good_number
natural-passed n rest p h l =
    let (good, is) = decimal-good (pos n) (le-leb n greatest_number h) in
    go (digits 10 n) good is
  where
    one :
        (b : ℕ) (t : Text) →
        Number b t →
        number_of (b ∷ t) ≡ pos n →
        Passed n rest (natural (b ∷ t ++ rest) p)
    one b t (negative k plain low high value) is = absurd (below (numeral 0 t) n low (sym value ∙ is))
    one b t (positive k plain high value) is =
        rw (← pos-same (sym value ∙ is))
        (plain-passed digit greatest_number b t rest p (plain-first b t plain) plain high l)

    go : (w : Text) → good_number w ≡ true → number_of w ≡ pos n → Passed n rest (natural (w ++ rest) p)
    go [] good is = absurd (false≢true good)
    go (b ∷ t) good is = one b t (good-number b t good) is

-- a token that ends with such a number, and what is behind it
pub word_completes :
    {A : Type 0} {m room : ℕ} {ts : Tokens} {a : A} {rest : Text} (w : Text) (n : ℕ) (next : ℕ → Reader A) →
    solid w ≡ true →
    n ≤ greatest_number →
    ((mid : Text) → Stand ts mid rest → apart mid ≡ true) →
    Completes m room ts a rest (next n) →
    Completes m room ((w ++ digits 10 n) ∷ ts) a rest (token w >>= λ _. natural >>= next)
unfolding token onwards ◌>>=◌
word_completes {ts} {rest} w n next e h l c = record {
  takes = λ text s p.
      let (behind, is, stand) = ahead_token (w ++ digits 10 n) ts text rest (solid-append w (digits 10 n) e) s in
      let (q, passes) = blanks-passed text p in
      let (q₁, passes₁) = literal-passed w (digits 10 n ++ behind) q in
      let (q₂, passes₂) = natural-passed n behind q₁ h (l behind stand) in
      rw (passes, is, append_assoc w (digits 10 n) behind, passes₁, passes₂) (c.takes behind (stand_ahead stand) q₂);
}

-- the first byte of a number is no blank, and begins no variable
number-first : (b : ℕ) (t : Text) → Number b t → (blank b ≡ false) × (eqb b letter_x ≡ false)
unfolding blank
number-first b t (negative k plain low high value) = rw k (refl, refl)
number-first b t (positive k plain high value) =
    let d = plain-first b t plain in
    let r = digit-range b d in
    (⊎_elim (λ l. clash d (blank-digit b l)) (λ l. l) (decide (blank b)), ne_eqb b letter_x (λ z. omega arith))

-- digits of a number that is not 0 begin with no 0
plain-front : (b : ℕ) (t : Text) → plain_digits (b ∷ t) ≡ true → 1 ≤ numeral 0 (b ∷ t) → eqb b nought ≡ false
unfolding plain_digits numeral all
plain-front b t e h =
    ⊎_elim
    (λ k.
    absurd
    (⊎_elim
    (λ l. clash k (not-true (eqb b nought) l))
    (λ l. go t (eqb-true (length t) 0 l) (eqb-true b nought k) h)
    (or_cases (not (eqb b nought)) _ (and_right (digit b && all digit t) _ e))))
    (λ k. k)
    (decide (eqb b nought))
  where
    go : (t : Text) → length t ≡ 0 → b ≡ nought → 1 ≤ numeral (10 * 0 + (b - nought)) t → ⊥
    go [] l k h = omega arith
    go (c ∷ t) l k h = omega arith

-- what is read behind a look at the first byte
abbrev behind_sign : ℕ → Reader ℤ
behind_sign b =
    cond (eqb b minus)
    (do
      _ ← literal (minus ∷ [])
      n ← number (λ c. digit c && not (eqb c nought)) 2147483648
      give (neg_ℤ (pos n)))
    (do
      n ← natural
      give (pos n))

sign_passed :
    (b : ℕ) (t rest : Text) (p : ℕ) →
    Number b t →
    apart rest ≡ true →
    Passed (number_of (b ∷ t)) rest (behind_sign b (b ∷ t ++ rest) p)
unfolding literal give natural onwards ◌>>=◌ plain_digits
sign_passed b t rest p (positive k plain high value) l =
    let (q, passes) = plain-passed digit greatest_number b t rest p (plain-first b t plain) plain high l in
    (q, rw (value, k, passes))
sign_passed b [] rest p (negative k plain low high value) l = absurd (false≢true plain)
sign_passed b (d ∷ t) rest p (negative k plain low high value) l =
    let test = and-true (plain-first d t plain) (ap not (plain-front d t plain low)) in
    let (q, passes) = plain-passed (λ c. digit c && not (eqb c nought)) 2147483648 d t rest (suc p) test plain high l in
    (q, rw (value, k, passes))

module _ {room : ℕ} {rest : Text} (l : apart rest ≡ true) where
  number_completes : (b : ℕ) (t : Text) → Number b t → Completes 0 room ((b ∷ t) ∷ []) (number_of (b ∷ t)) rest integer
  unfolding solid integer look peek onwards ◌>>=◌ Stand
  number_completes b t n = record {
    takes = λ text s p.
        let (behind, is, stand) = ahead_token (b ∷ t) [] text rest (ap not (number-first b t n).0) s in
        let (q, passes) = blanks-passed text p in
        let (q₁, passes₁) = sign_passed b t behind q n (rw stand l) in
        rw (passes, is, passes₁) (took (omega arith) (ap behind_blanks stand));
  }

  pub integer_completes : (k : ℤ) → word_sized k ≡ true → Completes 0 room (decimal k ∷ []) k rest integer
  unfolding good_number
  integer_completes k e = let (good, is) = decimal-good k e in go (decimal k) good is
    where
      go : (w : Text) → good_number w ≡ true → number_of w ≡ k → Completes 0 room (w ∷ []) k rest integer
      go [] good is = absurd (false≢true good)
      go (b ∷ t) good is = rw (← is) (number_completes b t (good-number b t good))

  pub term_completes : (t : Term) → good_term t ≡ true → Completes 0 room (term_token t ∷ []) t rest term
  unfolding bytes blank solid Stand good_number good_term term_token variable_token term
  term_completes (constant k) e = go (decimal k) (decimal-good k e).0 (integer_completes k e)
    where
      go :
          (w : Text) →
          good_number w ≡ true →
          Completes 0 room (w ∷ []) k rest integer →
          Completes 0 room (w ∷ []) (constant k) rest term
      go [] good c = absurd (false≢true good)
      go (b ∷ t) good c =
          let (first, other) = number-first b t (good-number b t good) in
          look_completes _ b first (ahead_first b t [] rest first) (rw other (map_completes constant refl c))
  term_completes (variable x) e =
      look_completes _ letter_x refl (ahead_first letter_x (digits 10 x) [] rest refl)
      (word_completes (bytes "X") x _ refl (leb-true x greatest_number e) (λ mid s. rw s l) give_completes)

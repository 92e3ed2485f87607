-- What the readers of numbers and terms read: a number's digits as it is written, with no 0 in front.
use Rattle.std.specs.Prelude.{ℕ, suc, ◌+◌, ◌*◌, ◌-◌, ◌≤◌, ◌≡◌, ◌≢◌, Bool, true, false, ◌&&◌, ◌||◌, length, eqb, ℤ}
use Rattle.std.proofs.Common.{arith, sym, ◌∙◌, eqb-true, ne_eqb, leb-true, le-leb}
use Rattle.std.proofs.Math.Path.{refl, ap, subst}
use Rattle.std.proofs.Math.Logic.{⊎_elim}
use Rattle.std.proofs.Math.Bool.{not}
use mathlib.Core.List.{[], ◌∷◌, ◌++◌}
use Rattle.std.proofs.Math.Dec.{leb}
use Rattle.std.proofs.Math.IntN.{pos, neg_ℤ}
use Rattle.std.proofs.lemmas.Bool.{eqb-false, not-true}
use Rattle.model.specs.Words.{word_sized}
use Rattle.model.specs.Bytes.{Text, bytes, digit, minus, nought, letter_x}
use Rattle.model.specs.Lists.{all}
use Rattle.model.specs.Decimal.{numeral, plain_digits, good_number, number_of, digits, decimal}
use Rattle.model.specs.Tree.{constant, variable}
use Rattle.model.specs.Tptp.{Tokens, greatest_number, variable_token, term_token, good_term}
use Rattle.model.specs.TptpReading.{more_digits, number, natural, integer, term}
use Rattle.laws.specs.Words.Tests.{decide, and_left, and_right, and-true, or_left, or_right}
use Rattle.laws.specs.Decimal.{digit-range, decimal_only}
use Rattle.laws.specs.Tptp.Spelling.TokensInFront.{Fill, fill-token, fill-blanks, fill-longer}
use Rattle.laws.specs.Tptp.Sound.Readers.{Spelling, Comes, Reads, comes-give, comes-stop, comes_as, reads_as, cond-reads, then_reads}
use Rattle.laws.specs.Tptp.Sound.Readers.{map-reads}
use Rattle.laws.specs.Tptp.Sound.Tokens.{comes-byte, literal-reads, token-reads, look-reads}

-- further digits, behind those that stand for n: none behind a 0 in front
record Further (most n m : ℕ) (u : Text) : Type 0 where
  each : all digit u ≡ true
  value : numeral n u ≡ m
  low : n ≤ m
  high : m ≤ most
  front : n ≡ 0 → u ≡ []

further-none : (most n : ℕ) → n ≤ most → Further most n n []
unfolding all numeral
further-none most n h = record { each = refl; value = refl; low = omega arith; high = h; front = λ e. refl }

further-digit :
    {most m : ℕ} {u : Text} (n b : ℕ) →
    1 ≤ n →
    digit b ≡ true →
    Further most (10 * n + (b - nought)) m u →
    Further most n m (b ∷ u)
unfolding all numeral
further-digit n b l e h = record {
  each = and-true e h.each;
  value = h.value;
  low = omega (arith, h.low);
  high = h.high;
  front = λ z. absurd (omega arith);
}

module _ {told : Type 0} where
  further-comes :
      (most n : ℕ) →
      n ≤ most →
      (text : Text) (p : ℕ) →
      Comes told (Further most n) text p (more_digits most n text p)
  unfolding more_digits
  further-comes most n h [] p = comes-give n (further-none most n h) [] p
  further-comes most n h (b ∷ t) p =
      let raised = 10 * n + (b - nought) in
      ⊎_elim
      (λ d. rw d (⊎_elim
      (λ k.
      rw k
      (comes-byte b
      (comes_as (λ m u f. further-digit n b (leb-true 1 n (and_left _ _ k)) d f)
      (further-comes most raised (leb-true raised most (and_right (leb 1 n) _ k)) t (suc p)))))
      (λ k. rw k (comes-stop (λ _. (n, [], further-none most n h)) (b ∷ t) p))
      (decide (leb 1 n && leb raised most))))
      (λ d. rw d (comes-give n (further-none most n h) (b ∷ t) p))
      (decide (digit b))

-- digits whose first passes a test, of a number up to `most`
abbrev Numbered : (ℕ → Bool) → ℕ → Spelling ℕ
Numbered test most m u = (b : ℕ) × (t : Text) × (u ≡ b ∷ t) × (test b ≡ true) × Further most (b - nought) m t

number-reads :
    {told : Type 0} (test : ℕ → Bool) (most : ℕ) →
    ((b : ℕ) → test b ≡ true → digit b ≡ true) →
    test 49 ≡ true →
    9 ≤ most →
    Reads told (Numbered test most) (number test most)
unfolding number
number-reads {told} test most range one large = record { example = λ _. some; comes = come }
  where
    -- the digit 1
    some : (m : ℕ) × (u : Text) × Numbered test most m u
    some = (1, 49 ∷ [], (49, [], refl, one, further-none most 1 (omega arith)))

    come : (text : Text) (p : ℕ) → Comes told (Numbered test most) text p (number test most text p)
    come [] p = comes-stop (λ _. some) [] p
    come (b ∷ t) p =
        ⊎_elim
        (λ k.
        let r = digit-range b (range b k) in
        rw k (comes-byte b (comes_as (λ m u f. (b, u, refl, k, f)) (further-comes most (b - nought) (omega arith) t (suc p)))))
        (λ k. rw k (comes-stop (λ _. some) (b ∷ t) p))
        (decide (test b))

-- such digits have no 0 in front of others, and stand for the number
numbered-plain :
    {most m : ℕ} {t : Text} (b : ℕ) →
    digit b ≡ true →
    Further most (b - nought) m t →
    (plain_digits (b ∷ t) ≡ true) × (numeral 0 (b ∷ t) ≡ m)
unfolding all plain_digits numeral
numbered-plain {most} {m} {t} b d f =
    let same : 10 * 0 + (b - nought) ≡ b - nought = omega arith in
    (and-true (and-true d f.each) first, ap (λ (k : ℕ). numeral k t) same ∙ f.value)
  where
    first : not (eqb b nought) || eqb (length t) 0 ≡ true
    first =
        ⊎_elim
        (λ k. let none = f.front (omega (arith, eqb-true b nought k)) in or_right (not (eqb b nought)) _ (rw none))
        (λ k. or_left (not (eqb b nought)) _ (ap not k))
        (decide (eqb b nought))

-- the number of a predicate or a variable
abbrev pub Natural : Spelling ℕ
Natural n u = (u ≡ digits 10 n) × (n ≤ greatest_number)

numbered-natural : (n : ℕ) (u : Text) → Numbered digit greatest_number n u → Natural n u
unfolding good_number number_of decimal
numbered-natural n u (b, t, is, d, f) =
    let r = digit-range b d in
    let (plain, value) = numbered-plain b d f in
    let small = le-leb (numeral 0 (b ∷ t)) 2147483647 (omega (arith, value, f.high)) in
    let no_minus : eqb b minus ≡ false = ne_eqb b minus (λ k. omega arith) in
    let good : good_number (b ∷ t) ≡ true = rw no_minus (and-true plain small) in
    let only = (decimal_only (b ∷ t) good).0 in
    (is ∙ sym (rw (no_minus, value) at only), f.high)

-- the digits of a number below 0, behind its minus
numbered-negative :
    (n : ℕ) (u : Text) →
    Numbered (λ c. digit c && not (eqb c nought)) 2147483648 n u →
    (decimal (neg_ℤ (pos n)) ≡ minus ∷ u) × (word_sized (neg_ℤ (pos n)) ≡ true)
unfolding good_number number_of
numbered-negative n u (b, t, is, d, f) =
    let r = digit-range b (and_left _ _ d) in
    let other : b ≢ nought = eqb-false b nought (not-true _ (and_right (digit b) (not (eqb b nought)) d)) in
    let (plain, value) = numbered-plain b (and_left _ _ d) f in
    let m = numeral 0 (b ∷ t) in
    let some = le-leb 1 m (omega (arith, value, f.low)) in
    let small = le-leb m 2147483648 (omega (arith, value, f.high)) in
    let good : good_number (minus ∷ b ∷ t) ≡ true = and-true (and-true plain some) small in
    let (only, sized) = decimal_only (minus ∷ b ∷ t) good in
    ((rw value at only) ∙ ap (λ (s : Text). minus ∷ s) (sym is), rw value at sized)

natural-sized : (n : ℕ) → n ≤ greatest_number → word_sized (pos n) ≡ true
unfolding word_sized
natural-sized n h = le-leb n 2147483647 h

-- a value with its tokens, and good
abbrev pub Item : {A : Type 0} (shown : A → Tokens) (good : A → Bool) → Spelling A
Item shown good a u = (good a ≡ true) × Fill (shown a) u

abbrev pub Integer : Spelling ℤ
Integer = Item (λ k. decimal k ∷ []) word_sized

module _ {told : Type 0} where
  pub natural-reads : Reads told Natural natural
  unfolding natural digit
  natural-reads =
      reads_as numbered-natural (number-reads digit greatest_number (λ b e. e) refl (omega arith))

  pub integer-reads : Reads told Integer integer
  unfolding integer digit decimal
  integer-reads =
      then_reads look-reads λ b gap e.
      cond-reads (eqb b minus)
      (λ _.
      then_reads (literal-reads (minus ∷ [])) λ _ u₁ sign.
      map-reads (λ n. neg_ℤ (pos n))
      (number-reads (λ c. digit c && not (eqb c nought)) 2147483648 (λ c. and_left (digit c) _) refl (omega arith)) λ n u₂ h.
      let (is, sized) = numbered-negative n u₂ h in
      let text = is ∙ ap (λ (u : Text). u ++ u₂) (sym sign) in
      (sized, subst (λ (u : Text). Fill (decimal (neg_ℤ (pos n)) ∷ []) (gap ++ u)) text (fill-token gap _ e)))
      (λ _.
      map-reads pos natural-reads λ n u (is, small).
      (natural-sized n small, subst (λ (v : Text). Fill (v ∷ []) (gap ++ u)) is (fill-token gap u e)))

  pub term-reads : Reads told (Item (λ t. term_token t ∷ []) good_term) term
  unfolding term term_token variable_token good_term
  term-reads =
      then_reads look-reads λ b gap e.
      cond-reads (eqb b letter_x)
      (λ _.
      then_reads (token-reads (bytes "X")) λ _ u₁ f.
      map-reads variable natural-reads λ x u₂ (is, small).
      (le-leb x greatest_number small, fill-blanks gap e (rw is (fill-longer (digits 10 x) f))))
      (λ _. map-reads constant integer-reads λ k u (sized, f). (sized, fill-blanks gap e f))

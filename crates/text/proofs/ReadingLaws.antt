-- Laws for the reading of numbers: digits one after another, and what the bytes passed spell.
use Prim.Native.Nat.{ℕ, ◌+◌, ◌*◌, ◌-◌, ◌≤◌, ◌<◌}
use native.Mathlib.Omega.{arith}
use mathlib.Core.Path.{◌≡◌, refl, sym, ap, ◌∙◌, subst}
use mathlib.Core.Logic.{⊎_elim}
use mathlib.Core.Bool.{Bool, true, false, not, ◌&&◌, ◌||◌}
use mathlib.Core.List.{[], ◌∷◌, ◌++◌}
use lib.ListN.{length, get_or, take, drop, take-append-drop, drop_of_length-le}
use native.Mathlib.Numerals.{add-one}
use lib.Seq.{take-suc, length-take-le}
use lib.Dec.{leb, ltb, eqb}
use lib.IntN.{ℤ, pos}
use borrow.Author.Tests.{le-leb, lt-leb, eq-eqb, ne_eqb, ltb-true, ltb-false}
use Rattle.model.specs.Bytes.{Text, minus, digit}
use Rattle.model.specs.Lists.{all}
use Rattle.model.specs.Csv.{text_data}
use Rattle.model.specs.Decimal.{numeral, plain_digits, good_number, number_of}
use Rattle.laws.specs.Words.Tests.{decide, clash, and_left, and-true, and-false}
use Rattle.laws.specs.Lists.Membership.{all_append, all_intro, all_mem}
use Rattle.laws.specs.Decimal.{digit-range, digit-text, numeral-append}
use Rattle.std.specs.Prelude.{Option, Some, None}
use Rattle.text.specs.Reading.{Follows, raised, Leading, signed, spelt, Means, Natural, NumberAt, NegativeAt}
use Rattle.text.specs.Passing.{Stops}
use Rattle.text.specs.declared.reading.Digits.{Digits}
use Rattle.text.specs.declared.cursor.Cursor.{Cursor}
use Rattle.text.proofs.PassingLaws.{stops_first}

-- a test of all bytes, with one more
all_more : (test : ℕ → Bool) (t : Text) (b : ℕ) → all test t ≡ true → test b ≡ true → all test (t ++ b ∷ []) ≡ true
unfolding all
all_more test t b e f = all_append test t (b ∷ []) e (and-true f refl)

-- the digits at the front of a text, so many so far
pub record Counted (text : Text) (count m : ℕ) : Type 0 where
  pub to : count ≤ length text
  pub digits : all digit (take count text) ≡ true
  pub follows : Follows m (numeral 0 (take count text))

pub counted_none : (text : Text) → Counted text 0 0
unfolding all numeral
counted_none text = record { to = omega arith; digits = refl; follows = refl }

-- one digit more of a number that is followed
raised-follows : (m n b : ℕ) → Follows m n → Follows (raised m b) (10 * n + (b - 48))
raised-follows m n b f =
    ⊎_elim
    (λ (e : ltb m 2147483648 ≡ true). rw e (let h = ltb-true m 2147483648 e in omega arith))
    (λ (e : ltb m 2147483648 ≡ false). rw e (let h = ltb-false m 2147483648 e in omega arith))
    (decide (ltb m 2147483648))

pub counted-more :
    (text : Text) (count m r : ℕ) →
    Counted text count m →
    count < length text →
    digit (get_or text count 0) ≡ true →
    r ≡ raised m (get_or text count 0) →
    Counted text (count + 1) r
counted-more text count m r p h e f =
    let more = ap (λ (n : ℕ). take n text) (add-one count) ∙ take-suc text count 0 h in
    record {
      to = omega arith;
      digits = rw more (all_more digit _ _ p.digits e);
      follows = rw (more, numeral-append) (rw f (raised-follows m _ (get_or text count 0) p.follows));
    }

pub counted_all : (text : Text) (count m : ℕ) → Counted text count m → count ≡ length text → Leading text (record { count = length text; magnitude = m })
unfolding Stops
counted_all text count m p e = record {
  to = omega arith;
  digits = rw (← e) p.digits;
  stop = rw (drop_of_length-le text (let h : length text ≤ length text = omega arith in h)) tt;
  follows = rw (← e) p.follows;
}

-- digits with no 0 in front
pub plain-none : (t : Text) → length t ≡ 0 → plain_digits t ≡ false
unfolding plain_digits
plain-none [] e = refl
plain-none (b ∷ t) e = absurd (omega arith)

pub plain-one : (t : Text) → all digit t ≡ true → length t ≡ 1 → plain_digits t ≡ true
unfolding plain_digits
plain-one [] d e = absurd (omega arith)
plain-one (b ∷ []) d e = and-true d (or_true (not (eqb b 48)))
  where
    or_true : (a : Bool) → (a || true) ≡ true
    or_true true = refl
    or_true false = refl
plain-one (b ∷ c ∷ t) d e = absurd (omega arith)

pub plain_more : (t : Text) → all digit t ≡ true → 2 ≤ length t → plain_digits t ≡ not (eqb (get_or t 0 0) 48)
unfolding plain_digits
plain_more [] d e = absurd (omega arith)
plain_more (b ∷ []) d e = absurd (omega arith)
plain_more (b ∷ c ∷ t) d e = first _ _ _ d (ne_eqb (length (c ∷ t)) 0 (omega arith))
  where
    first : (x y z : Bool) → x ≡ true → z ≡ false → x && (y || z) ≡ y
    first true true z e f = refl
    first true false z e f = f
    first false y z e f = clash e refl

-- digits are text
digits-text : (t : Text) → all digit t ≡ true → all text_data t ≡ true
digits-text t e = all_intro text_data t (λ b m. digit-text b (all_mem digit e m))

-- a byte that is no digit among digits
not-digits : (t : Text) (b : ℕ) (more : Text) → digit b ≡ false → all digit (t ++ b ∷ more) ≡ false
unfolding all
not-digits [] b more e = rw e
not-digits (d ∷ t) b more e = and-false (digit d) (not-digits t b more e)

not_plain : (t : Text) (b : ℕ) (more : Text) → digit b ≡ false → plain_digits (t ++ b ∷ more) ≡ false
unfolding plain_digits
not_plain [] b more e = rw (not-digits [] b more e)
not_plain (d ∷ t) b more e = rw (not-digits (d ∷ t) b more e)

-- digits are no minus
module _ where
  first : (b : ℕ) (t : Text) → all digit (b ∷ t) ≡ true → eqb b 45 ≡ false
  unfolding all
  first b t d = let l = digit-range b (and_left _ _ d) in ne_eqb b 45 (omega arith)

  good-digits : (t : Text) → all digit t ≡ true → good_number t ≡ plain_digits t && leb (numeral 0 t) 2147483647
  unfolding good_number plain_digits
  good-digits [] d = refl
  good-digits (b ∷ t) d = rw (first b t d) refl

  number-digits : (t : Text) → all digit t ≡ true → number_of t ≡ pos (numeral 0 t)
  unfolding number_of numeral
  number-digits [] d = refl
  number-digits (b ∷ t) d = rw (first b t d) refl

-- digits that are not plain, or stand for a number with more than 32 bits, spell none, with a minus and without; others spell their number
module _ (t : Text) where
  pub negative-none : plain_digits t ≡ false → spelt (minus ∷ t) ≡ None
  unfolding spelt good_number
  negative-none e = rw e refl

  module _ (m : ℕ) (f : Follows m (numeral 0 t)) where
    pub negative-zero : m < 1 → spelt (minus ∷ t) ≡ None
    unfolding spelt good_number
    negative-zero h = rw (lt-leb 1 (numeral 0 t) (omega (arith, h, f)), and-false (plain_digits t) refl) refl

    pub negative-wide : 2147483648 < m → spelt (minus ∷ t) ≡ None
    unfolding spelt good_number
    negative-wide h =
        rw (lt-leb (numeral 0 t) 2147483648 (omega (arith, f, h)), and-false (plain_digits t && leb 1 (numeral 0 t)) refl) refl

  pub negative-spelt : (m : ℕ) → Follows m (numeral 0 t) → plain_digits t ≡ true → 1 ≤ m → m ≤ 2147483648 → Some (signed true m) ≡ spelt (minus ∷ t)
  unfolding spelt good_number number_of
  negative-spelt m f p l h =
      let same : numeral 0 t ≡ m = omega arith in
      rw (same, p, le-leb 1 m l, le-leb m 2147483648 h) refl

  module _ (d : all digit t ≡ true) where
    pub positive-none : plain_digits t ≡ false → spelt t ≡ None
    unfolding spelt
    positive-none e = rw (good-digits t d, e) refl

    pub positive-wide : (m : ℕ) → Follows m (numeral 0 t) → 2147483647 < m → spelt t ≡ None
    unfolding spelt
    positive-wide m f h =
        rw (good-digits t d, lt-leb (numeral 0 t) 2147483647 (omega (arith, f, h)), and-false (plain_digits t) refl) refl

    pub positive-spelt : (m : ℕ) → Follows m (numeral 0 t) → plain_digits t ≡ true → m ≤ 2147483647 → Some (signed false m) ≡ spelt t
    unfolding spelt
    positive-spelt m f p h =
        let same : numeral 0 t ≡ m = omega arith in
        rw (good-digits t d, p, number-digits t d, same, le-leb m 2147483647 h) refl

-- with a byte that is no digit behind them they spell none
pub negative-longer : (t : Text) (b : ℕ) (more : Text) → digit b ≡ false → good_number (minus ∷ t ++ b ∷ more) ≡ false
unfolding good_number
negative-longer t b more e = rw (not_plain t b more e)

pub positive-longer :
    (t : Text) (b : ℕ) (more : Text) → all digit t ≡ true → (length t ≡ 0 → b ≡ 45 → ⊥) → digit b ≡ false → good_number (t ++ b ∷ more) ≡ false
unfolding good_number all digit
positive-longer [] b more d k e = rw (ne_eqb b 45 (k refl), not_plain [] b more e)
positive-longer (c ∷ t) b more d k e =
    let l = digit-range c (and_left _ _ d) in
    rw (ne_eqb c 45 (omega arith), not_plain (c ∷ t) b more e)

-- digits were passed, so many
pub natural-at :
    (old new : Cursor) (d : Digits) (r : Option ℕ) →
    Leading old.rest.now d →
    new.rest.now ≡ drop d.count old.rest.now →
    new.at ≡ old.at + d.count →
    (Follows d.magnitude (numeral 0 (take d.count old.rest.now)) → Means (take d.count old.rest.now) r) →
    Natural old new r
natural-at old new d r found e a means = record {
  bytes = take d.count old.rest.now;
  passed = record {
    rest = sym (take-append-drop d.count old.rest.now) ∙ ap (λ (t : Text). take d.count old.rest.now ++ t) (sym e);
    at = a ∙ ap (λ (n : ℕ). old.at + n) (sym (length-take-le d.count old.rest.now found.to));
  };
  digits = found.digits;
  stop = subst (Stops digit) (sym e) found.stop;
  means = means found.follows;
}

module _ (old new : Cursor) (n : Option ℕ) (k : Natural old new n) (v : Option ℤ) where
  stop : (b : ℕ) (t : Text) → new.rest.now ≡ b ∷ t → digit b ≡ false
  stop b t e = stops_first digit _ b t k.stop e

  -- behind a minus
  pub negative-at : v ≡ spelt (minus ∷ k.bytes) → NegativeAt old new v
  unfolding all text_data
  negative-at e start m = record {
    bytes = minus ∷ k.bytes;
    passed = record { rest = m.rest ∙ ap (λ (t : Text). minus ∷ t) k.passed.rest; at = omega (arith, m.at, k.passed.at) };
    text = digits-text _ k.digits;
    is = e;
    longer = λ b t f more. negative-longer k.bytes b more (stop b t f);
  }

  -- with no minus before them
  pub positive-at : Stops (λ c. eqb c minus) old.rest.now → v ≡ spelt k.bytes → NumberAt old new v
  positive-at s e = record {
    bytes = k.bytes;
    passed = k.passed;
    text = digits-text _ k.digits;
    is = e;
    longer = λ b t f more. positive-longer k.bytes b more k.digits
        (λ z i. clash (eq-eqb b minus i) (stops_first (λ c. eqb c minus) old.rest.now b t s (k.passed.rest ∙ ap (λ (x : Text). x ++ new.rest.now) (none k.bytes z) ∙ f)))
        (stop b t f);
  }
    where
      none : (t : Text) → length t ≡ 0 → t ≡ []
      none [] e = refl
      none (b ∷ t) e = absurd (omega (arith, e))

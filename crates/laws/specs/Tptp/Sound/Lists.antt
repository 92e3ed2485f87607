-- What the readers of several items, of bound variables and of excluded tuples read.
use Prim.Native.Nat.{ℕ, zero, suc, ◌-◌, ◌≤◌}
use Rattle.std.proofs.Common.{arith, ◌∙◌}
use Rattle.std.specs.Prelude.{◌≡◌, Bool, true, cond, eqb, ℤ}
use Rattle.std.proofs.Math.Path.{refl, sym, ap}
use Rattle.std.proofs.lemmas.Bool.{false≢true}
use mathlib.Core.List.{List, [], ◌∷◌, ◌++◌, map, append-nil}
use Rattle.std.proofs.Math.ListN.{length}
use borrow.Author.Tests.{eqb-true, eqb-false, eq-eqb, ne_eqb}
use Rattle.model.specs.Words.{word_sized}
use Rattle.model.specs.Bytes.{Text, bytes, blank, comma}
use Rattle.model.specs.Lists.{span, all, gather}
use Rattle.model.specs.Decimal.{decimal}
use Rattle.model.specs.Tptp.{Tokens, variable_token, separated, binder, unequals, excludes, parenthesized, good_tuple}
use Rattle.model.specs.TptpReading.{Reader, give, ◌>>=◌, token, up_to, more, behind_blanks, begins_with, declaration, variables, read_binder}
use Rattle.model.specs.TptpReading.{unequal, read_unequals, read_tuple}
use Rattle.laws.specs.Words.Tests.{and-true}
use Rattle.laws.specs.Tptp.Spelling.TokensInFront.{Fill, Trail, fill-append, fill-trail, trail-none, trail-blanks, trail-append, trail-fill}
use Rattle.laws.specs.Tptp.Sound.Readers.{behind, Comes, Reads, reads_as, give-reads, cond-reads, then_reads, map-reads}
use Rattle.laws.specs.Tptp.Sound.Tokens.{token-reads, look-reads, opening-reads, comes-look}
use Rattle.laws.specs.Tptp.Sound.Numbers.{Item, integer-reads}

-- from `low` to `high` items, each behind a byte
pub record Several {A : Type 0} (shown : A → Tokens) (good : A → Bool) (c low high : ℕ) (xs : List A) (u : Text) : Type 0 where
  pub many : low ≤ length xs
  pub few : length xs ≤ high
  pub each : all good xs ≡ true
  pub trail : Trail (gather (λ next. (c ∷ []) ∷ next) (map shown xs)) u

-- blanks in front of the first
pub several_blanks :
    {A : Type 0} {shown : A → Tokens} {good : A → Bool} {c high : ℕ} {xs : List A} {u : Text} (gap : Text) →
    all blank gap ≡ true →
    Several shown good c 1 high xs u →
    Several shown good c 1 high xs (gap ++ u)
unfolding gather
several_blanks {A} {shown} {c} {xs} {u} gap e s =
    record { many = s.many; few = s.few; each = s.each; trail = go xs s.many s.trail }
  where
    go :
        (xs : List A) →
        1 ≤ length xs →
        Trail (gather (λ next. (c ∷ []) ∷ next) (map shown xs)) u →
        Trail (gather (λ next. (c ∷ []) ∷ next) (map shown xs)) (gap ++ u)
    go [] l t = absurd (omega arith)
    go (x ∷ xs) l t = trail-blanks gap e t

-- the reading of one item more, and of those behind it; of none or of these
abbrev pub another : {A : Type 0} (c : ℕ) (one : Reader A) (n : ℕ) → Reader (List A)
another c one n = do
  _ ← token (c ∷ [])
  x ← one
  xs ← up_to n c one
  give (x ∷ xs)

abbrev pub none_or : {A : Type 0} (c : ℕ) (one : Reader A) (n b : ℕ) → Reader (List A)
none_or c one n b = cond (eqb b c) (another c one n) (give [])

module _
    {A : Type 0} {told : Type 0} (shown : A → Tokens) (good : A → Bool) (c : ℕ) (one : Reader A)
    (h : Reads told (Item shown good) one) where
  another-reads :
      (n : ℕ) (gap : Text) →
      all blank gap ≡ true →
      Reads told (Several shown good c 0 n) (up_to n c one) →
      Reads told (behind gap (Several shown good c 1 (suc n))) (another c one n)
  unfolding all gather
  another-reads n gap e ih =
      then_reads (token-reads (c ∷ [])) λ _ u₁ f₁.
      then_reads h λ x u₂ (g, f₂).
      map-reads (λ xs. x ∷ xs) ih λ xs u₃ s.
      record {
        many = omega arith;
        few = omega (arith, s.few);
        each = and-true g s.each;
        trail = trail-blanks gap e (trail-append f₁ (trail-append f₂ s.trail));
      }

  pub up_to-reads : (n : ℕ) → Reads told (Several shown good c 0 n) (up_to n c one)
  unfolding all gather up_to
  up_to-reads zero = give-reads [] (record { many = omega arith; few = omega arith; each = refl; trail = trail-none [] refl })
  up_to-reads (suc n) =
      then_reads look-reads λ b gap e.
      cond-reads (eqb b c)
      (λ _.
      reads_as (λ xs u s. record { many = omega arith; few = s.few; each = s.each; trail = s.trail })
      (another-reads n gap e (up_to-reads n)))
      (λ _.
      give-reads []
      (rw append-nil (record { many = omega arith; few = omega arith; each = refl; trail = trail-none gap e })))

  -- some text has one such item
  pub several_some :
      told →
      (gap : Text) →
      all blank gap ≡ true →
      (xs : List A) × (u : Text) × Several shown good c 1 1 xs (gap ++ u)
  several_some t gap e = (another-reads 0 gap e (up_to-reads 0)).example t

  -- as many as there are, and one at least, where the first one's byte is next
  pub more-comes :
      (text : Text) (p : ℕ) →
      begins_with c (behind_blanks text) ≡ true →
      Comes told (Several shown good c 1 (length text)) text p (more c one text p)
  unfolding up_to more behind_blanks begins_with
  more-comes [] p e = absurd (false≢true e)
  more-comes (b ∷ t) p e =
      let n = length t in
      comes-look (none_or c one n) (Several shown good c 1 (suc n)) (b ∷ t) p
      (λ h gap l. (another-reads n gap l (up_to-reads n)).example h)
      (λ gap d s q l is. rw (ap (begins_with c) (sym is) ∙ e) ((another-reads n gap l (up_to-reads n)).comes (d ∷ s) q))

-- a bound variable with its type
abbrev typed : ℕ → Tokens
typed x = variable_token x ∷ bytes ":" ∷ bytes "$int" ∷ []

-- one variable and more, each behind a comma: a comma, and then the variables with commas between them
commas :
    (x v : ℕ) →
    1 ≤ v →
    gather (λ next. bytes "," ∷ next) (map typed (span x v)) ≡ bytes "," ∷ separated (bytes ",") (map typed (span x v))
unfolding span gather separated
commas x zero l = absurd (omega arith)
commas x (suc v) l = refl

-- v variables from x on, at most `most` and one
record Variables (most x v : ℕ) (u : Text) : Type 0 where
  some : 1 ≤ v
  few : v ≤ suc most
  trail : Trail (separated (bytes ",") (map typed (span x v))) u

-- the same in a binder
pub record Binds (most x v : ℕ) (u : Text) : Type 0 where
  pub some : 1 ≤ v
  pub few : v ≤ suc most
  pub fill : Fill (binder x v) u

module _ {told : Type 0} where
  declaration-reads : (x : ℕ) → Reads told (λ _ u. Fill (typed x) u) (declaration x)
  unfolding declaration
  declaration-reads x =
      then_reads (token-reads (variable_token x)) λ _ u₁ f₁.
      then_reads (token-reads (bytes ":")) λ _ u₂ f₂.
      reads_as (λ _ u₃ f₃. fill-append f₁ (fill-append f₂ f₃)) (token-reads (bytes "$int"))

  variables-reads : (most x : ℕ) → Reads told (Variables most x) (variables most x)
  unfolding variables span gather separated
  variables-reads zero x =
      map-reads (λ _. 1) (declaration-reads x) λ _ u f.
      record { some = omega arith; few = omega arith; trail = fill-trail f }
  variables-reads (suc most) x =
      then_reads (declaration-reads x) λ _ u₁ f₁.
      then_reads look-reads λ b gap e.
      cond-reads (eqb b comma)
      (λ _.
      then_reads (token-reads (bytes ",")) λ _ u₂ f₂.
      map-reads suc (variables-reads most (suc x)) λ v u₃ s.
      let behind = trail-blanks gap e (trail-append f₂ s.trail) in
      record {
        some = omega arith;
        few = omega (arith, s.few);
        trail = trail-append f₁ (rw (commas (suc x) v s.some) behind);
      })
      (λ _.
      give-reads 1
      (record {
        some = omega arith;
        few = omega arith;
        trail = trail-append f₁ (rw append-nil (trail-none gap e));
      }))

  pub binder-reads : (most x : ℕ) → Reads told (Binds most x) (read_binder most x)
  unfolding read_binder binder
  binder-reads most x =
      then_reads (token-reads (bytes "[")) λ _ u₁ f₁.
      then_reads (variables-reads most x) λ v u₂ s.
      then_reads (token-reads (bytes "]")) λ _ u₃ f₃.
      map-reads (λ _. v) (token-reads (bytes ":")) λ _ u₄ f₄.
      record { some = s.some; few = s.few; fill = fill-append f₁ (trail-fill s.trail (fill-append f₃ f₄)) }

-- one number and more, each behind a bar: a bar, and then the numbers with bars between them
bars :
    (x : ℕ) (ks : List ℤ) →
    1 ≤ length ks →
    gather (λ next. bytes "|" ∷ next) (unequals x ks) ≡ bytes "|" ∷ separated (bytes "|") (unequals x ks)
unfolding unequals gather separated
bars x [] l = absurd (omega arith)
bars x (k ∷ ks) l = refl

-- the numbers that so many variables and one from x on are unequal to
record Unequals (n x : ℕ) (ks : List ℤ) (u : Text) : Type 0 where
  count : length ks ≡ suc n
  each : all word_sized ks ≡ true
  fill : Fill (separated (bytes "|") (unequals x ks)) u

module _ {told : Type 0} where
  unequal-reads : (x : ℕ) → Reads told (Item (λ k. variable_token x ∷ bytes "!=" ∷ decimal k ∷ []) word_sized) (unequal x)
  unfolding unequal
  unequal-reads x =
      then_reads (token-reads (variable_token x)) λ _ u₁ f₁.
      then_reads (token-reads (bytes "!=")) λ _ u₂ f₂.
      reads_as (λ k u₃ (sized, f₃). (sized, fill-append f₁ (fill-append f₂ f₃))) integer-reads

  unequals-reads : (n x : ℕ) → Reads told (Unequals n x) (read_unequals n x)
  unfolding read_unequals all unequals gather separated
  unequals-reads zero x =
      map-reads (λ k. k ∷ []) (unequal-reads x) λ k u (sized, f).
      record { count = refl; each = and-true sized refl; fill = f }
  unequals-reads (suc n) x =
      then_reads (unequal-reads x) λ k u₁ (sized, f₁).
      then_reads (token-reads (bytes "|")) λ _ u₂ f₂.
      map-reads (λ ks. k ∷ ks) (unequals-reads n (suc x)) λ ks u₃ s.
      let behind = fill-append f₂ s.fill in
      record {
        count = ap suc s.count;
        each = and-true sized s.each;
        fill = fill-append f₁ (rw (bars (suc x) ks (omega (arith, s.count))) behind);
      }

  -- an excluded tuple of v variables
  pub tuple-reads : (room v x : ℕ) → 1 ≤ v → Reads told (Item (excludes x) (good_tuple v)) (read_tuple room v x)
  unfolding read_tuple excludes parenthesized good_tuple
  tuple-reads room v x l =
      cond-reads (eqb v 1)
      (λ k.
      reads_as (λ ks u s.
      let one = eq-eqb (length ks) 1 s.count in
      let many = eq-eqb (length ks) v (s.count ∙ sym (eqb-true v 1 k)) in
      (and-true many s.each, rw one s.fill)) (unequals-reads 0 x))
      (λ k.
      then_reads (opening-reads room) λ _ u₁ f₁.
      then_reads (unequals-reads (v - 1) x) λ ks u₂ s.
      map-reads (λ _. ks) (token-reads (bytes ")")) λ _ u₃ f₃.
      let other = eqb-false v 1 k in
      let many = eq-eqb (length ks) v (omega (arith, s.count)) in
      let more = ne_eqb (length ks) 1 (λ z. other (omega (arith, s.count))) in
      (and-true many s.each, rw more (fill-append f₁ (fill-append s.fill f₃))))

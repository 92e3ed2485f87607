-- Spans of numbers, parts of lists, and tests over equal lists: by induction on the list.
use Rattle.std.specs.Prelude.{ℕ, zero, suc, ◌+◌, ◌-◌, ◌≤◌, ◌<◌, min, ◌≡◌, ◌⊎◌, Bool, true, false, ◌||◌, length, take, drop, ltb}
use Rattle.std.proofs.Common.{suc-add, zero-add, eq-or-lt_of_le, add-one, arith, sym, ap, ◌∙◌, inl, inr, ⊎_elim, true≢false, ltb-true, ltb-false}
use Rattle.std.proofs.Math.Nat.{suc-min-suc, min-zero, zero-min}
use Rattle.std.proofs.Math.Path.{refl, ap₂}
use Rattle.std.proofs.Math.Bool.{cond}
use mathlib.Core.List.Memᴰ
use mathlib.Core.List.{List, [], ◌∷◌, map, Memᴰ}
use Rattle.std.proofs.Math.Seq.{take-nil}
use Rattle.model.specs.Lists.{span, any, keep}
use Rattle.laws.specs.Words.Tests.{decide}

-- a number is below another or not
pub side : (n x : ℕ) → (x < n) ⊎ (n ≤ x)
side n x = ⊎_elim (λ e. inl (ltb-true x n e)) (λ e. inr (ltb-false x n e)) (decide (ltb x n))

pub order : (x y : ℕ) → (x < y) ⊎ (x ≡ y) ⊎ (y < x)
order x y =
    ⊎_elim
    (λ l. inl l)
    (λ l. inr (⊎_elim (λ e. inl (sym e)) (λ k. inr k) (eq-or-lt_of_le l)))
    (side y x)

-- the numbers of a span are those from its first on, so many
pub span_mem : (i n : ℕ) {x : ℕ} → Memᴰ x (span i n) → (i ≤ x) × (x < i + n)
unfolding span
span_mem i zero m = absurd (Memᴰ.not-nil m)
span_mem i (suc n) m =
    ⊎_elim
    (λ p. omega (arith, p))
    (λ k. let h = span_mem (suc i) n k in omega arith)
    (Memᴰ.cases_cons m)

-- and every such number is in the span
pub mem_span : (i n : ℕ) {x : ℕ} → i ≤ x → x < i + n → Memᴰ x (span i n)
unfolding span
mem_span i zero l h = absurd (omega arith)
mem_span i (suc n) l h =
    ⊎_elim
    (λ p. Memᴰ.head (sym p))
    (λ k. Memᴰ.tail (mem_span (suc i) n k (omega arith)))
    (eq-or-lt_of_le l)

-- a span has as many numbers as it says, and its front part is a span
pub length-span : (i n : ℕ) → length (span i n) ≡ n
unfolding span
length-span i zero = refl
length-span i (suc n) = ap suc (length-span (suc i) n)

pub take-span : (k i n : ℕ) → take k (span i n) ≡ span i (min k n)
unfolding span
take-span zero i n = rw zero-min
take-span (suc k) i zero = rw min-zero
take-span (suc k) i (suc n) = rw suc-min-suc (ap (λ (l : List ℕ). i ∷ l) (take-span k (suc i) n))

-- the span from p to n begins with p
pub span-step : (p n : ℕ) → p < n → span p (n - p) ≡ p ∷ span (p + 1) (n - (p + 1))
unfolding span
span-step p n h =
    ap (span p) (let e : n - p ≡ suc (n - (p + 1)) = omega arith in e)
    ∙ ap (λ (q : ℕ). p ∷ span q (n - (p + 1))) (sym (add-one p))

pub span_end : (p n : ℕ) → n ≤ p → span p (n - p) ≡ []
unfolding span
span_end p n h = ap (span p) (let e : n - p ≡ 0 = omega arith in e)

-- a disjunction that is false has no true part
pub or_false_left : (a b : Bool) → a || b ≡ false → a ≡ false
or_false_left true b e = e
or_false_left false b e = refl

pub or_false_right : (a b : Bool) → a || b ≡ false → b ≡ false
or_false_right true b e = absurd (true≢false e)
or_false_right false b e = e

module _ {A : Type 0} where
  -- a part of a front part is a part of the whole
  pub drop-take : (i m : ℕ) (l : List A) → drop i (take (i + m) l) ≡ take m (drop i l)
  drop-take zero m l = rw zero-add
  drop-take (suc i) m [] = rw (take-nil (suc i + m), take-nil m)
  drop-take (suc i) m (x ∷ l) = rw suc-add (drop-take i m l)

  -- tests that agree on a list's elements agree on the list
  pub any_same : (f g : A → Bool) (l : List A) → ((x : A) → Memᴰ x l → f x ≡ g x) → any f l ≡ any g l
  unfolding any
  any_same f g [] h = refl
  any_same f g (x ∷ l) h =
      ap₂ (λ (a b : Bool). a || b) (h x (Memᴰ.head refl)) (any_same f g l (λ y m. h y (Memᴰ.tail m)))

  pub keep_same : (f g : A → Bool) (l : List A) → ((x : A) → Memᴰ x l → f x ≡ g x) → keep f l ≡ keep g l
  unfolding keep
  keep_same f g [] h = refl
  keep_same f g (x ∷ l) h =
      ap₂ (λ (b : Bool) (r : List A). cond b (x ∷ r) r) (h x (Memᴰ.head refl)) (keep_same f g l (λ y m. h y (Memᴰ.tail m)))

  -- a test that some element passes, denied: no element passes it
  pub any_none : (test : A → Bool) {x : A} {l : List A} → any test l ≡ false → Memᴰ x l → test x ≡ false
  unfolding any
  any_none test e (Memᴰ.head {x = y} p) = rw p (or_false_left (test y) _ e)
  any_none test e (Memᴰ.tail {x = y} m) = any_none test (or_false_right (test y) _ e) m

  -- and the other way round
  pub none_any : (test : A → Bool) (l : List A) → ((x : A) → Memᴰ x l → test x ≡ false) → any test l ≡ false
  unfolding any
  none_any test [] h = refl
  none_any test (x ∷ l) h = rw (h x (Memᴰ.head refl)) (none_any test l (λ y m. h y (Memᴰ.tail m)))

module _ {A B : Type 0} where
  -- functions that agree on a list's elements make the same list of it
  pub map_same : (f g : A → B) (l : List A) → ((x : A) → Memᴰ x l → f x ≡ g x) → map f l ≡ map g l
  map_same f g [] h = refl
  map_same f g (x ∷ l) h =
      ap₂ (λ (a : B) (r : List B). a ∷ r) (h x (Memᴰ.head refl)) (map_same f g l (λ y m. h y (Memᴰ.tail m)))

  -- a front part of what f makes of a list is what f makes of the front part
  pub take-map : (k : ℕ) (f : A → B) (l : List A) → take k (map f l) ≡ map f (take k l)
  take-map zero f l = refl
  take-map (suc k) f [] = refl
  take-map (suc k) f (x ∷ l) = ap (λ (r : List B). f x ∷ r) (take-map k f l)

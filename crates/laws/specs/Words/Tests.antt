-- What the tests of model on Bools, numbers, lists of numbers and tuples say.
use Rattle.std.specs.Prelude.{◌≡◌, refl, ◌⊎◌, Bool, true, false, ◌&&◌, ◌||◌, ℤ, pos, negsuc}
use Rattle.std.proofs.Common.{sym, ap, ap₂, ◌∙◌, inl, inr, ⊎_elim, true≢false, eqb-true, eq-eqb}
use Rattle.std.proofs.lemmas.Bool.{false≢true}
use mathlib.Core.List.{List, [], ◌∷◌, ◌++◌, Memᴰ}
use Rattle.model.specs.Words.{equal, equal_all, member, same}

-- a Bool is true or false
pub decide : (b : Bool) → (b ≡ true) ⊎ (b ≡ false)
decide true = inl refl
decide false = inr refl

-- one Bool is not both
pub clash {ℓ} : {X : Type ℓ} {b : Bool} → b ≡ true → b ≡ false → X
clash p q = absurd (true≢false (sym p ∙ q))

pub and_left : (a b : Bool) → a && b ≡ true → a ≡ true
and_left true b e = refl
and_left false b e = e

pub and_right : (a b : Bool) → a && b ≡ true → b ≡ true
and_right true b e = e
and_right false b e = absurd (false≢true e)

pub and-true : {a b : Bool} → a ≡ true → b ≡ true → a && b ≡ true
and-true {a} {b} p q = ap₂ (λ (x y : Bool). x && y) p q

pub and-false : (a : Bool) {b : Bool} → b ≡ false → a && b ≡ false
and-false true e = e
and-false false e = refl

pub and_one : (a : Bool) → a && true ≡ a
and_one true = refl
and_one false = refl

pub or_cases : (a b : Bool) → a || b ≡ true → (a ≡ true) ⊎ (b ≡ true)
or_cases true b e = inl refl
or_cases false b e = inr e

pub or_left : (a b : Bool) → a ≡ true → a || b ≡ true
or_left true b e = refl
or_left false b e = absurd (false≢true e)

pub or_right : (a b : Bool) → b ≡ true → a || b ≡ true
or_right true b e = refl
or_right false b e = e

pub or_false_left : (a b : Bool) → a || b ≡ false → a ≡ false
or_false_left true b e = e
or_false_left false b e = refl

pub or_false_right : (a b : Bool) → a || b ≡ false → b ≡ false
or_false_right true b e = absurd (true≢false e)
or_false_right false b e = e

pub same_true : (a b : Bool) → same a b ≡ true → a ≡ b
same_true true true e = refl
same_true true false e = absurd (false≢true e)
same_true false true e = absurd (false≢true e)
same_true false false e = refl

pub same_refl : (a : Bool) → same a a ≡ true
same_refl true = refl
same_refl false = refl

pub same_comm : (a b : Bool) → same a b ≡ same b a
same_comm true true = refl
same_comm true false = refl
same_comm false true = refl
same_comm false false = refl

pub same-same : (a b : Bool) → same (same a b) b ≡ a
same-same true true = refl
same-same true false = refl
same-same false true = refl
same-same false false = refl

pub equal-true : (x y : ℤ) → equal x y ≡ true → x ≡ y
unfolding equal
equal-true (pos a) (pos b) e = ap pos (eqb-true a b e)
equal-true (pos a) (negsuc b) e = absurd (false≢true e)
equal-true (negsuc a) (pos b) e = absurd (false≢true e)
equal-true (negsuc a) (negsuc b) e = ap negsuc (eqb-true a b e)

pub equal-refl : (x : ℤ) → equal x x ≡ true
unfolding equal
equal-refl (pos a) = eq-eqb a a refl
equal-refl (negsuc a) = eq-eqb a a refl

pub equal_all-true : (xs ys : List ℤ) → equal_all xs ys ≡ true → xs ≡ ys
unfolding equal_all
equal_all-true [] [] e = refl
equal_all-true [] (y ∷ ys) e = absurd (false≢true e)
equal_all-true (x ∷ xs) [] e = absurd (false≢true e)
equal_all-true (x ∷ xs) (y ∷ ys) e =
    ap₂ (λ (a : ℤ) (l : List ℤ). a ∷ l)
    (equal-true x y (and_left _ _ e))
    (equal_all-true xs ys (and_right (equal x y) _ e))

pub equal_all-refl : (xs : List ℤ) → equal_all xs xs ≡ true
unfolding equal_all
equal_all-refl [] = refl
equal_all-refl (x ∷ xs) = and-true (equal-refl x) (equal_all-refl xs)

pub member-true : (τ : List ℤ) (l : List (List ℤ)) → member τ l ≡ true → Memᴰ τ l
unfolding member
member-true τ [] e = absurd (false≢true e)
member-true τ (σ ∷ l) e =
    ⊎_elim
    (λ p. Memᴰ.head (equal_all-true τ σ p))
    (λ q. Memᴰ.tail (member-true τ l q))
    (or_cases _ _ e)

pub mem_member : {τ : List ℤ} {l : List (List ℤ)} → Memᴰ τ l → member τ l ≡ true
unfolding member
mem_member {τ} (Memᴰ.head {x = σ} {xs = l} e) = rw (← e) (or_left (equal_all τ τ) _ (equal_all-refl τ))
mem_member {τ} (Memᴰ.tail {x = σ} m) = or_right (equal_all τ σ) _ (mem_member m)

pub member-append : (τ : List ℤ) (l m : List (List ℤ)) → member τ (l ++ m) ≡ (member τ l || member τ m)
unfolding member
member-append τ [] m = refl
member-append τ (σ ∷ l) m = ap (λ (x : Bool). equal_all τ σ || x) (member-append τ l m) ∙ or_assoc (equal_all τ σ) _ _
  where
    or_assoc : (a b c : Bool) → (a || (b || c)) ≡ ((a || b) || c)
    or_assoc true b c = refl
    or_assoc false b c = refl

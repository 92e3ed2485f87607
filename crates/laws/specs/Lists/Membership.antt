-- Membership in the lists that the definitions of model make.
use Prim.Native.Nat.{ℕ, zero, suc}
use Rattle.std.specs.Prelude.{◌≡◌, Bool, cond, ◌&&◌, take, drop}
use Rattle.std.proofs.Math.Path.{refl, ap, ap₂, subst}
use Rattle.std.proofs.Common.{sym, ◌∙◌}
use Rattle.std.proofs.Math.Logic.{⊎_elim}
use Rattle.std.proofs.Math.Bool.{true, false}
use mathlib.Core.List.Memᴰ
use mathlib.Core.List.{List, [], ◌∷◌, ◌++◌, map, Memᴰ}
use Rattle.model.specs.Lists.{all, keep, gather}
use Rattle.laws.specs.Words.Tests.{and_left, and_right, and-true, decide}

module _ {A : Type 0} where
  pub all_mem : (test : A → Bool) {x : A} {l : List A} → all test l ≡ true → Memᴰ x l → test x ≡ true
  unfolding all
  all_mem test e (Memᴰ.head {x = y} p) = rw p (and_left _ _ e)
  all_mem test e (Memᴰ.tail {x = y} m) = all_mem test (and_right (test y) _ e) m

  pub all_intro : (test : A → Bool) (l : List A) → ((x : A) → Memᴰ x l → test x ≡ true) → all test l ≡ true
  unfolding all
  all_intro test [] h = refl
  all_intro test (x ∷ l) h = and-true (h x (Memᴰ.head refl)) (all_intro test l (λ y m. h y (Memᴰ.tail m)))

  -- a test of all elements of two lists, one behind the other, and back; of a part of a list
  pub all_append : (test : A → Bool) (l m : List A) → all test l ≡ true → all test m ≡ true → all test (l ++ m) ≡ true
  unfolding all
  all_append test [] m e h = h
  all_append test (x ∷ l) m e h =
      and-true (and_left (test x) _ e) (all_append test l m (and_right (test x) _ e) h)

  pub all-parts : (test : A → Bool) (l m : List A) → all test (l ++ m) ≡ true → (all test l ≡ true) × (all test m ≡ true)
  unfolding all
  all-parts test [] m e = (refl, e)
  all-parts test (x ∷ l) m e =
      let (front, back) = all-parts test l m (and_right (test x) _ e) in
      (and-true (and_left (test x) _ e) front, back)

  pub all_take : (test : A → Bool) (n : ℕ) (l : List A) → all test l ≡ true → all test (take n l) ≡ true
  unfolding all
  all_take test zero l e = refl
  all_take test (suc n) [] e = refl
  all_take test (suc n) (x ∷ l) e = and-true (and_left (test x) _ e) (all_take test n l (and_right (test x) _ e))

  pub all_drop : (test : A → Bool) (n : ℕ) (l : List A) → all test l ≡ true → all test (drop n l) ≡ true
  unfolding all
  all_drop test zero l e = e
  all_drop test (suc n) [] e = refl
  all_drop test (suc n) (x ∷ l) e = all_drop test n l (and_right (test x) _ e)

  pub mem_keep : (test : A → Bool) {x : A} {l : List A} → Memᴰ x l → test x ≡ true → Memᴰ x (keep test l)
  unfolding keep
  mem_keep test {x} (Memᴰ.head {x = y} {xs = l} p) e =
      subst (λ (b : Bool). Memᴰ x (cond b (y ∷ keep test l) (keep test l))) (sym e ∙ ap test p) (Memᴰ.head p)
  mem_keep test {x} (Memᴰ.tail {x = y} {xs = l} m) e =
      ⊎_elim
      (λ p. rw p (Memᴰ.tail (mem_keep test m e)))
      (λ p. rw p (mem_keep test m e))
      (decide (test y))

  pub keep_mem : (test : A → Bool) {x : A} (l : List A) → Memᴰ x (keep test l) → Memᴰ x l × (test x ≡ true)
  unfolding keep
  keep_mem test [] m = absurd (Memᴰ.not-nil m)
  keep_mem test {x} (y ∷ l) m = go (keep_mem test l) (test y) refl m
    where
      go :
          (Memᴰ x (keep test l) → Memᴰ x l × (test x ≡ true)) →
          (b : Bool) →
          test y ≡ b →
          Memᴰ x (cond b (y ∷ keep test l) (keep test l)) →
          Memᴰ x (y ∷ l) × (test x ≡ true)
      go ih true e k =
          ⊎_elim
          (λ p. (Memᴰ.head p, ap test p ∙ e))
          (λ n. (Memᴰ.tail (ih n).0, (ih n).1))
          (Memᴰ.cases_cons k)
      go ih false e k = (Memᴰ.tail (ih k).0, (ih k).1)

module _ {A B : Type 0} where
  -- tests that agree on the elements of a list and on what h makes of them
  pub all_map :
      (f : A → Bool) (g : B → Bool) (h : A → B) (l : List A) →
      ((x : A) → Memᴰ x l → f x ≡ g (h x)) →
      all f l ≡ all g (map h l)
  unfolding all
  all_map f g h [] e = refl
  all_map f g h (x ∷ l) e =
      ap₂ (λ (a b : Bool). a && b) (e x (Memᴰ.head refl)) (all_map f g h l (λ y m. e y (Memᴰ.tail m)))

  pub mem_gather : (f : A → List B) {x : A} {y : B} {l : List A} → Memᴰ x l → Memᴰ y (f x) → Memᴰ y (gather f l)
  unfolding gather
  mem_gather f {y} (Memᴰ.head p) k = Memᴰ.append_left _ (subst (λ (z : A). Memᴰ y (f z)) p k)
  mem_gather f (Memᴰ.tail {x = z} m) k = Memᴰ.append_right (f z) (mem_gather f m k)

  pub gather_mem : (f : A → List B) {y : B} (l : List A) → Memᴰ y (gather f l) → (x : A) × Memᴰ x l × Memᴰ y (f x)
  unfolding gather
  gather_mem f [] m = absurd (Memᴰ.not-nil m)
  gather_mem f (x ∷ l) m =
      ⊎_elim
      (λ k. (x, Memᴰ.head refl, k))
      (λ k. let r = gather_mem f l k in (r.0, Memᴰ.tail r.1, r.2))
      (Memᴰ.append_cases (f x) m)

  pub mem_map : (f : A → B) {x : A} {l : List A} → Memᴰ x l → Memᴰ (f x) (map f l)
  mem_map f (Memᴰ.head p) = Memᴰ.head (ap f p)
  mem_map f (Memᴰ.tail m) = Memᴰ.tail (mem_map f m)

  pub map_mem : (f : A → B) {y : B} (l : List A) → Memᴰ y (map f l) → (x : A) × Memᴰ x l × (y ≡ f x)
  map_mem f [] m = absurd (Memᴰ.not-nil m)
  map_mem f (x ∷ l) m =
      ⊎_elim
      (λ p. (x, Memᴰ.head refl, p))
      (λ k. let r = map_mem f l k in (r.0, Memᴰ.tail r.1, r.2))
      (Memᴰ.cases_cons m)

-- Environments against lists of numbers, and terms against the arguments of a row.
-- Terms meet arguments with an environment that agrees with numbers σ exactly if the terms' numbers under σ are those arguments.
use Rattle.std.specs.Prelude.{ℕ, ◌≤◌, ◌<◌, ◌≡◌, refl, ◌⊎◌, Bool, true, false, cond, ◌||◌, length, get_or, take, eqb, ℤ, pos}
use Rattle.std.proofs.Common.{arith, sym, ap, ap₂, ◌∙◌, subst, inl, inr, ⊎_elim, eqb-true, eq-eqb, ne_eqb}
use mathlib.Core.List.Memᴰ
use mathlib.Core.List.{List, [], ◌∷◌, map, Memᴰ, cons≢nil}
use mathlib.Core.List.{head-eq_of_cons-eq, tail-eq_of_cons-eq}
use Rattle.std.proofs.lemmas.Bool.{eqb-false}
use Rattle.model.specs.Words.{equal}
use Rattle.model.specs.Lists.{any}
use Rattle.model.specs.Tree.{Term, constant, variable}
use Rattle.model.specs.Mode.{Variables, is_variable}
use Rattle.model.specs.Truth.{number_of}
use Rattle.model.specs.Listing.{Slot, bound, free, Environment, bind, release, look, meet, fit}
use Rattle.laws.specs.Words.Tests.{decide, clash, or_cases, equal-true, equal-refl}
use Rattle.laws.specs.Lists.Membership.{mem_gather, gather_mem}
use Rattle.laws.specs.Reading.Formed.{InScope, AllInScope}

-- σ has the numbers that an environment binds; the environment binds at least those variables; it binds only the first n
abbrev pub Agrees : (e : Environment) (σ : List ℤ) → Type 0
Agrees e σ = (x : ℕ) (k : ℤ) → e x ≡ bound k → get_or σ x (pos 0) ≡ k

abbrev pub Binds : (b : Variables) (e : Environment) → Type 0
Binds b e = (x : ℕ) → b x ≡ true → (k : ℤ) × (e x ≡ bound k)

abbrev pub Supported : (n : ℕ) (e : Environment) → Type 0
Supported n e = (x : ℕ) → n ≤ x → e x ≡ free

-- what is bound is not free, and to one number only
pub bound-free {ℓ} : {X : Type ℓ} {s : Slot} {k : ℤ} → s ≡ bound k → s ≡ free → X
bound-free {s} {k} p q = let z : ◌≡◌ {A = ℕ} 0 1 = cc in absurd (omega (arith, z))

pub bound-same : {j k : ℤ} → bound j ≡ bound k → j ≡ k
bound-same e = cc

-- what an environment has for a variable after a binding and after a release
pub bind-same : (e : Environment) (x : ℕ) (k : ℤ) → bind e x k x ≡ bound k
unfolding bind
bind-same e x k = rw (eq-eqb x x refl)

pub bind-other : (e : Environment) (x : ℕ) (k : ℤ) (y : ℕ) → (y ≡ x → ⊥) → bind e x k y ≡ e y
unfolding bind
bind-other e x k y n = rw (ne_eqb y x n)

pub release-same : (e : Environment) (x : ℕ) → release e x x ≡ free
unfolding release
release-same e x = rw (eq-eqb x x refl)

pub release_other : (e : Environment) (x y : ℕ) → (y ≡ x → ⊥) → release e x y ≡ e y
unfolding release
release_other e x y n = rw (ne_eqb y x n)

-- numbers are equal or not
pub same_or_not : (x y : ℕ) → (x ≡ y) ⊎ (x ≡ y → ⊥)
same_or_not x y = ⊎_elim (λ e. inl (eqb-true x y e)) (λ e. inr (eqb-false x y e)) (decide (eqb x y))

-- a term meets an argument either as it is, or by binding a free variable
pub data Met (e : Environment) (t : Term) (a : ℤ) (e' : Environment) : Type 0 where
  as_it_is : e' ≡ e → look e t ≡ bound a → Met e t a e'
  binding : (x : ℕ) → t ≡ variable x → e x ≡ free → e' ≡ bind e x a → Met e t a e'

pub met : (e : Environment) (t : Term) (a : ℤ) {e' : Environment} → Memᴰ e' (meet (look e t) t a e) → Met e t a e'
unfolding meet look
met e t a {e'} m = go t (look e t) refl m
  where
    equals :
        (t : Term) (k : ℤ) (b : Bool) →
        equal k a ≡ b →
        look e t ≡ bound k →
        Memᴰ e' (cond b (e ∷ []) []) →
        Met e t a e'
    equals t k true p q n = as_it_is (Memᴰ.eq_of_singleton n) (q ∙ ap bound (equal-true k a p))
    equals t k false p q n = absurd (Memᴰ.not-nil n)

    go : (t : Term) (s : Slot) → look e t ≡ s → Memᴰ e' (meet s t a e) → Met e t a e'
    go t (bound k) q n = equals t k (equal k a) refl q n
    go (variable x) free q n = binding x refl q (Memᴰ.eq_of_singleton n)
    go (constant k) free q n = absurd (Memᴰ.not-nil n)

-- a term bound to the argument meets it
meet-same : (e : Environment) (t : Term) (a : ℤ) → look e t ≡ bound a → Memᴰ e (meet (look e t) t a e)
unfolding meet
meet-same e t a q = rw (q, equal-refl a) (Memᴰ.head refl)

-- a free variable meets every argument
meet-bind :
    (e : Environment) (x : ℕ) (a : ℤ) →
    e x ≡ free →
    Memᴰ (bind e x a) (meet (look e (variable x)) (variable x) a e)
unfolding meet look
meet-bind e x a q = rw q (Memᴰ.head refl)

-- under numbers that agree with an environment, a term has the number that it is bound to
pub number-look : (e : Environment) (σ : List ℤ) (t : Term) {a : ℤ} → Agrees e σ → look e t ≡ bound a → number_of σ t ≡ a
unfolding look number_of
number-look e σ (constant k) g q = bound-same q
number-look e σ (variable x) g q = g x _ q

-- to bind a free variable to a number is to agree with that number besides
unbind : (e : Environment) (σ : List ℤ) (x : ℕ) (a : ℤ) → e x ≡ free → Agrees (bind e x a) σ → Agrees e σ
unbind e σ x a q g y k p =
    ⊎_elim
    (λ s. bound-free (sym (ap e s) ∙ p) q)
    (λ n. g y k (bind-other e x a y n ∙ p))
    (same_or_not y x)

-- binding a variable to its number in σ keeps the agreement with σ
bind_agrees : (e : Environment) (σ : List ℤ) (x : ℕ) → Agrees e σ → Agrees (bind e x (get_or σ x (pos 0))) σ
bind_agrees e σ x g y k p =
    ⊎_elim
    (λ s. ap (λ (z : ℕ). get_or σ z (pos 0)) s ∙ bound-same (sym (bind-same e x _) ∙ sym (ap (bind e x _) s) ∙ p))
    (λ n. g y k (sym (bind-other e x _ y n) ∙ p))
    (same_or_not y x)

-- an environment that agrees with σ after a term met an argument agreed before, and the term's number is the argument
met-sound :
    {e : Environment} {t : Term} {a : ℤ} {e' : Environment} (σ : List ℤ) →
    Met e t a e' →
    Agrees e' σ →
    Agrees e σ × (number_of σ t ≡ a)
unfolding number_of
met-sound {e} {t} σ (as_it_is s q) g =
    let g₀ : Agrees e σ = subst (λ (f : Environment). Agrees f σ) s g in
    (g₀, number-look e σ t g₀ q)
met-sound {e} {a} σ (binding x v q s) g =
    let g₀ : Agrees (bind e x a) σ = subst (λ (f : Environment). Agrees f σ) s g in
    (unbind e σ x a q g₀, ap (number_of σ) v ∙ g₀ x a (bind-same e x a))

-- the environments of a list that agree with σ
abbrev pub Found : (es : List Environment) (σ : List ℤ) → Type 0
Found es σ = (e : Environment) × Memᴰ e es × Agrees e σ

-- a term meets its number under σ with an environment that agrees with σ
meet-complete : (e : Environment) (t : Term) (σ : List ℤ) → Agrees e σ → Found (meet (look e t) t (number_of σ t) e) σ
unfolding look number_of
meet-complete e t σ g = go t (look e t) refl
  where
    go : (t : Term) (s : Slot) → look e t ≡ s → Found (meet (look e t) t (number_of σ t) e) σ
    go t (bound k) q = (e, meet-same e t _ (q ∙ ap bound (sym (number-look e σ t g q))), g)
    go (variable x) free q = (bind e x (get_or σ x (pos 0)), meet-bind e x (get_or σ x (pos 0)) q, bind_agrees e σ x g)
    go (constant k) free q = bound-free refl q

-- terms meet arguments with an environment that agrees with σ only if the terms' numbers under σ are those arguments
pub fit-sound :
    (ts : List Term) (arguments : List ℤ) (e : Environment) (σ : List ℤ) {e' : Environment} →
    Memᴰ e' (fit ts arguments e) →
    Agrees e' σ →
    Agrees e σ × (map (number_of σ) ts ≡ take (length ts) arguments)
unfolding fit
fit-sound [] arguments e σ m g = (subst (λ (f : Environment). Agrees f σ) (Memᴰ.eq_of_singleton m) g, refl)
fit-sound (t ∷ ts) [] e σ m g = absurd (Memᴰ.not-nil m)
fit-sound (t ∷ ts) (a ∷ arguments) e σ m g =
    let (e₁, m₁, m₂) = gather_mem (fit ts arguments) (meet (look e t) t a e) m in
    let (g₁, rest) = fit-sound ts arguments e₁ σ m₂ g in
    let (g₀, first) = met-sound σ (met e t a m₁) g₁ in
    (g₀, ap₂ (λ (n : ℤ) (ns : List ℤ). n ∷ ns) first rest)

-- and if they are, there is such an environment
pub fit-complete :
    (ts : List Term) (arguments : List ℤ) (e : Environment) (σ : List ℤ) →
    Agrees e σ →
    map (number_of σ) ts ≡ take (length ts) arguments →
    Found (fit ts arguments e) σ
unfolding fit
fit-complete [] arguments e σ g q = (e, Memᴰ.head refl, g)
fit-complete (t ∷ ts) [] e σ g q = absurd (cons≢nil q)
fit-complete (t ∷ ts) (a ∷ arguments) e σ g q =
    let (e₁, m₁, g₁) = meet-complete e t σ g in
    let (e₂, m₂, g₂) = fit-complete ts arguments e₁ σ g₁ (tail-eq_of_cons-eq q) in
    (e₂, mem_gather (fit ts arguments) (subst (λ (n : ℤ). Memᴰ e₁ (meet (look e t) t n e)) (head-eq_of_cons-eq q) m₁) m₂, g₂)

-- a term that is the variable x
variable-look : (e : Environment) (x : ℕ) (t : Term) → is_variable x t ≡ true → look e t ≡ e x
unfolding is_variable look
variable-look e x (constant k) v = clash v refl
variable-look e x (variable y) v = ap e (sym (eqb-true x y v))

variable-number : (x y : ℕ) (t : Term) → is_variable x t ≡ true → t ≡ variable y → x ≡ y
unfolding is_variable
variable-number x y t v u = eqb-true x y (subst (λ (w : Term). is_variable x w ≡ true) u v)

-- what an environment binds stays bound when terms meet arguments, and the terms' variables are bound
abbrev Extended : Environment → Environment → Type 0
Extended e e' = (x : ℕ) (k : ℤ) → e x ≡ bound k → e' x ≡ bound k

-- a term's meeting an argument keeps what is bound
met-extends : {e : Environment} {t : Term} {a : ℤ} {e' : Environment} → Met e t a e' → Extended e e'
met-extends (as_it_is s q) x k p = ap (λ (f : Environment). f x) s ∙ p
met-extends {e} {a} (binding y v q s) x k p =
    ap (λ (f : Environment). f x) s ∙ bind-other e y a x (λ r. bound-free (sym (ap e r) ∙ p) q) ∙ p

-- it binds the term's variable to the argument
met-binds :
    {e : Environment} {t : Term} {a : ℤ} {e' : Environment} (x : ℕ) →
    Met e t a e' →
    is_variable x t ≡ true →
    e' x ≡ bound a
met-binds {e} {t} x (as_it_is s q) v = ap (λ (f : Environment). f x) s ∙ sym (variable-look e x t v) ∙ q
met-binds {e} {t} {a} x (binding y u q s) v =
    ap (λ (f : Environment). f x) s ∙ ap (bind e y a) (variable-number x y t v u) ∙ bind-same e y a

-- it binds no variable outside the scope
met_supported :
    {e : Environment} {t : Term} {a : ℤ} {e' : Environment} (n : ℕ) →
    Met e t a e' →
    InScope n t →
    Supported n e →
    Supported n e'
unfolding InScope
met_supported n (as_it_is s q) h w x l = ap (λ (f : Environment). f x) s ∙ w x l
met_supported {e} {a} n (binding y v q s) h w x l =
    let i : y < n = subst (InScope n) v h in
    ap (λ (f : Environment). f x) s ∙ bind-other e y a x (λ r. omega arith) ∙ w x l

-- the same of all terms
fit-extends :
    (ts : List Term) (arguments : List ℤ) (e : Environment) {e' : Environment} →
    Memᴰ e' (fit ts arguments e) →
    Extended e e'
unfolding fit
fit-extends [] arguments e m x k p = ap (λ (f : Environment). f x) (Memᴰ.eq_of_singleton m) ∙ p
fit-extends (t ∷ ts) [] e m x k p = absurd (Memᴰ.not-nil m)
fit-extends (t ∷ ts) (a ∷ arguments) e m x k p =
    let (e₁, m₁, m₂) = gather_mem (fit ts arguments) (meet (look e t) t a e) m in
    fit-extends ts arguments e₁ m₂ x k (met-extends (met e t a m₁) x k p)

-- the variables of terms that met arguments are bound
fit-variables :
    (ts : List Term) (arguments : List ℤ) (e : Environment) {e' : Environment} →
    Memᴰ e' (fit ts arguments e) →
    Binds (λ x. any (is_variable x) ts) e'
unfolding fit any
fit-variables [] arguments e m x p = clash p refl
fit-variables (t ∷ ts) [] e m x p = absurd (Memᴰ.not-nil m)
fit-variables (t ∷ ts) (a ∷ arguments) e m x p =
    let (e₁, m₁, m₂) = gather_mem (fit ts arguments) (meet (look e t) t a e) m in
    ⊎_elim
    (λ v. (a, fit-extends ts arguments e₁ m₂ x a (met-binds x (met e t a m₁) v)))
    (λ v. fit-variables ts arguments e₁ m₂ x v)
    (or_cases (is_variable x t) _ p)

-- so what was bound and the terms' variables are bound
pub fit-binds :
    (ts : List Term) (arguments : List ℤ) (e : Environment) (b : Variables) {e' : Environment} →
    Memᴰ e' (fit ts arguments e) →
    Binds b e →
    Binds (λ x. b x || any (is_variable x) ts) e'
fit-binds ts arguments e b m h x p =
    ⊎_elim
    (λ q. let (k, w) = h x q in (k, fit-extends ts arguments e m x k w))
    (λ q. fit-variables ts arguments e m x q)
    (or_cases (b x) _ p)

-- no variable outside the scope is bound
pub fit_supported :
    (ts : List Term) (arguments : List ℤ) (e : Environment) (n : ℕ) {e' : Environment} →
    Memᴰ e' (fit ts arguments e) →
    AllInScope n ts →
    Supported n e →
    Supported n e'
unfolding fit AllInScope
fit_supported [] arguments e n m h s x l = ap (λ (f : Environment). f x) (Memᴰ.eq_of_singleton m) ∙ s x l
fit_supported (t ∷ ts) [] e n m h s x l = absurd (Memᴰ.not-nil m)
fit_supported (t ∷ ts) (a ∷ arguments) e n m h s x l =
    let (e₁, m₁, m₂) = gather_mem (fit ts arguments) (meet (look e t) t a e) m in
    fit_supported ts arguments e₁ n m₂ h.1 (met_supported n (met e t a m₁) h.0 s) x l

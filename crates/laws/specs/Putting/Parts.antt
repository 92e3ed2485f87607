-- Putting numbers in for the outer variables can be done in parts, and truth, rules and levels stay as they are (theorem 2).
-- All by induction on the tree; a term's number is the same before and after.
use Rattle.std.specs.Prelude.{ℕ, suc, ◌+◌, ◌-◌, ◌≤◌, ◌<◌, max, ◌≡◌, ◌↔◌, ◌⊎◌, Bool, true, false, cond, ◌&&◌, List, [], ◌∷◌, ◌++◌, map, length, get_or, ℤ, pos}
use Rattle.std.proofs.Common.{add_assoc, arith, sym, ap, ap₂, ◌∙◌, subst, inl, inr, ⊎_elim, append_assoc, length-append, get_or-append-add, lt-ltb, le-ltb}
use Rattle.std.proofs.Math.Path.{refl}
use Rattle.std.proofs.lemmas.List.{length-map}
use Rattle.std.proofs.Math.ListN.{get_or-append}
use Rattle.model.specs.Words.{Words, same, member}
use Rattle.model.specs.Tree.{Term, constant, variable, Tree, Trees, plain, atom, compare, join, quantifier, some, nil, cons, count}
use Rattle.model.specs.Log.{known}
use Rattle.model.specs.Truth.{Structure, number_of, sum_at_most, Is, Every, One}
use Rattle.model.specs.Level.{Role, restriction, formula, under, quantifier_cost, greatest, greatest_all}
use Rattle.model.specs.Putting.{put_term, put, put_all}
use Rattle.model.specs.Reduction.{closed, closed_all}
use Rattle.laws.specs.Lists.Span.{side}
use Rattle.laws.specs.Reading.Formed.{InScope, AllInScope, Formed, FormedAll}

-- what putting makes of a variable: an outer one, and a greater one
pub put-outer : (ρ : List ℤ) (x : ℕ) → x < length ρ → put_term ρ (variable x) ≡ constant (get_or ρ x (pos 0))
unfolding put_term
put-outer ρ x h = rw (lt-ltb x (length ρ) h)

-- a greater variable falls
pub put-inner : (ρ : List ℤ) (x : ℕ) → length ρ ≤ x → put_term ρ (variable x) ≡ variable (x - length ρ)
unfolding put_term
put-inner ρ x h = rw (le-ltb x (length ρ) h)

-- the numbers of outer and of greater variables
get_d_right : (ρ τ : List ℤ) (x : ℕ) → length ρ ≤ x → get_or (ρ ++ τ) x (pos 0) ≡ get_or τ (x - length ρ) (pos 0)
get_d_right ρ τ x h =
    let e : x ≡ length ρ + (x - length ρ) = omega arith in
    ap (λ (y : ℕ). get_or (ρ ++ τ) y (pos 0)) e ∙ get_or-append-add ρ τ (x - length ρ) (pos 0)

-- a term's number is the same before and after
pub number_of-put : (ρ τ : List ℤ) (t : Term) → number_of τ (put_term ρ t) ≡ number_of (ρ ++ τ) t
unfolding number_of put_term
number_of-put ρ τ (constant k) = refl
number_of-put ρ τ (variable x) =
    ⊎_elim
    (λ h. ap (number_of τ) (put-outer ρ x h) ∙ sym (get_or-append ρ τ (pos 0) x h))
    (λ h. ap (number_of τ) (put-inner ρ x h) ∙ sym (get_d_right ρ τ x h))
    (side (length ρ) x)

-- numbers can be put into a term one part after the other; no numbers change nothing
put_term-put : (ρ τ : List ℤ) (t : Term) → put_term (ρ ++ τ) t ≡ put_term τ (put_term ρ t)
unfolding put_term
put_term-put ρ τ (constant k) = refl
put_term-put ρ τ (variable x) = go (side (length ρ) x) (side (length ρ + length τ) x)
  where
    long : length (ρ ++ τ) ≡ length ρ + length τ
    long = length-append ρ τ

    go :
        (x < length ρ) ⊎ (length ρ ≤ x) →
        (x < length ρ + length τ) ⊎ (length ρ + length τ ≤ x) →
        put_term (ρ ++ τ) (variable x) ≡ put_term τ (put_term ρ (variable x))
    go (inl h) k =
        put-outer (ρ ++ τ) x (omega (arith, long))
        ∙ ap constant (get_or-append ρ τ (pos 0) x h)
        ∙ ap (put_term τ) (sym (put-outer ρ x h))
    go (inr h) (inl k) =
        put-outer (ρ ++ τ) x (omega (arith, long))
        ∙ ap constant (get_d_right ρ τ x h)
        ∙ sym (put-outer τ (x - length ρ) (omega arith))
        ∙ ap (put_term τ) (sym (put-inner ρ x h))
    go (inr h) (inr k) =
        put-inner (ρ ++ τ) x (omega (arith, long))
        ∙ ap variable (omega (arith, long))
        ∙ sym (put-inner τ (x - length ρ) (omega arith))
        ∙ ap (put_term τ) (sym (put-inner ρ x h))

put_term-nil : (t : Term) → put_term [] t ≡ t
put_term-nil (constant k) = unfold put_term in refl
put_term-nil (variable x) = put-inner [] x (omega arith) ∙ ap variable (omega arith)

module _ {A B C : Type 0} where
  -- two functions over a list, one after the other
  pub map-map : (f : A → B) (g : B → C) (h : A → C) (l : List A) → ((x : A) → g (f x) ≡ h x) → map g (map f l) ≡ map h l
  map-map f g h [] e = refl
  map-map f g h (x ∷ l) e = ap₂ (λ (a : C) (r : List C). a ∷ r) (e x) (map-map f g h l e)

-- a function that changes nothing changes no list
map-self : {A : Type 0} (f : A → A) (l : List A) → ((x : A) → f x ≡ x) → map f l ≡ l
map-self f [] e = refl
map-self {A} f (x ∷ l) e = ap₂ (λ (a : A) (r : List A). a ∷ r) (e x) (map-self f l e)

-- numbers can be put in one part after the other
mutual
  unfolding put

  pub put-put : (t : Tree) (ρ τ : List ℤ) → put t (ρ ++ τ) ≡ put (put t ρ) τ
  put-put (plain b) ρ τ = refl
  put-put (atom b p ts) ρ τ =
      ap (atom b p) (sym (map-map (put_term ρ) (put_term τ) (put_term (ρ ++ τ)) ts (λ t. sym (put_term-put ρ τ t))))
  put-put (compare b d x y) ρ τ = ap₂ (compare b d) (put_term-put ρ τ x) (put_term-put ρ τ y)
  put-put (join b ts) ρ τ = ap (join b) (put-put-all ts ρ τ)
  put-put (quantifier b v excluded c f) ρ τ = ap₂ (quantifier b v excluded) (put-put c ρ τ) (put-put f ρ τ)
  put-put (some c) ρ τ = ap some (put-put c ρ τ)

  put-put-all : (ts : Trees) (ρ τ : List ℤ) → put_all ts (ρ ++ τ) ≡ put_all (put_all ts ρ) τ
  put-put-all nil ρ τ = refl
  put-put-all (cons t ts) ρ τ = ap₂ cons (put-put t ρ τ) (put-put-all ts ρ τ)

-- with no numbers, a tree stays as it is
mutual
  unfolding put

  pub put-nil : (t : Tree) → put t [] ≡ t
  put-nil (plain b) = refl
  put-nil (atom b p ts) = ap (atom b p) (map-self (put_term []) ts put_term-nil)
  put-nil (compare b d x y) = ap₂ (compare b d) (put_term-nil x) (put_term-nil y)
  put-nil (join b ts) = ap (join b) (put-nil-all ts)
  put-nil (quantifier b v excluded c f) = ap₂ (quantifier b v excluded) (put-nil c) (put-nil f)
  put-nil (some c) = ap some (put-nil c)

  put-nil-all : (ts : Trees) → put_all ts [] ≡ ts
  put-nil-all nil = refl
  put-nil-all (cons t ts) = ap₂ cons (put-nil t) (put-nil-all ts)

-- equal truths of restriction and body make equal truths of a quantifier
quantifier-same :
    (universal : Bool) (v : ℕ) (excluded : List (List ℤ)) {c₀ c₁ d₀ d₁ f₀ f₁ : List ℤ → Type 0} →
    ((σ : List ℤ) → c₀ σ ≡ c₁ σ) →
    ((σ : List ℤ) → d₀ σ ≡ d₁ σ) →
    ((σ : List ℤ) → f₀ σ ≡ f₁ σ) →
    ◌≡◌ {A = Type 0}
    (cond universal
    ((σ : List ℤ) → length σ ≡ v → (member σ excluded ≡ true) ⊎ c₀ σ ⊎ f₀ σ)
    ((σ : List ℤ) × (length σ ≡ v) × (member σ excluded ≡ false) × d₀ σ × f₀ σ))
    (cond universal
    ((σ : List ℤ) → length σ ≡ v → (member σ excluded ≡ true) ⊎ c₁ σ ⊎ f₁ σ)
    ((σ : List ℤ) × (length σ ≡ v) × (member σ excluded ≡ false) × d₁ σ × f₁ σ))
quantifier-same universal v excluded c d f i =
    cond universal
    ((σ : List ℤ) → length σ ≡ v → (member σ excluded ≡ true) ⊎ c σ i ⊎ f σ i)
    ((σ : List ℤ) × (length σ ≡ v) × (member σ excluded ≡ false) × d σ i × f σ i)

-- truth with the numbers put in is truth with the numbers in scope: the two are one type
module _ (s : Structure) where
  mutual
    unfolding put Is

    is_same : (t : Tree) (truth : Bool) (ρ τ : List ℤ) → Is (put t ρ) s truth τ ≡ Is t s truth (ρ ++ τ)
    is_same (plain b) truth ρ τ = refl
    is_same (atom b p ts) truth ρ τ =
        ap (λ (ns : List ℤ). s p ns ≡ known (same truth b))
        (map-map (put_term ρ) (number_of τ) (number_of (ρ ++ τ)) ts (number_of-put ρ τ))
    is_same (compare b d x y) truth ρ τ =
        ap₂ (λ (m n : ℤ). sum_at_most d m n ≡ same truth b) (number_of-put ρ τ x) (number_of-put ρ τ y)
    is_same (join b ts) truth ρ τ =
        ap₂ (cond (same truth b)) (every-same ts truth ρ τ) (one_same ts truth ρ τ)
    is_same (quantifier b v excluded c f) truth ρ τ =
        quantifier-same (same truth b) v excluded
        (λ σ. is_same c false ρ (τ ++ σ) ∙ ap (Is c s false) (sym (append_assoc ρ τ σ)))
        (λ σ. is_same c true ρ (τ ++ σ) ∙ ap (Is c s true) (sym (append_assoc ρ τ σ)))
        (λ σ. is_same f truth ρ (τ ++ σ) ∙ ap (Is f s truth) (sym (append_assoc ρ τ σ)))
    is_same (some c) true ρ τ =
        let e : (k : ℤ) → Is (put c ρ) s true (τ ++ k ∷ []) ≡ Is c s true (ρ ++ τ ++ k ∷ []) =
        λ k. is_same c true ρ (τ ++ k ∷ []) ∙ ap (Is c s true) (sym (append_assoc ρ τ (k ∷ [])))
        in
        λ i. (k : ℤ) × e k i
    is_same (some c) false ρ τ =
        let e : (k : ℤ) → Is (put c ρ) s false (τ ++ k ∷ []) ≡ Is c s false (ρ ++ τ ++ k ∷ []) =
        λ k. is_same c false ρ (τ ++ k ∷ []) ∙ ap (Is c s false) (sym (append_assoc ρ τ (k ∷ [])))
        in
        λ i. (k : ℤ) → e k i

    every-same : (ts : Trees) (truth : Bool) (ρ τ : List ℤ) → Every (put_all ts ρ) s truth τ ≡ Every ts s truth (ρ ++ τ)
    every-same nil truth ρ τ = refl
    every-same (cons t ts) truth ρ τ = ap₂ (λ (X Y : Type 0). X × Y) (is_same t truth ρ τ) (every-same ts truth ρ τ)

    one_same : (ts : Trees) (truth : Bool) (ρ τ : List ℤ) → One (put_all ts ρ) s truth τ ≡ One ts s truth (ρ ++ τ)
    one_same nil truth ρ τ = refl
    one_same (cons t ts) truth ρ τ = ap₂ (λ (X Y : Type 0). X ⊎ Y) (is_same t truth ρ τ) (one_same ts truth ρ τ)

-- so the one holds exactly if the other does
pub is-put : (t : Tree) (s : Structure) (truth : Bool) (ρ τ : List ℤ) → Is (put t ρ) s truth τ ↔ Is t s truth (ρ ++ τ)
is-put t s truth ρ τ =
    let e = is_same s t truth ρ τ in
    (subst (λ (X : Type 0). X) e, subst (λ (X : Type 0). X) (sym e))

-- a term in scope is in scope afterwards
put_in_scope : (ρ : List ℤ) (n : ℕ) (t : Term) → InScope (length ρ + n) t → InScope n (put_term ρ t)
unfolding InScope put_term
put_in_scope ρ n (constant k) h = tt
put_in_scope ρ n (variable x) h =
    ⊎_elim
    (λ l. subst (InScope n) (sym (put-outer ρ x l)) tt)
    (λ l. subst (InScope n) (sym (put-inner ρ x l)) (omega arith))
    (side (length ρ) x)

-- the same of all terms
put_all_in_scope : (ρ : List ℤ) (n : ℕ) (ts : List Term) → AllInScope (length ρ + n) ts → AllInScope n (map (put_term ρ) ts)
unfolding AllInScope
put_all_in_scope ρ n [] h = tt
put_all_in_scope ρ n (t ∷ ts) h = (put_in_scope ρ n t h.0, put_all_in_scope ρ n ts h.1)

-- there are as many trees as before
pub put_count : (ts : Trees) (ρ : List ℤ) → count (put_all ts ρ) ≡ count ts
unfolding count put_all
put_count nil ρ = refl
put_count (cons t ts) ρ = ap suc (put_count ts ρ)

module _ (table : Words) where
  -- the rules hold of a tree with the numbers put in
  mutual
    unfolding put Formed

    pub put-formed :
        (t : Tree) (kind : Bool) (ρ : List ℤ) (n : ℕ) →
        Formed t table kind (length ρ + n) →
        Formed (put t ρ) table kind n
    put-formed (plain b) kind ρ n h = tt
    put-formed (atom b p ts) kind ρ n h =
        rw (length-map ts (put_term ρ)) (h.0, h.1, h.2, h.3, put_all_in_scope ρ n ts h.4)
    put-formed (compare b d x y) kind ρ n h = (put_in_scope ρ n x h.0, put_in_scope ρ n y h.1)
    put-formed (join b ts) kind ρ n h = (rw (put_count ts ρ) h.0, put-formed-all ts kind ρ n h.1)
    put-formed (quantifier b v excluded c f) kind ρ n h = (
      h.0,
      h.1,
      h.2,
      h.3,
      omega (arith, h.4),
      put-formed c false ρ (n + v) (rw (← add_assoc (length ρ) n v) h.5),
      put-formed f true ρ (n + v) (rw (← add_assoc (length ρ) n v) h.6),
    )
    put-formed (some c) kind ρ n h =
        (h.0, omega (arith, h.1), put-formed c false ρ (n + 1) (rw (← add_assoc (length ρ) n 1) h.2))

    put-formed-all :
        (ts : Trees) (kind : Bool) (ρ : List ℤ) (n : ℕ) →
        FormedAll ts table kind (length ρ + n) →
        FormedAll (put_all ts ρ) table kind n
    put-formed-all nil kind ρ n h = tt
    put-formed-all (cons t ts) kind ρ n h = (put-formed t kind ρ n h.0, put-formed-all ts kind ρ n h.1)

-- levels stay as they are
mutual
  unfolding put greatest

  pub put-greatest :
      (t : Tree) (ρ : List ℤ) (role : Role) (above : ℕ) →
      greatest (put t ρ) role above ≡ greatest t role above
  put-greatest (plain b) ρ role above = refl
  put-greatest (atom b p ts) ρ role above = refl
  put-greatest (compare b d x y) ρ role above = refl
  put-greatest (join b ts) ρ role above = ap (max (above + 1)) (put-greatest-all ts ρ (under role b) (above + 1))
  put-greatest (quantifier b v excluded c f) ρ role above =
      ap₂ max
      (put-greatest c ρ restriction (above + quantifier_cost role b))
      (put-greatest f ρ formula (above + quantifier_cost role b))
  put-greatest (some c) ρ role above = put-greatest c ρ restriction (above + 1)

  put-greatest-all :
      (ts : Trees) (ρ : List ℤ) (role : Role) (above : ℕ) →
      greatest_all (put_all ts ρ) role above ≡ greatest_all ts role above
  put-greatest-all nil ρ role above = refl
  put-greatest-all (cons t ts) ρ role above = ap₂ max (put-greatest t ρ role above) (put-greatest-all ts ρ role above)

-- so does being closed
mutual
  unfolding put closed

  pub put-closed : (c : Tree) (ρ : List ℤ) (table : Words) → closed (put c ρ) table ≡ closed c table
  put-closed (plain b) ρ table = refl
  put-closed (atom b p ts) ρ table = refl
  put-closed (compare b d x y) ρ table = refl
  put-closed (join b ts) ρ table = put-closed-all ts ρ table
  put-closed (quantifier b v excluded c f) ρ table = refl
  put-closed (some c) ρ table = put-closed c ρ table

  put-closed-all : (ts : Trees) (ρ : List ℤ) (table : Words) → closed_all (put_all ts ρ) table ≡ closed_all ts table
  put-closed-all nil ρ table = refl
  put-closed-all (cons t ts) ρ table = ap₂ (λ (a b : Bool). a && b) (put-closed t ρ table) (put-closed-all ts ρ table)

-- The listing of a restriction from the outer environment alone: its environments are the tuples under which it is true.
-- So a closed restriction is true or false under all numbers: by induction, and at `some` by whether the list is empty.
use Rattle.std.specs.Prelude.{ℕ, zero, suc, ◌+◌, ◌≤◌, ◌<◌, ◌≡◌, ◌⊎◌, Bool, length, get_or, eqb, ltb, ℤ, pos}
use Rattle.std.proofs.Common.{zero-add, suc-add, add-suc, add-zero, arith, sym, ap, ap₂, ◌∙◌, subst, inl, inr, ⊎_elim, length-append, ext_get_or, ltb-true, lt-ltb, le-ltb, eqb-true}
use Rattle.std.proofs.Math.Path.{refl}
use Rattle.std.proofs.Math.Bool.{true, false}
use mathlib.Core.List.{List, [], ◌∷◌, ◌++◌, map, Memᴰ}
use Rattle.std.proofs.lemmas.List.{length-map}
use Rattle.std.proofs.Math.ListN.{get_or-append}
use Rattle.std.proofs.lemmas.Bool.{eqb-false, not-true}
use Rattle.model.specs.Words.{Words, same}
use Rattle.model.specs.Lists.{span, any}
use Rattle.model.specs.Table.{complete}
use Rattle.model.specs.Tree.{Term, constant, variable, Tree, Trees, plain, atom, compare, join, quantifier, some, nil, cons, count}
use Rattle.model.specs.Answer.{passed}
use Rattle.model.specs.Mode.{Variables, is_variable, bindings}
use Rattle.model.specs.Log.{known, says_true, holds, value_in}
use Rattle.model.specs.Truth.{number_of, sum_at_most, Is, Every, One}
use Rattle.model.specs.Listing.{bound, free, Environment, outer, number_in, list}
use Rattle.model.specs.Reduction.{tuple, closed, closed_all}
use Rattle.laws.specs.Words.Tests.{decide, clash, and_left, and_right, or_cases}
use Rattle.laws.specs.Reading.Formed.{InScope, AllInScope, Formed, FormedAll}
use Rattle.laws.specs.Lists.Span.{length-span, side}
use Rattle.laws.specs.Log.{Sound}
use Rattle.laws.specs.Mode.{after, after_all, after_any, Passes, PassesAll, PassesAny, bindings-passes}
use Rattle.laws.specs.Listing.Fitting.{Agrees, Supported, Found, bound-free, bound-same}
use Rattle.laws.specs.Listing.Exact.{Fits, list-fits, listed-true, true-listed, one_more}

-- a set holds only variables below n
abbrev pub Below : (n : ℕ) (b : Variables) → Type 0
Below n b = (x : ℕ) → b x ≡ true → x < n

-- such a set holds only variables below a greater number; the outer variables are such a set
below_more : {n : ℕ} {b : Variables} → Below n b → Below (n + 1) b
below_more h x e = let l = h x e in omega arith

pub below-outer : (n : ℕ) → Below n (λ x. ltb x n)
below-outer n x e = ltb-true x n e

-- what the outer environment has
pub outer-bound : (ρ : List ℤ) (x : ℕ) → x < length ρ → outer ρ x ≡ bound (get_or ρ x (pos 0))
unfolding outer
outer-bound ρ x h = rw (lt-ltb x (length ρ) h)

pub outer-free : (ρ : List ℤ) (x : ℕ) → length ρ ≤ x → outer ρ x ≡ free
unfolding outer
outer-free ρ x h = rw (le-ltb x (length ρ) h)

-- it binds every set of outer variables, and no other variable
pub outer-fits : (b : Variables) (ρ : List ℤ) (m : ℕ) → Below (length ρ) b → length ρ ≤ m → Fits b m (outer ρ ∷ [])
outer-fits b ρ m h l e k =
    let s = mathlib.Core.List.Memᴰ.eq_of_singleton k in (
      λ x q. (get_or ρ x (pos 0), ap (λ (f : Environment). f x) s ∙ outer-bound ρ x (h x q)),
      λ x r. ap (λ (f : Environment). f x) s ∙ outer-free ρ x (omega arith),
    )

-- it agrees with exactly the lists that begin with its numbers
outer_agrees : (ρ τ : List ℤ) → Agrees (outer ρ) (ρ ++ τ)
outer_agrees ρ τ x k p =
    ⊎_elim
    (λ h. get_or-append ρ τ (pos 0) x h ∙ bound-same (sym (outer-bound ρ x h) ∙ p))
    (λ h. bound-free p (outer-free ρ x h))
    (side (length ρ) x)

-- and numbers that agree with it have its numbers
agrees_outer : (ρ σ : List ℤ) (x : ℕ) → Agrees (outer ρ) σ → x < length ρ → get_or σ x (pos 0) ≡ get_or ρ x (pos 0)
agrees_outer ρ σ x g h = g x (get_or ρ x (pos 0)) (outer-bound ρ x h)

-- the numbers that an environment has for a span of variables
pub tuple-length : (i v : ℕ) (e : Environment) → length (tuple i v e) ≡ v
unfolding tuple
tuple-length i v e = length-map (span i v) (λ x. number_in (e x)) ∙ length-span i v

-- its elements
pub tuple-number : (i v : ℕ) (e : Environment) (x : ℕ) → x < v → get_or (tuple i v e) x (pos 0) ≡ number_in (e (i + x))
unfolding tuple span
tuple-number i zero e x h = absurd (omega arith)
tuple-number i (suc v) e zero h = ap (λ (y : ℕ). number_in (e y)) (sym (add-zero i))
tuple-number i (suc v) e (suc x) h =
    tuple-number (suc i) v e x (omega arith) ∙ ap (λ (y : ℕ). number_in (e y)) (suc-add i x ∙ sym (add-suc i x))

-- a longer span's numbers are those of its two parts
tuple-split : (i n v : ℕ) (e : Environment) → tuple i (n + v) e ≡ tuple i n e ++ tuple (i + n) v e
unfolding tuple span
tuple-split i zero v e = ap₂ (λ (j w : ℕ). tuple j w e) (sym (add-zero i)) (zero-add v)
tuple-split i (suc n) v e =
    ap (λ (m : ℕ). tuple i m e) (suc-add n v)
    ∙ ap (λ (r : List ℤ). number_in (e i) ∷ r)
    (tuple-split (suc i) n v e
    ∙ ap (λ (j : ℕ). tuple (suc i) n e ++ tuple j v e) (suc-add i n ∙ sym (add-suc i n)))

-- an environment agrees with its own numbers for the scope
tuple_agrees : (n : ℕ) (e : Environment) → Supported n e → Agrees e (tuple 0 n e)
unfolding number_in
tuple_agrees n e s x k p =
    ⊎_elim
    (λ h. tuple-number 0 n e x h ∙ ap (λ (y : ℕ). number_in (e y)) (zero-add x) ∙ ap number_in p)
    (λ h. bound-free p (s x h))
    (side n x)

-- numbers that agree with the outer environment begin with its numbers
outer-tuple :
    (ρ : List ℤ) (v : ℕ) (e : Environment) →
    Agrees (outer ρ) (tuple 0 (length ρ + v) e) →
    tuple 0 (length ρ + v) e ≡ ρ ++ tuple (length ρ) v e
outer-tuple ρ v e g = tuple-split 0 n v e ∙ ap₂ (λ (l : List ℤ) (j : ℕ). l ++ tuple j v e) front (zero-add n)
  where
    n : ℕ
    n = length ρ

    same_number : (x : ℕ) → x < n → get_or (tuple 0 n e) x (pos 0) ≡ get_or ρ x (pos 0)
    same_number x l =
        tuple-number 0 n e x l
        ∙ sym (tuple-number 0 (n + v) e x (omega arith))
        ∙ agrees_outer ρ (tuple 0 (n + v) e) x g l

    front : tuple 0 n e ≡ ρ
    front =
        ext_get_or (pos 0) (tuple 0 n e) ρ (tuple-length 0 n e)
        (λ x h. same_number x (subst (λ (m : ℕ). x < m) (tuple-length 0 n e) h))

module _ (table : Words) (rows : List Words) (sound : Sound table rows) where
  module _ (c : Tree) (b : Variables) (ρ : List ℤ) (v : ℕ) where
    -- an environment listed from the outer one has numbers that make the restriction true
    pub found-true :
        Formed c table false (length ρ + v) →
        Passes table c b (length ρ + v) →
        Below (length ρ) b →
        {e : Environment} →
        Memᴰ e (list table rows c (length ρ + v) (outer ρ ∷ [])) →
        Is c (value_in table rows) true (ρ ++ tuple (length ρ) v e)
    found-true f h w {e} m =
        let n = length ρ + v in
        let fits = outer-fits b ρ n w (omega arith) in
        let g : Agrees e (tuple 0 n e) = tuple_agrees n e (list-fits table rows c b n (outer ρ ∷ []) f h fits e m).1 in
        let long = tuple-length 0 n e in
        let ((e₀, m₀, g₀), i) = listed-true table rows sound c b n (outer ρ ∷ []) (tuple 0 n e) f h fits long (e, m, g) in
        subst (Is c (value_in table rows) true)
        (outer-tuple ρ v e (subst (λ (f : Environment). Agrees f (tuple 0 n e)) (mathlib.Core.List.Memᴰ.eq_of_singleton m₀) g₀)) i

    -- and numbers that make it true agree with an environment listed
    pub true-found :
        Formed c table false (length ρ + v) →
        Passes table c b (length ρ + v) →
        Below (length ρ) b →
        (τ : List ℤ) →
        length τ ≡ v →
        Is c (value_in table rows) true (ρ ++ τ) →
        Found (list table rows c (length ρ + v) (outer ρ ∷ [])) (ρ ++ τ)
    true-found f h w τ l i =
        true-listed table rows sound c b (length ρ + v) (outer ρ ∷ []) (ρ ++ τ) f h
        (outer-fits b ρ (length ρ + v) w (omega arith))
        (length-append ρ τ ∙ ap (λ (k : ℕ). length ρ + k) l)
        (outer ρ, mathlib.Core.List.Memᴰ.head refl, outer_agrees ρ τ) i

-- a restriction binds variables of its scope only
scope-variable : (n x : ℕ) (ts : List Term) → AllInScope n ts → any (is_variable x) ts ≡ true → x < n
unfolding any AllInScope InScope is_variable
scope-variable n x [] h e = clash e refl
scope-variable n x (constant k ∷ ts) h e = scope-variable n x ts h.1 e
scope-variable n x (variable y ∷ ts) h e =
    ⊎_elim
    (λ q. let s = eqb-true x y q in let i = h.0 in omega arith)
    (λ q. scope-variable n x ts h.1 q)
    (or_cases (eqb x y) _ e)

module _ (table : Words) where
  mutual
    unfolding after Formed count

    pub after-below :
        (c : Tree) (b : Variables) (next : ℕ) →
        Formed c table false next →
        Below next b →
        Below next (after c b next)
    after-below (plain v) b next f h = h
    after-below (atom true p ts) b next f h = λ x e.
        ⊎_elim (λ q. h x q) (λ q. scope-variable next x ts f.4 q) (or_cases (b x) _ e)
    after-below (atom false p ts) b next f h = h
    after-below (compare v d x y) b next f h = h
    after-below (join true ts) b next f h = after-below-all ts b next f.1 h
    after-below (join false ts) b next f h = after-below-any ts b next (omega (arith, f.0)) f.1 h
    after-below (quantifier v n excluded c g) b next f h = h
    after-below (some c) b next f h = λ x e.
        let l = after-below c b (next + 1) f.2 (below_more h) x (and_left _ _ e) in
        let n : ¬ (x ≡ next) = eqb-false x next (not-true _ (and_right (after c b (next + 1) x) _ e)) in
        omega arith

    after-below-all :
        (ts : Trees) (b : Variables) (next : ℕ) →
        FormedAll ts table false next →
        Below next b →
        Below next (after_all ts b next)
    after-below-all nil b next f h = h
    after-below-all (cons t ts) b next f h = after-below-all ts (after t b next) next f.1 (after-below t b next f.0 h)

    after-below-any :
        (ts : Trees) (b : Variables) (next : ℕ) →
        1 ≤ count ts →
        FormedAll ts table false next →
        Below next b →
        Below next (after_any ts b next)
    after-below-any nil b next l f h = absurd (omega arith)
    after-below-any (cons t ts) b next l f h = λ x e. after-below t b next f.0 h x (and_left _ _ e)

-- with a complete predicate every atom is known
pub complete-known :
    (table : Words) (rows : List Words) (p : ℕ) (ns : List ℤ) →
    complete table p ≡ true →
    (v : Bool) × (value_in table rows p ns ≡ known v)
unfolding value_in
complete-known table [] p ns e = (false, rw e)
complete-known table (row ∷ rest) p ns e =
    ⊎_elim
    (λ h. (says_true row, rw h))
    (λ h. let (v, q) = complete-known table rest p ns e in (v, rw h q))
    (decide (holds p ns row))

-- a Bool is what makes an atom true or what makes it false
either_same : (v b : Bool) → (v ≡ same true b) ⊎ (v ≡ same false b)
either_same true true = inl refl
either_same true false = inr refl
either_same false true = inr refl
either_same false false = inl refl

-- of two decided things all hold or one fails; one holds or all fail
all_or_one : {A B C D : Type 0} → A ⊎ C → B ⊎ D → (A × B) ⊎ (C ⊎ D)
all_or_one (inl a) (inl b) = inl (a, b)
all_or_one (inl a) (inr d) = inr (inr d)
all_or_one (inr c) e = inr (inl c)

one_or_all : {A B C D : Type 0} → A ⊎ C → B ⊎ D → (A ⊎ B) ⊎ (C × D)
one_or_all (inl a) e = inl (inl a)
one_or_all (inr c) (inl b) = inl (inr b)
one_or_all (inr c) (inr d) = inr (c, d)

module _ (table : Words) (rows : List Words) (sound : Sound table rows) where
  -- a restriction that is true or false under each number for one more variable is true under one or false under all
  decided-some :
      (c : Tree) (b : Variables) (σ : List ℤ) →
      Formed c table false (length σ + 1) →
      Passes table c b (length σ + 1) →
      Below (length σ) b →
      ((k : ℤ) → Is c (value_in table rows) true (σ ++ k ∷ []) ⊎ Is c (value_in table rows) false (σ ++ k ∷ [])) →
      Is (some c) (value_in table rows) true σ ⊎ Is (some c) (value_in table rows) false σ
  unfolding Is tuple span
  decided-some c b σ f h w either = go (list table rows c (length σ + 1) (outer σ ∷ [])) refl
    where
      never :
          list table rows c (length σ + 1) (outer σ ∷ []) ≡ [] →
          (k : ℤ) →
          Is c (value_in table rows) true (σ ++ k ∷ []) →
          Is c (value_in table rows) false (σ ++ k ∷ [])
      never q k i =
          let (e, m, g) = true-found table rows sound c b σ 1 f h w (k ∷ []) refl i in
          absurd (mathlib.Core.List.Memᴰ.not-nil (subst (Memᴰ e) q m))

      go :
          (l : List Environment) →
          list table rows c (length σ + 1) (outer σ ∷ []) ≡ l →
          ((k : ℤ) × Is c (value_in table rows) true (σ ++ k ∷ [])) ⊎ ((k : ℤ) → Is c (value_in table rows) false (σ ++ k ∷ []))
      go [] q = inr (λ k. ⊎_elim (λ i. never q k i) (λ i. i) (either k))
      go (e ∷ es) q =
          let m : Memᴰ e (list table rows c (length σ + 1) (outer σ ∷ [])) = rw q (mathlib.Core.List.Memᴰ.head refl) in
          inl (number_in (e (length σ)), found-true table rows sound c b σ 1 f h w m)

  -- a closed restriction is true or false under all numbers
  mutual
    unfolding Passes Formed closed Is after

    pub decided-passes :
        (c : Tree) (b : Variables) (next : ℕ) →
        closed c table ≡ true →
        Formed c table false next →
        Passes table c b next →
        Below next b →
        (σ : List ℤ) →
        length σ ≡ next →
        Is c (value_in table rows) true σ ⊎ Is c (value_in table rows) false σ
    decided-passes (plain true) b next cl f h w σ l = inl refl
    decided-passes (plain false) b next cl f h w σ l = inr refl
    decided-passes (atom v p ts) b next cl f h w σ l =
        let (u, q) = complete-known table rows p (map (number_of σ) ts) cl in
        ⊎_elim (λ s. inl (q ∙ ap known s)) (λ s. inr (q ∙ ap known s)) (either_same u v)
    decided-passes (compare v d x y) b next cl f h w σ l = either_same (sum_at_most d (number_of σ x) (number_of σ y)) v
    decided-passes (join true ts) b next cl f h w σ l = decided-every ts b next cl f.1 h w σ l
    decided-passes (join false ts) b next cl f h w σ l = decided-one ts b next cl f.1 h w σ l
    decided-passes (quantifier v n excluded c g) b next cl f h w σ l = clash f.0 refl
    decided-passes (some c) b next cl f h w σ l =
        decided-some c b σ
        (subst (λ (n : ℕ). Formed c table false (n + 1)) (sym l) f.2)
        (subst (λ (n : ℕ). Passes table c b (n + 1)) (sym l) h.0)
        (subst (λ (n : ℕ). Below n b) (sym l) w)
        (λ k. decided-passes c b (next + 1) cl f.2 h.0 (below_more w) (σ ++ k ∷ []) (one_more σ k l))

    decided-every :
        (ts : Trees) (b : Variables) (next : ℕ) →
        closed_all ts table ≡ true →
        FormedAll ts table false next →
        PassesAll table ts b next →
        Below next b →
        (σ : List ℤ) →
        length σ ≡ next →
        Every ts (value_in table rows) true σ ⊎ One ts (value_in table rows) false σ
    decided-every nil b next cl f h w σ l = inl tt
    decided-every (cons t ts) b next cl f h w σ l =
        let below = after-below table t b next f.0 w in
        all_or_one
        (decided-passes t b next (and_left _ _ cl) f.0 h.0 w σ l)
        (decided-every ts (after t b next) next (and_right (closed t table) _ cl) f.1 h.1 below σ l)

    decided-one :
        (ts : Trees) (b : Variables) (next : ℕ) →
        closed_all ts table ≡ true →
        FormedAll ts table false next →
        PassesAny table ts b next →
        Below next b →
        (σ : List ℤ) →
        length σ ≡ next →
        One ts (value_in table rows) true σ ⊎ Every ts (value_in table rows) false σ
    decided-one nil b next cl f h w σ l = inr tt
    decided-one (cons t ts) b next cl f h w σ l =
        one_or_all
        (decided-passes t b next (and_left _ _ cl) f.0 h.0 w σ l)
        (decided-one ts b next (and_right (closed t table) _ cl) f.1 h.1 w σ l)

  -- the same, said of the questions of the mode rule
  pub decided :
      (c : Tree) (b : Variables) (next at : ℕ) {b' : Variables} →
      closed c table ≡ true →
      Formed c table false next →
      bindings c table b next at ≡ passed b' →
      Below next b →
      (σ : List ℤ) →
      length σ ≡ next →
      Is c (value_in table rows) true σ ⊎ Is c (value_in table rows) false σ
  decided c b next at cl f e w σ l = decided-passes c b next cl f (bindings-passes table c b next at e).0 w σ l

-- Putting numbers in keeps the mode rule and the number of words: the outer variables are bound, and become constants.
use Prim.Native.Nat.{ℕ, zero, suc, ◌+◌, ◌*◌, ◌-◌, ◌≤◌, ◌<◌}
use Rattle.std.proofs.Common.{add_assoc, add-suc, arith, ◌∙◌, subst, length-append, eqb-true, eq-eqb, ne_eqb, ltb-true, ltb-false, lt-ltb, le-ltb}
use Rattle.std.specs.Prelude.{◌≡◌, Bool, true, false, not, ◌&&◌, ◌||◌, ltb, ℤ}
use Rattle.std.proofs.Math.Path.{refl, sym, ap, ap₂, fun_ext}
use Rattle.std.proofs.Math.Logic.{⊎_elim}
use mathlib.Core.List.{List, [], ◌∷◌, ◌++◌, map}
use Rattle.std.proofs.Math.ListN.{length}
use Rattle.std.proofs.lemmas.List.{length-map}
use Rattle.std.proofs.Math.Dec.{eqb}
use Rattle.std.proofs.lemmas.Bool.{eqb-false}
use Rattle.model.specs.Words.{Words}
use Rattle.model.specs.Lists.{span, all, any, gather}
use Rattle.model.specs.Table.{input}
use Rattle.model.specs.Tree.{Term, constant, variable, Tree, Trees, plain, atom, compare, join, quantifier, some, nil, cons, encode_term}
use Rattle.model.specs.Tree.{encode, encode_all}
use Rattle.model.specs.Mode.{Variables, is_bound, is_variable, inputs_bound}
use Rattle.model.specs.Putting.{put_term, put, put_all}
use Rattle.laws.specs.Words.Tests.{decide, and-true, or_left}
use Rattle.laws.specs.Lists.Span.{side}
use Rattle.laws.specs.Putting.Parts.{put-outer, put-inner}
use Rattle.laws.specs.Mode.{after, after_all, after_any, Passes, PassesAll, PassesAny, Moded, ModedAll}

-- tests on shifted numbers
pub eqb-shift : (n x y : ℕ) → eqb (n + x) (n + y) ≡ eqb x y
eqb-shift n x y =
    ⊎_elim
    (λ e. eq-eqb (n + x) (n + y) (ap (λ (z : ℕ). n + z) (eqb-true x y e)) ∙ sym e)
    (λ e. ne_eqb (n + x) (n + y) (λ q. eqb-false x y e (omega arith)) ∙ sym e)
    (decide (eqb x y))

pub ltb-shift : (n x y : ℕ) → ltb (n + x) (n + y) ≡ ltb x y
ltb-shift n x y =
    ⊎_elim
    (λ e. lt-ltb (n + x) (n + y) (let l = ltb-true x y e in omega arith) ∙ sym e)
    (λ e. le-ltb (n + x) (n + y) (let l = ltb-false x y e in omega arith) ∙ sym e)
    (decide (ltb x y))

module _ (ρ : List ℤ) where
  -- a set of variables with the outer ones left out; and a set that holds all outer ones
  abbrev pub inner : (b : Variables) → Variables
  inner b x = b (length ρ + x)

  abbrev pub HoldsOuter : (b : Variables) → Type 0
  HoldsOuter b = (x : ℕ) → x < length ρ → b x ≡ true

  -- a term is the variable x afterwards if it was the variable x behind the outer ones
  is_variable-put : (x : ℕ) (t : Term) → is_variable x (put_term ρ t) ≡ is_variable (length ρ + x) t
  unfolding is_variable put_term
  is_variable-put x (constant k) = refl
  is_variable-put x (variable y) =
      ⊎_elim
      (λ h. ap (is_variable x) (put-outer ρ y h) ∙ sym (ne_eqb (length ρ + x) y (λ q. omega arith)))
      (λ h. ap (is_variable x) (put-inner ρ y h) ∙ inner-same h)
      (side (length ρ) y)
    where
      inner-same : length ρ ≤ y → eqb x (y - length ρ) ≡ eqb (length ρ + x) y
      inner-same h = sym (eqb-shift (length ρ) x (y - length ρ)) ∙ ap (eqb (length ρ + x)) (omega arith)

  -- a term is bound afterwards if it was before, the outer variables being bound
  is_bound-put : (b : Variables) (t : Term) → HoldsOuter b → is_bound (inner b) (put_term ρ t) ≡ is_bound b t
  unfolding is_bound put_term
  is_bound-put b (constant k) h = refl
  is_bound-put b (variable y) h =
      ⊎_elim
      (λ l. ap (is_bound (inner b)) (put-outer ρ y l) ∙ sym (h y l))
      (λ l. ap (is_bound (inner b)) (put-inner ρ y l) ∙ ap b (omega arith))
      (side (length ρ) y)

  -- the same of all terms
  any-put : (x : ℕ) (ts : List Term) → any (is_variable x) (map (put_term ρ) ts) ≡ any (is_variable (length ρ + x)) ts
  unfolding any
  any-put x [] = refl
  any-put x (t ∷ ts) = ap₂ (λ (a b : Bool). a || b) (is_variable-put x t) (any-put x ts)

  -- all terms are bound afterwards if they were before, and so are those at input positions
  all-put :
      (b : Variables) (ts : List Term) →
      HoldsOuter b →
      all (is_bound (inner b)) (map (put_term ρ) ts) ≡ all (is_bound b) ts
  unfolding all
  all-put b [] h = refl
  all-put b (t ∷ ts) h = ap₂ (λ (a c : Bool). a && c) (is_bound-put b t h) (all-put b ts h)

  inputs_put :
      (table : Words) (p : ℕ) (b : Variables) (i : ℕ) (ts : List Term) →
      HoldsOuter b →
      inputs_bound table p (inner b) i (map (put_term ρ) ts) ≡ inputs_bound table p b i ts
  unfolding inputs_bound
  inputs_put table p b i [] h = refl
  inputs_put table p b i (t ∷ ts) h =
      ap₂ (λ (a c : Bool). (not (input table p i) || a) && c) (is_bound-put b t h) (inputs_put table p b (suc i) ts h)

  -- the variables bound after a restriction are the same but for the outer ones
  mutual
    unfolding after put

    put-after : (c : Tree) (b : Variables) (next : ℕ) → after (put c ρ) (inner b) next ≡ inner (after c b (length ρ + next))
    put-after (plain v) b next = refl
    put-after (atom true p ts) b next = fun_ext (λ x. ap (λ (a : Bool). b (length ρ + x) || a) (any-put x ts))
    put-after (atom false p ts) b next = refl
    put-after (compare v d x y) b next = refl
    put-after (join true ts) b next = put-after-all ts b next
    put-after (join false ts) b next = put-after-any ts b next
    put-after (quantifier v n excluded c f) b next = refl
    put-after (some c) b next = fun_ext (λ x.
        ap₂ (λ (a : Variables) (e : Bool). a x && not e)
        (put-after c b (next + 1) ∙ ap (λ (m : ℕ). inner (after c b m)) (sym (add_assoc (length ρ) next 1)))
        (sym (eqb-shift (length ρ) x next)))

    put-after-all :
        (ts : Trees) (b : Variables) (next : ℕ) →
        after_all (put_all ts ρ) (inner b) next ≡ inner (after_all ts b (length ρ + next))
    put-after-all nil b next = refl
    put-after-all (cons t ts) b next =
        ap (λ (a : Variables). after_all (put_all ts ρ) a next) (put-after t b next)
        ∙ put-after-all ts (after t b (length ρ + next)) next

    put-after-any :
        (ts : Trees) (b : Variables) (next : ℕ) →
        after_any (put_all ts ρ) (inner b) next ≡ inner (after_any ts b (length ρ + next))
    put-after-any nil b next = refl
    put-after-any (cons t ts) b next =
        ap₂ {C = Variables} (λ (a c : Variables) (x : ℕ). a x && c x) (put-after t b next) (put-after-any ts b next)

  -- outer variables stay bound
  mutual
    unfolding after

    pub after-outer : (c : Tree) (b : Variables) (next : ℕ) → HoldsOuter b → HoldsOuter (after c b (length ρ + next))
    after-outer (plain v) b next h = h
    after-outer (atom true p ts) b next h = λ x l. or_left (b x) _ (h x l)
    after-outer (atom false p ts) b next h = h
    after-outer (compare v d x y) b next h = h
    after-outer (join true ts) b next h = after-outer-all ts b next h
    after-outer (join false ts) b next h = after-outer-any ts b next h
    after-outer (quantifier v n excluded c f) b next h = h
    after-outer (some c) b next h = λ x l.
        and-true
        (subst (λ (m : ℕ). after c b m x ≡ true) (sym (add_assoc (length ρ) next 1)) (after-outer c b (next + 1) h x l))
        (ap not (ne_eqb x (length ρ + next) (λ q. omega arith)))

    after-outer-all : (ts : Trees) (b : Variables) (next : ℕ) → HoldsOuter b → HoldsOuter (after_all ts b (length ρ + next))
    after-outer-all nil b next h = h
    after-outer-all (cons t ts) b next h = after-outer-all ts (after t b (length ρ + next)) next (after-outer t b next h)

    after-outer-any : (ts : Trees) (b : Variables) (next : ℕ) → HoldsOuter b → HoldsOuter (after_any ts b (length ρ + next))
    after-outer-any nil b next h = λ x l. refl
    after-outer-any (cons t ts) b next h = λ x l. and-true (after-outer t b next h x l) (after-outer-any ts b next h x l)

  module _ (table : Words) where
    -- the mode rule passes at a restriction with the numbers put in
    mutual
      unfolding after Passes put

      pub put-passes :
          (c : Tree) (b : Variables) (next : ℕ) →
          HoldsOuter b →
          Passes table c b (length ρ + next) →
          Passes table (put c ρ) (inner b) next
      put-passes (plain v) b next h p = tt
      put-passes (atom true q ts) b next h p = inputs_put table q b 0 ts h ∙ p
      put-passes (atom false q ts) b next h p = all-put b ts h ∙ p
      put-passes (compare v d x y) b next h p = (is_bound-put b x h ∙ p.0, is_bound-put b y h ∙ p.1)
      put-passes (join true ts) b next h p = put-passes-all ts b next h p
      put-passes (join false ts) b next h p = put-passes-any ts b next h p
      put-passes (quantifier v n excluded c f) b next h p = tt
      put-passes (some c) b next h p =
          let e = add_assoc (length ρ) next 1 in (
            put-passes c b (next + 1) h (subst (Passes table c b) e p.0),
            ap (λ (a : Variables). a next) (put-after c b (next + 1))
                ∙ subst (λ (m : ℕ). after c b m (length ρ + next) ≡ true) e p.1,
          )

      put-passes-all :
          (ts : Trees) (b : Variables) (next : ℕ) →
          HoldsOuter b →
          PassesAll table ts b (length ρ + next) →
          PassesAll table (put_all ts ρ) (inner b) next
      put-passes-all nil b next h p = tt
      put-passes-all (cons t ts) b next h p = (
        put-passes t b next h p.0,
        subst (λ (a : Variables). PassesAll table (put_all ts ρ) a next) (sym (put-after t b next))
            (put-passes-all ts (after t b (length ρ + next)) next (after-outer t b next h) p.1),
      )

      put-passes-any :
          (ts : Trees) (b : Variables) (next : ℕ) →
          HoldsOuter b →
          PassesAny table ts b (length ρ + next) →
          PassesAny table (put_all ts ρ) (inner b) next
      put-passes-any nil b next h p = tt
      put-passes-any (cons t ts) b next h p = (put-passes t b next h p.0, put-passes-any ts b next h p.1)

    -- the outer variables and those below the scope, seen from inside
    below_put : (scope : ℕ) → ◌≡◌ {A = Variables} (inner (λ x. ltb x (length ρ + scope))) (λ x. ltb x scope)
    below_put scope = fun_ext (λ x. ltb-shift (length ρ) x scope)

    -- a scope holds the outer variables
    outer_below : (scope : ℕ) → HoldsOuter (λ x. ltb x (length ρ + scope))
    outer_below scope x l = lt-ltb x (length ρ + scope) (omega arith)

    -- a span of variables, seen from inside
    span-put : (b : Variables) (i v : ℕ) → all (inner b) (span i v) ≡ all b (span (length ρ + i) v)
    unfolding all span
    span-put b i zero = refl
    span-put b i (suc v) =
        ap (λ (r : Bool). b (length ρ + i) && r)
        (span-put b (suc i) v ∙ ap (λ (j : ℕ). all b (span j v)) (add-suc (length ρ) i))

    -- the mode rule of a formula
    mutual
      unfolding Moded put

      pub put-moded : (f : Tree) (scope : ℕ) → Moded table f (length ρ + scope) → Moded table (put f ρ) scope
      put-moded (plain b) scope h = tt
      put-moded (atom b p ts) scope h = tt
      put-moded (compare b d x y) scope h = tt
      put-moded (join b ts) scope h = put-moded-all ts scope h
      put-moded (quantifier b v excluded c f) scope h =
          let s : Variables = λ x. ltb x (length ρ + scope) in
          let e = add_assoc (length ρ) scope v in (
            subst (λ (a : Variables). Passes table (put c ρ) a (scope + v)) (below_put scope)
                (put-passes c s (scope + v) (outer_below scope) (subst (Passes table c s) e h.0)),
            ap (λ (a : Variables). all (after (put c ρ) a (scope + v)) (span scope v)) (sym (below_put scope))
                ∙ ap (λ (a : Variables). all a (span scope v)) (put-after c s (scope + v))
                ∙ span-put (after c s (length ρ + (scope + v))) scope v
                ∙ subst (λ (m : ℕ). all (after c s m) (span (length ρ + scope) v) ≡ true) e h.1,
            put-moded f (scope + v) (subst (Moded table f) e h.2),
          )
      put-moded (some c) scope h = tt

      put-moded-all : (ts : Trees) (scope : ℕ) → ModedAll table ts (length ρ + scope) → ModedAll table (put_all ts ρ) scope
      put-moded-all nil scope h = tt
      put-moded-all (cons t ts) scope h = (put-moded t scope h.0, put-moded-all ts scope h.1)

-- lists joined of lists of the same lengths
append-length :
    (xs xs' ys ys' : List ℤ) →
    length xs ≡ length xs' →
    length ys ≡ length ys' →
    length (xs ++ ys) ≡ length (xs' ++ ys')
append-length xs xs' ys ys' p q = length-append xs ys ∙ ap₂ (λ (m n : ℕ). m + n) p q ∙ sym (length-append xs' ys')

-- a term has two words
pub encode_term-length : (t : Term) → length (encode_term t) ≡ 2
unfolding encode_term
encode_term-length (constant k) = refl
encode_term-length (variable x) = refl

-- and so have all terms
pub terms-length : (ts : List Term) → length (gather encode_term ts) ≡ 2 * length ts
unfolding gather
terms-length [] = refl
terms-length (t ∷ ts) =
    length-append (encode_term t) (gather encode_term ts)
    ∙ ap₂ (λ (m n : ℕ). m + n) (encode_term-length t) (terms-length ts)
    ∙ omega arith

-- a tree has as many words as before
mutual
  unfolding put encode

  pub put-length : (t : Tree) (ρ : List ℤ) → length (encode (put t ρ)) ≡ length (encode t)
  put-length (plain b) ρ = refl
  put-length (atom b p ts) ρ =
      ap (λ (n : ℕ). suc (suc (suc n)))
      (terms-length (map (put_term ρ) ts) ∙ ap (λ (n : ℕ). 2 * n) (length-map ts (put_term ρ)) ∙ sym (terms-length ts))
  put-length (compare b d x y) ρ =
      ap (λ (n : ℕ). suc (suc n))
      (append-length (encode_term (put_term ρ x)) (encode_term x) (encode_term (put_term ρ y)) (encode_term y)
      (encode_term-length (put_term ρ x) ∙ sym (encode_term-length x))
      (encode_term-length (put_term ρ y) ∙ sym (encode_term-length y)))
  put-length (join b ts) ρ = ap (λ (n : ℕ). suc (suc n)) (put-length-all ts ρ)
  put-length (quantifier b v excluded c f) ρ =
      let tuples = gather (λ tuple. tuple) excluded in
      ap (λ (n : ℕ). suc (suc (suc n)))
      (append-length (tuples ++ encode (put c ρ)) (tuples ++ encode c) (encode (put f ρ)) (encode f)
      (append-length tuples tuples (encode (put c ρ)) (encode c) refl (put-length c ρ))
      (put-length f ρ))
  put-length (some c) ρ = ap suc (put-length c ρ)

  put-length-all : (ts : Trees) (ρ : List ℤ) → length (encode_all (put_all ts ρ)) ≡ length (encode_all ts)
  put-length-all nil ρ = refl
  put-length-all (cons t ts) ρ =
      append-length (encode (put t ρ)) (encode t) (encode_all (put_all ts ρ)) (encode_all ts)
      (put-length t ρ)
      (put-length-all ts ρ)

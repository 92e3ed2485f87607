-- Reduction with numbers in scope is reduction of the tree with the numbers put in (theorem 2); the need of places too.
-- An environment that binds the outer variables to the numbers is, seen from inside, one for the tree with the numbers
-- put in: the listings correspond, by induction on the restriction, and so do the instances.
use Prim.Native.Nat.{ℕ, zero, suc, ◌+◌, ◌-◌, ◌≤◌, ◌<◌, max}
use Rattle.std.proofs.Common.{add_assoc, add-suc, arith, ◌∙◌, subst, length-append, get_or-append-add}
use Rattle.std.specs.Prelude.{◌≡◌, ◌&&◌, get_or, eqb, ltb, ℤ, pos}
use Rattle.std.proofs.Math.Path.{refl, sym, ap, ap₂, fun_ext}
use Rattle.std.proofs.Math.Logic.{⊎_elim}
use Rattle.std.proofs.Math.Bool.{Bool, true, false, cond}
use mathlib.Core.List.Memᴰ
use mathlib.Core.List.{List, [], ◌∷◌, ◌++◌, map, append_assoc, append-nil, Memᴰ}
use Rattle.std.proofs.Math.ListN.{length, get_or-append}
use Rattle.std.proofs.lemmas.List.{length-map}
use Rattle.model.specs.Words.{Words, word, same, equal}
use Rattle.model.specs.Lists.{span, keep, gather}
use Rattle.model.specs.Tree.{Term, constant, variable, Tree, Trees, plain, atom, compare, join, quantifier, some, nil, cons}
use Rattle.model.specs.Log.{arguments, says_true, value_in}
use Rattle.model.specs.Truth.{number_of, sum_at_most}
use Rattle.model.specs.Listing.{Slot, bound, free, Environment, outer, bind, release, number_in, look, numbers_in, meet, fit, matches}
use Rattle.model.specs.Listing.{is_false, list, list_all, list_any, entries, entries_all, entries_any}
use Rattle.model.specs.Putting.{put_term, put, put_all}
use Rattle.model.specs.Joining.{append, joined}
use Rattle.model.specs.Reduction.{settle, closed, fresh, each, most, tuple, instances, reduce, reduce_all, need, need_all}
use Rattle.laws.specs.Lists.Membership.{keep_mem, gather_mem, map_mem}
use Rattle.laws.specs.Lists.Span.{side}
use Rattle.laws.specs.Putting.Parts.{put-outer, put-inner, map-map, number_of-put, put-put, put-closed}
use Rattle.laws.specs.Putting.Modes.{eqb-shift, ltb-shift}
use Rattle.laws.specs.Listing.Fitting.{bound-free, bind-other, release_other, Met, as_it_is, binding, met}
use Rattle.laws.specs.Listing.Exact.{matches_mem}
use Rattle.laws.specs.Listing.Outer.{outer-bound}

-- lists that are made alike of elements that correspond
module _ {A B : Type 0} (f : A → B) where
  -- what f makes of two lists joined
  map-append : (l m : List A) → map f (l ++ m) ≡ map f l ++ map f m
  map-append [] m = refl
  map-append (x ∷ l) m = ap (λ (r : List B). f x ∷ r) (map-append l m)

  -- gathering corresponds if what is gathered does
  gather-map :
      (g : A → List A) (h : B → List B) (l : List A) →
      ((x : A) → Memᴰ x l → h (f x) ≡ map f (g x)) →
      gather h (map f l) ≡ map f (gather g l)
  unfolding gather
  gather-map g h [] e = refl
  gather-map g h (x ∷ l) e =
      ap₂ (λ (a b : List B). a ++ b) (e x (Memᴰ.head refl)) (gather-map g h l (λ y m. e y (Memᴰ.tail m)))
      ∙ sym (map-append (g x) (gather g l))

  -- keeping corresponds if the tests do
  keep-map :
      (s : A → Bool) (t : B → Bool) (l : List A) →
      ((x : A) → Memᴰ x l → t (f x) ≡ s x) →
      keep t (map f l) ≡ map f (keep s l)
  unfolding keep
  keep-map s t [] e = refl
  keep-map s t (x ∷ l) e =
      ap₂ (λ (b : Bool) (r : List B). cond b (f x ∷ r) r)
      (e x (Memᴰ.head refl))
      (keep-map s t l (λ y m. e y (Memᴰ.tail m)))
      ∙ either (s x)
    where
      either : (b : Bool) → cond b (f x ∷ map f (keep s l)) (map f (keep s l)) ≡ map f (cond b (x ∷ keep s l) (keep s l))
      either true = refl
      either false = refl

module _ (ρ : List ℤ) where
  -- an environment seen from inside, with the outer variables left out; and one that has the numbers for them
  abbrev shift : Environment → Environment
  shift e x = e (length ρ + x)

  abbrev Has : Environment → Type 0
  Has e = (x : ℕ) → x < length ρ → e x ≡ bound (get_or ρ x (pos 0))

  abbrev AllHave : List Environment → Type 0
  AllHave es = (e : Environment) → Memᴰ e es → Has e

  -- what an environment has for a term is the same before and after
  look-put : (e : Environment) (t : Term) → Has e → look (shift e) (put_term ρ t) ≡ look e t
  unfolding look put_term
  look-put e (constant k) h = refl
  look-put e (variable x) h =
      ⊎_elim
      (λ l. ap (look (shift e)) (put-outer ρ x l) ∙ sym (h x l))
      (λ l. ap (look (shift e)) (put-inner ρ x l) ∙ ap e (omega arith))
      (side (length ρ) x)

  -- binding and releasing an inner variable, seen from inside
  bind-shift : (e : Environment) (x : ℕ) (a : ℤ) → length ρ ≤ x → bind (shift e) (x - length ρ) a ≡ shift (bind e x a)
  unfolding bind
  bind-shift e x a l = fun_ext (λ y.
      ap (λ (t : Bool). cond t (bound a) (e (length ρ + y)))
      (sym (eqb-shift (length ρ) y (x - length ρ)) ∙ ap (eqb (length ρ + y)) (omega arith)))

  release-shift : (e : Environment) (x : ℕ) → release (shift e) x ≡ shift (release e (length ρ + x))
  unfolding release
  release-shift e x = fun_ext (λ y. ap (λ (t : Bool). cond t free (e (length ρ + y))) (sym (eqb-shift (length ρ) y x)))

  -- terms meet arguments alike
  meet-put :
      (e : Environment) (t : Term) (a : ℤ) →
      Has e →
      meet (look (shift e) (put_term ρ t)) (put_term ρ t) a (shift e) ≡ map shift (meet (look e t) t a e)
  unfolding meet look put_term
  meet-put e t a h = ap (λ (s : Slot). meet s (put_term ρ t) a (shift e)) (look-put e t h) ∙ go t (look e t) refl
    where
      kept : (c : Bool) → cond c (shift e ∷ []) [] ≡ map shift (cond c (e ∷ []) [])
      kept true = refl
      kept false = refl

      binds : (x : ℕ) → length ρ ≤ x → meet free (put_term ρ (variable x)) a (shift e) ≡ shift (bind e x a) ∷ []
      binds x l =
          ap (λ (u : Term). meet free u a (shift e)) (put-inner ρ x l) ∙ ap (λ (d : Environment). d ∷ []) (bind-shift e x a l)

      go : (t : Term) (s : Slot) → look e t ≡ s → meet s (put_term ρ t) a (shift e) ≡ map shift (meet s t a e)
      go t (bound k) q = kept (equal k a)
      go (variable x) free q = ⊎_elim (λ l. bound-free (h x l) q) (binds x) (side (length ρ) x)
      go (constant k) free q = refl

  -- and keep the numbers of the outer variables
  met_has : {e : Environment} {t : Term} {a : ℤ} {e' : Environment} → Met e t a e' → Has e → Has e'
  met_has (as_it_is s q) h x l = ap (λ (d : Environment). d x) s ∙ h x l
  met_has {e} {a} (binding y v q s) h x l =
      ap (λ (d : Environment). d x) s ∙ bind-other e y a x (λ r. bound-free (sym (ap e r) ∙ h x l) q) ∙ h x l

  -- the same of all terms and arguments
  fit-put :
      (ts : List Term) (args : List ℤ) (e : Environment) →
      Has e →
      fit (map (put_term ρ) ts) args (shift e) ≡ map shift (fit ts args e)
  unfolding fit
  fit-put [] args e h = refl
  fit-put (t ∷ ts) [] e h = refl
  fit-put (t ∷ ts) (a ∷ args) e h =
      ap (gather (fit (map (put_term ρ) ts) args)) (meet-put e t a h)
      ∙ gather-map shift (fit ts args) (fit (map (put_term ρ) ts) args) (meet (look e t) t a e)
      (λ d m. fit-put ts args d (met_has (met e t a m) h))

  -- and of the numbers of the outer variables
  fit_has : (ts : List Term) (args : List ℤ) (e : Environment) → Has e → AllHave (fit ts args e)
  unfolding fit
  fit_has [] args e h d m x l = ap (λ (c : Environment). c x) (Memᴰ.eq_of_singleton m) ∙ h x l
  fit_has (t ∷ ts) [] e h d m x l = absurd (Memᴰ.not-nil m)
  fit_has (t ∷ ts) (a ∷ args) e h d m x l =
      let (e₁, m₁, m₂) = gather_mem (fit ts args) (meet (look e t) t a e) m in
      fit_has ts args e₁ (met_has (met e t a m₁) h) d m₂ x l

  -- the rows make corresponding environments
  matches-put :
      (rows : List Words) (p : ℕ) (ts : List Term) (e : Environment) →
      Has e →
      matches rows p (map (put_term ρ) ts) (shift e) ≡ map shift (matches rows p ts e)
  unfolding matches gather
  matches-put [] p ts e h = refl
  matches-put (row ∷ rows) p ts e h =
      ap₂ (λ (l m : List Environment). l ++ m) (chosen test) (matches-put rows p ts e h)
      ∙ sym (map-append shift (cond test (fit ts (arguments row) e) []) (matches rows p ts e))
    where
      test : Bool
      test = says_true row && equal (word row 0) (pos p)

      chosen :
          (b : Bool) →
          cond b (fit (map (put_term ρ) ts) (arguments row) (shift e)) [] ≡ map shift (cond b (fit ts (arguments row) e) [])
      chosen true = fit-put ts (arguments row) e h
      chosen false = refl

  -- terms have the same numbers
  numbers-put : (e : Environment) (ts : List Term) → Has e → numbers_in (shift e) (map (put_term ρ) ts) ≡ numbers_in e ts
  unfolding numbers_in
  numbers-put e ts h = map-map (put_term ρ) _ _ ts (λ t. ap number_in (look-put e t h))

  module _ (table : Words) (rows : List Words) where
    -- what is listed has the numbers of the outer variables
    mutual
      unfolding list

      list_has :
          (c : Tree) (next : ℕ) (es : List Environment) →
          AllHave es →
          AllHave (list table rows c (length ρ + next) es)
      list_has (plain true) next es h = h
      list_has (plain false) next es h = λ e m. absurd (Memᴰ.not-nil m)
      list_has (atom true p ts) next es h = λ e m.
          let (e₀, m₀, m₁) = gather_mem (matches rows p ts) es m in
          let (row, mr, t, w, m₂) = matches_mem rows p ts e₀ m₁ in
          fit_has ts (arguments row) e₀ (h e₀ m₀) e m₂
      list_has (atom false p ts) next es h = λ e m. h e (keep_mem _ es m).0
      list_has (compare b d x y) next es h = λ e m. h e (keep_mem _ es m).0
      list_has (join true ts) next es h = list_has_all ts next es h
      list_has (join false ts) next es h = list_has_any ts next es h
      list_has (quantifier b v excluded c f) next es h = λ e m. absurd (Memᴰ.not-nil m)
      list_has (some c) next es h = λ e m x l.
          let (e₀, m₀, s) = map_mem (λ e. release e (length ρ + next)) (list table rows c (length ρ + next + 1) es) m in
          let m₁ = subst (λ (n : ℕ). Memᴰ e₀ (list table rows c n es)) (add_assoc (length ρ) next 1) m₀ in
          ap (λ (d : Environment). d x) s
          ∙ release_other e₀ (length ρ + next) x (λ q. omega arith)
          ∙ list_has c (next + 1) es h e₀ m₁ x l

      list_has_all :
          (ts : Trees) (next : ℕ) (es : List Environment) →
          AllHave es →
          AllHave (list_all table rows ts (length ρ + next) es)
      list_has_all nil next es h = h
      list_has_all (cons t ts) next es h = list_has_all ts next (list table rows t (length ρ + next) es) (list_has t next es h)

      list_has_any :
          (ts : Trees) (next : ℕ) (es : List Environment) →
          AllHave es →
          AllHave (list_any table rows ts (length ρ + next) es)
      list_has_any nil next es h = λ e m. absurd (Memᴰ.not-nil m)
      list_has_any (cons t ts) next es h = λ e m.
          ⊎_elim (λ n. list_has t next es h e n) (λ n. list_has_any ts next es h e n)
          (Memᴰ.append_cases (list table rows t (length ρ + next) es) m)

    -- the listings correspond
    mutual
      unfolding list put

      pub list_put :
          (c : Tree) (next : ℕ) (es : List Environment) →
          AllHave es →
          list table rows (put c ρ) next (map shift es) ≡ map shift (list table rows c (length ρ + next) es)
      list_put (plain true) next es h = refl
      list_put (plain false) next es h = refl
      list_put (atom true p ts) next es h =
          gather-map shift (matches rows p ts) (matches rows p (map (put_term ρ) ts)) es (λ e m. matches-put rows p ts e (h e m))
      list_put (atom false p ts) next es h =
          keep-map shift _ _ es (λ e m. ap (λ (ns : List ℤ). is_false (value_in table rows p ns)) (numbers-put e ts (h e m)))
      list_put (compare b d x y) next es h =
          keep-map shift _ _ es (λ e m.
          ap₂ (λ (s t : Slot). same b (sum_at_most d (number_in s) (number_in t))) (look-put e x (h e m)) (look-put e y (h e m)))
      list_put (join true ts) next es h = list-put-all ts next es h
      list_put (join false ts) next es h = list-put-any ts next es h
      list_put (quantifier b v excluded c f) next es h = refl
      list_put (some c) next es h =
          let found = list table rows c (length ρ + next + 1) es in
          let together : Environment → Environment = λ e. shift (release e (length ρ + next)) in
          ap (map (λ e. release e next))
          (list_put c (next + 1) es h
          ∙ ap (λ (n : ℕ). map shift (list table rows c n es)) (sym (add_assoc (length ρ) next 1)))
          ∙ map-map shift (λ e. release e next) together found (λ e. release-shift e next)
          ∙ sym (map-map (λ e. release e (length ρ + next)) shift together found (λ e. refl))

      list-put-all :
          (ts : Trees) (next : ℕ) (es : List Environment) →
          AllHave es →
          list_all table rows (put_all ts ρ) next (map shift es) ≡ map shift (list_all table rows ts (length ρ + next) es)
      list-put-all nil next es h = refl
      list-put-all (cons t ts) next es h =
          ap (list_all table rows (put_all ts ρ) next) (list_put t next es h)
          ∙ list-put-all ts next (list table rows t (length ρ + next) es) (list_has t next es h)

      list-put-any :
          (ts : Trees) (next : ℕ) (es : List Environment) →
          AllHave es →
          list_any table rows (put_all ts ρ) next (map shift es) ≡ map shift (list_any table rows ts (length ρ + next) es)
      list-put-any nil next es h = refl
      list-put-any (cons t ts) next es h =
          ap₂ (λ (l m : List Environment). l ++ m) (list_put t next es h) (list-put-any ts next es h)
          ∙ sym (map-append shift (list table rows t (length ρ + next) es) (list_any table rows ts (length ρ + next) es))

    -- the lists have the same length
    list-put-length :
        (c : Tree) (next : ℕ) (es : List Environment) →
        AllHave es →
        length (list table rows (put c ρ) next (map shift es)) ≡ length (list table rows c (length ρ + next) es)
    list-put-length c next es h = ap length (list_put c next es h) ∙ length-map (list table rows c (length ρ + next) es) shift

    -- and so do the numbers of entries
    mutual
      unfolding entries put

      pub entries-put :
          (c : Tree) (next : ℕ) (es : List Environment) →
          AllHave es →
          entries table rows (put c ρ) next (map shift es) ≡ entries table rows c (length ρ + next) es
      entries-put (plain b) next es h = list-put-length (plain b) next es h
      entries-put (atom b p ts) next es h = list-put-length (atom b p ts) next es h
      entries-put (compare b d x y) next es h = list-put-length (compare b d x y) next es h
      entries-put (join true ts) next es h =
          ap₂ (λ (m n : ℕ). m + n) (entries-put-all ts next es h) (list-put-length (join true ts) next es h)
      entries-put (join false ts) next es h =
          ap₂ (λ (m n : ℕ). m + n) (entries-put-any ts next es h) (list-put-length (join false ts) next es h)
      entries-put (some c) next es h =
          ap₂ (λ (m n : ℕ). m + n)
          (entries-put c (next + 1) es h ∙ ap (λ (n : ℕ). entries table rows c n es) (sym (add_assoc (length ρ) next 1)))
          (list-put-length (some c) next es h)
      entries-put (quantifier b v excluded c f) next es h = refl

      entries-put-all :
          (ts : Trees) (next : ℕ) (es : List Environment) →
          AllHave es →
          entries_all table rows (put_all ts ρ) next (map shift es) ≡ entries_all table rows ts (length ρ + next) es
      entries-put-all nil next es h = refl
      entries-put-all (cons t ts) next es h =
          ap₂ (λ (m n : ℕ). m + n)
          (entries-put t next es h)
          (ap (entries_all table rows (put_all ts ρ) next) (list_put t next es h)
          ∙ entries-put-all ts next (list table rows t (length ρ + next) es) (list_has t next es h))

      entries-put-any :
          (ts : Trees) (next : ℕ) (es : List Environment) →
          AllHave es →
          entries_any table rows (put_all ts ρ) next (map shift es) ≡ entries_any table rows ts (length ρ + next) es
      entries-put-any nil next es h = refl
      entries-put-any (cons t ts) next es h =
          ap₂ (λ (m n : ℕ). m + n) (entries-put t next es h) (entries-put-any ts next es h)

    -- with numbers τ for the variables that are left
    module _ (τ : List ℤ) where
      -- the outer environment has the numbers ρ, and seen from inside it is that of τ
      outer_has : AllHave (outer (ρ ++ τ) ∷ [])
      outer_has e m x l =
          let k = length-append ρ τ in
          ap (λ (d : Environment). d x) (Memᴰ.eq_of_singleton m)
          ∙ outer-bound (ρ ++ τ) x (omega arith)
          ∙ ap bound (get_or-append ρ τ (pos 0) x l)

      outer-shift : shift (outer (ρ ++ τ)) ≡ outer τ
      unfolding outer
      outer-shift = fun_ext (λ x.
          ap₂ (λ (t : Bool) (k : ℤ). cond t (bound k) free)
          (ap (ltb (length ρ + x)) (length-append ρ τ) ∙ ltb-shift (length ρ) x (length τ))
          (get_or-append-add ρ τ x (pos 0)))

      -- the numbers of a span of inner variables
      tuple-shift : (i v : ℕ) (e : Environment) → tuple i v (shift e) ≡ tuple (length ρ + i) v e
      unfolding tuple span
      tuple-shift i zero e = refl
      tuple-shift i (suc v) e =
          ap (λ (r : List ℤ). number_in (e (length ρ + i)) ∷ r)
          (tuple-shift (suc i) v e ∙ ap (λ (j : ℕ). tuple j v e) (add-suc (length ρ) i))

      -- the scope with the numbers put in
      scope-put : (v : ℕ) → length (ρ ++ τ) + v ≡ length ρ + (length τ + v)
      scope-put v = let k = length-append ρ τ in omega arith

      -- the listings from the outer environments correspond, and have the same number of entries
      outer-list-put :
          (v : ℕ) (c : Tree) →
          list table rows (put c ρ) (length τ + v) (outer τ ∷ [])
          ≡ map shift (list table rows c (length (ρ ++ τ) + v) (outer (ρ ++ τ) ∷ []))
      outer-list-put v c =
          ap (λ (e : Environment). list table rows (put c ρ) (length τ + v) (e ∷ [])) (sym outer-shift)
          ∙ list_put c (length τ + v) (outer (ρ ++ τ) ∷ []) outer_has
          ∙ ap (λ (n : ℕ). map shift (list table rows c n (outer (ρ ++ τ) ∷ []))) (sym (scope-put v))

      pub outer-entries-put :
          (v : ℕ) (c : Tree) →
          entries table rows c (length (ρ ++ τ) + v) (outer (ρ ++ τ) ∷ [])
          ≡ entries table rows (put c ρ) (length τ + v) (outer τ ∷ [])
      outer-entries-put v c =
          ap (λ (n : ℕ). entries table rows c n (outer (ρ ++ τ) ∷ [])) (scope-put v)
          ∙ sym (entries-put c (length τ + v) (outer (ρ ++ τ) ∷ []) outer_has)
          ∙ ap (λ (e : Environment). entries table rows (put c ρ) (length τ + v) (e ∷ [])) outer-shift

      -- the instances are the same
      pub instances-put :
          (v : ℕ) (excluded : List (List ℤ)) (c : Tree) →
          instances table rows v excluded c (ρ ++ τ) ≡ instances table rows v excluded (put c ρ) τ
      unfolding instances
      instances-put v excluded c =
          let found = list table rows c (length (ρ ++ τ) + v) (outer (ρ ++ τ) ∷ []) in
          ap (fresh excluded)
          (ap (λ (n : ℕ). map (tuple n v) found) (length-append ρ τ)
          ∙ sym (map-map shift (tuple (length τ) v) (tuple (length ρ + length τ) v) found (tuple-shift (length τ) v))
          ∙ ap (map (tuple (length τ) v)) (sym (outer-list-put v c)))

-- trees and numbers made alike of tuples
each_same : (f g : List ℤ → Tree) (τs : List (List ℤ)) → ((τ : List ℤ) → f τ ≡ g τ) → each f τs ≡ each g τs
unfolding each
each_same f g [] e = refl
each_same f g (τ ∷ τs) e = ap₂ cons (e τ) (each_same f g τs e)

most-same : (f g : List ℤ → ℕ) (τs : List (List ℤ)) → ((τ : List ℤ) → f τ ≡ g τ) → most f τs ≡ most g τs
unfolding most
most-same f g [] e = refl
most-same f g (τ ∷ τs) e = ap₂ max (e τ) (most-same f g τs e)

module _ (table : Words) (rows : List Words) where
  -- the quantifier that is left stands for the same tuples
  last-put :
      (b : Bool) (v : ℕ) (excluded : List (List ℤ)) (c f : Tree) (ρ τ : List ℤ) →
      cond (closed c table) nil
      (cons (quantifier b v (excluded ++ instances table rows v excluded c (ρ ++ τ)) (put c (ρ ++ τ)) (put f (ρ ++ τ))) nil)
      ≡ cond (closed (put c ρ) table) nil
      (cons (quantifier b v (excluded ++ instances table rows v excluded (put c ρ) τ) (put (put c ρ) τ) (put (put f ρ) τ)) nil)
  last-put b v excluded c f ρ τ =
      rw (put-closed c ρ table, put-put c ρ τ, put-put f ρ τ, instances-put ρ table rows τ v excluded c)

  -- reducing with the numbers ρ, then τ, in scope is reducing the tree with the numbers ρ put in, with τ in scope
  mutual
    unfolding reduce put

    pub reduce-put : (f : Tree) (ρ τ : List ℤ) → reduce table rows f (ρ ++ τ) ≡ reduce table rows (put f ρ) τ
    reduce-put (plain b) ρ τ = refl
    reduce-put (atom b p ts) ρ τ =
        ap₂ (λ (ns : List ℤ) (t : Tree). settle (value_in table rows p ns) b t)
        (sym (map-map (put_term ρ) (number_of τ) (number_of (ρ ++ τ)) ts (number_of-put ρ τ)))
        (put-put (atom b p ts) ρ τ)
    reduce-put (compare b d x y) ρ τ =
        ap₂ (λ (m n : ℤ). plain (same b (sum_at_most d m n))) (sym (number_of-put ρ τ x)) (sym (number_of-put ρ τ y))
    reduce-put (join b ts) ρ τ = ap (joined b) (reduce-put-all ts ρ τ)
    reduce-put (quantifier b v excluded c f) ρ τ =
        let before : List ℤ → Tree = λ σ. reduce table rows f (ρ ++ τ ++ σ) in
        let afterwards : List ℤ → Tree = λ σ. reduce table rows (put f ρ) (τ ++ σ) in
        let body : (σ : List ℤ) → before σ ≡ afterwards σ =
        λ σ. ap (reduce table rows f) (append_assoc ρ τ σ) ∙ reduce-put f ρ (τ ++ σ)
        in
        let found = instances-put ρ table rows τ v excluded c in
        let bodies = each_same before afterwards (instances table rows v excluded c (ρ ++ τ)) body ∙ ap (each afterwards) found in
        ap₂ (λ (ts us : Trees). joined b (append ts us)) bodies (last-put b v excluded c f ρ τ)
    reduce-put (some c) ρ τ = put-put (some c) ρ τ

    reduce-put-all : (ts : Trees) (ρ τ : List ℤ) → reduce_all table rows ts (ρ ++ τ) ≡ reduce_all table rows (put_all ts ρ) τ
    reduce-put-all nil ρ τ = refl
    reduce-put-all (cons t ts) ρ τ = ap₂ cons (reduce-put t ρ τ) (reduce-put-all ts ρ τ)

  -- reduction with numbers in scope is reduction of the closed tree with the numbers put in
  pub reduce-closed : (f : Tree) (ρ : List ℤ) → reduce table rows f ρ ≡ reduce table rows (put f ρ) []
  reduce-closed f ρ = ap (reduce table rows f) (sym (append-nil ρ)) ∙ reduce-put f ρ []

  -- and the same of the need of places
  mutual
    unfolding need put

    pub need-put : (f : Tree) (ρ τ : List ℤ) → need table rows f (ρ ++ τ) ≡ need table rows (put f ρ) τ
    need-put (plain b) ρ τ = refl
    need-put (atom b p ts) ρ τ = refl
    need-put (compare b d x y) ρ τ = refl
    need-put (join b ts) ρ τ = need-put-all ts ρ τ
    need-put (quantifier b v excluded c f) ρ τ =
        ap₂ (λ (m n : ℕ). 1 + m + n)
        (outer-entries-put ρ table rows τ v c)
        (most-same _ _ (instances table rows v excluded c (ρ ++ τ))
        (λ σ. ap (need table rows f) (append_assoc ρ τ σ) ∙ need-put f ρ (τ ++ σ))
        ∙ ap (most (λ σ. need table rows (put f ρ) (τ ++ σ))) (instances-put ρ table rows τ v excluded c))
    need-put (some c) ρ τ = refl

    need-put-all : (ts : Trees) (ρ τ : List ℤ) → need_all table rows ts (ρ ++ τ) ≡ need_all table rows (put_all ts ρ) τ
    need-put-all nil ρ τ = refl
    need-put-all (cons t ts) ρ τ = ap₂ max (need-put t ρ τ) (need-put-all ts ρ τ)

  pub need-closed : (f : Tree) (ρ : List ℤ) → need table rows f ρ ≡ need table rows (put f ρ) []
  need-closed f ρ = ap (need table rows f) (sym (append-nil ρ)) ∙ need-put f ρ []

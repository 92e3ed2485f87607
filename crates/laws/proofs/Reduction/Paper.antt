-- The reduction of `model` satisfies the paper's equations on every accepted policy, and whatever satisfies them equals it there; so
-- for the need of places. By induction on the tree, for all numbers put in for its outer variables.
use Prim.Native.Nat.{ℕ, ◌+◌, ◌-◌, ◌≤◌, ◌<◌, max}
use Rattle.std.proofs.Common.{zero-add, ◌∙◌, subst, ⊎_elim, true≢false}
use native.Mathlib.Omega.{arith}
use Rattle.std.specs.Prelude.{◌≡◌, Bool, cond, ℤ}
use Rattle.std.proofs.Math.Path.{refl, sym, ap, ap₂, fun_ext}
use Rattle.std.proofs.Math.Bool.{true}
use mathlib.Core.List.{List, [], ◌∷◌, ◌++◌, map, append-nil, Memᴰ}
use Rattle.std.proofs.Math.ListN.{length}
use Rattle.model.specs.Words.{Words, level_limit}
use Rattle.model.specs.Log.{Value, known, unknown, value_in}
use Rattle.model.specs.Tree.{Term, constant, variable, Tree, Trees, plain, atom, compare, join, quantifier, some, nil, cons}
use Rattle.model.specs.Level.{restriction, formula, operand, under, quantifier_cost, greatest, greatest_all}
use Rattle.model.specs.Truth.{number_of}
use Rattle.model.specs.Listing.{Environment, outer, list, entries}
use Rattle.model.specs.Putting.{put_term, put, put_all}
use Rattle.model.specs.Joining.{append, joined}
use Rattle.model.specs.Reduction.{settle, closed, fresh, each, most, tuple, instances, reduce, reduce_all, need, need_all}
use Rattle.laws.specs.Lists.Span.{side}
use Rattle.laws.specs.Level.{greatest_mono, greatest_up}
use Rattle.laws.specs.Mode.{Moded, ModedAll, modes-moded, moded-modes}
use Rattle.laws.specs.Reading.Formed.{InScope, AllInScope, Formed, FormedAll, Rules}
use Rattle.laws.specs.Joining.{All}
use Rattle.laws.specs.Putting.Parts.{put-outer, put-inner, put-put, put-nil, put-formed, put-greatest, put-closed}
use Rattle.laws.specs.Putting.Modes.{put-moded}
use Rattle.laws.specs.Putting.Reduction.{instances-put, outer-entries-put, reduce-closed, need-closed}
use Rattle.laws.specs.Listing.Outer.{outer-free}
use Rattle.laws.specs.Reduction.Instances.{instances-length}
use Rattle.laws.specs.Reduction.Paper.{each_tree, most_of, empty, ground_atom, comparison, found, Paper, PaperNeed}

-- the environment with no outer variables is the empty one
outer-empty : outer [] ≡ empty
unfolding empty
outer-empty = fun_ext (λ x. outer-free [] x (omega arith))

-- a term that is no variable once numbers are put in is the constant of its number
put-constant : (ρ : List ℤ) (t : Term) → InScope 0 (put_term ρ t) → put_term ρ t ≡ constant (number_of ρ t)
unfolding InScope put_term number_of
put-constant ρ (constant k) h = refl
put-constant ρ (variable x) h = ⊎_elim (put-outer ρ x) (λ l. absurd (no-variable (put-inner ρ x l))) (side (length ρ) x)
  where
    no-variable : put_term ρ (variable x) ≡ variable (x - length ρ) → ⊥
    no-variable e = let below : x - length ρ < 0 = subst (InScope 0) e h in omega arith

put_constants :
    (ρ : List ℤ) (ts : List Term) →
    AllInScope 0 (map (put_term ρ) ts) →
    map (put_term ρ) ts ≡ map constant (map (number_of ρ) ts)
unfolding AllInScope
put_constants ρ [] h = refl
put_constants ρ (t ∷ ts) h = ap₂ (λ (u : Term) (us : List Term). u ∷ us) (put-constant ρ t h.0) (put_constants ρ ts h.1)

-- the numbers of constants
constant-numbers : (ns : List ℤ) → map (number_of []) (map constant ns) ≡ ns
unfolding number_of
constant-numbers [] = refl
constant-numbers (n ∷ ns) = ap (λ (r : List ℤ). n ∷ r) (constant-numbers ns)

-- trees and numbers made alike of tuples that stand in a list
each_mem :
    (f g : List ℤ → Tree) (τs : List (List ℤ)) →
    ((τ : List ℤ) → Memᴰ τ τs → f τ ≡ g τ) →
    each f τs ≡ each g τs
unfolding each
each_mem f g [] e = refl
each_mem f g (τ ∷ τs) e = ap₂ cons (e τ (Memᴰ.head refl)) (each_mem f g τs (λ σ m. e σ (Memᴰ.tail m)))

most_mem :
    (f g : List ℤ → ℕ) (τs : List (List ℤ)) →
    ((τ : List ℤ) → Memᴰ τ τs → f τ ≡ g τ) →
    most f τs ≡ most g τs
unfolding most
most_mem f g [] e = refl
most_mem f g (τ ∷ τs) e = ap₂ max (e τ (Memᴰ.head refl)) (most_mem f g τs (λ σ m. e σ (Memᴰ.tail m)))

module _ (table : Words) where
  -- the rules hold of each child of a join
  children-rules :
      (b : Bool) (ts : Trees) →
      FormedAll ts table true 0 →
      greatest_all ts (operand b) 1 ≤ level_limit →
      ModedAll table ts 0 →
      All (Rules table) ts
  unfolding Formed greatest Moded
  children-rules b nil h l m = tt
  children-rules b (cons t ts) h l m =
      let up = greatest_up t formula (operand b) tt tt 0 1 (omega arith) in (
        record { formed = h.0; levels = omega arith; modes = moded-modes table t 0 0 m.0 },
        children-rules b ts h.1 (omega arith) m.1,
      )

  join-rules : (b : Bool) (ts : Trees) → Rules table (join b ts) → All (Rules table) ts
  unfolding Formed greatest under Moded
  join-rules b ts r =
      let l : max 1 (greatest_all ts (operand b) 1) ≤ level_limit = r.levels in
      children-rules b ts r.formed.1 (omega arith) (modes-moded table (join b ts) 0 0 r.modes)

  -- and of a quantifier's body with a tuple put in
  body-rules :
      (b : Bool) (v : ℕ) (excluded : List (List ℤ)) (c f : Tree) (τ : List ℤ) →
      Rules table (quantifier b v excluded c f) →
      length τ ≡ v →
      Rules table (put f τ)
  unfolding Formed greatest quantifier_cost Moded
  body-rules b v excluded c f τ r e =
      let scope : 0 + v ≡ length τ + 0 = omega arith in
      let up = greatest_mono f formula 0 2 (omega arith) in
      let l : max (greatest c restriction 2) (greatest f formula 2) ≤ level_limit = r.levels in
      let moded = (modes-moded table (quantifier b v excluded c f) 0 0 r.modes).2 in
      record {
        formed = put-formed table f true τ 0 (subst (Formed f table true) scope r.formed.6);
        levels = rw (put-greatest f τ formula 0) (omega arith);
        modes = moded-modes table (put f τ) 0 0 (put-moded τ table f 0 (subst (Moded table f) scope moded));
      }

module _ (table : Words) (rows : List Words) where
  -- the instances of a closed quantifier are those with no outer numbers; and those of one with numbers in scope are those of the
  -- quantifier with the numbers put in
  found-instances :
      (v : ℕ) (excluded : List (List ℤ)) (c : Tree) → found table rows v excluded c ≡ instances table rows v excluded c []
  unfolding found instances
  found-instances v excluded c =
      ap₂ (λ (n : ℕ) (e : Environment). fresh excluded (map (tuple 0 v) (list table rows c n (e ∷ []))))
      (sym (zero-add v)) (sym outer-empty)

  found-put :
      (v : ℕ) (excluded : List (List ℤ)) (c : Tree) (ρ : List ℤ) →
      found table rows v excluded (put c ρ) ≡ instances table rows v excluded c ρ
  found-put v excluded c ρ =
      found-instances v excluded (put c ρ)
      ∙ sym (instances-put ρ table rows [] v excluded c)
      ∙ ap (instances table rows v excluded c) (append-nil ρ)

  -- they have v numbers
  found-length :
      (v : ℕ) (excluded : List (List ℤ)) (c : Tree) {τ : List ℤ} → Memᴰ τ (found table rows v excluded c) → length τ ≡ v
  found-length v excluded c {τ} m =
      instances-length table rows v excluded c [] (subst (Memᴰ τ) (found-instances v excluded c) m)

  -- the entries of a restriction's lists
  entries-put :
      (v : ℕ) (c : Tree) (ρ : List ℤ) →
      entries table rows (put c ρ) v (empty ∷ []) ≡ entries table rows c (length ρ + v) (outer ρ ∷ [])
  entries-put v c ρ =
      ap₂ (λ (n : ℕ) (e : Environment). entries table rows (put c ρ) n (e ∷ [])) (sym (zero-add v)) (sym outer-empty)
      ∙ sym (outer-entries-put ρ table rows [] v c)
      ∙ ap (λ (σ : List ℤ). entries table rows c (length σ + v) (outer σ ∷ [])) (append-nil ρ)

  -- child by child
  each_tree-reduce : (ts : Trees) → each_tree (λ t. reduce table rows t []) ts ≡ reduce_all table rows ts []
  unfolding each_tree reduce
  each_tree-reduce nil = refl
  each_tree-reduce (cons t ts) = ap (cons (reduce table rows t [])) (each_tree-reduce ts)

  most_of-need : (ts : Trees) → most_of (λ t. need table rows t []) ts ≡ need_all table rows ts []
  unfolding most_of need
  most_of-need nil = refl
  most_of-need (cons t ts) = ap (max (need table rows t [])) (most_of-need ts)

  -- a ground atom, by its value
  reduce-atom :
      (b : Bool) (p : ℕ) (ns : List ℤ) →
      reduce table rows (ground_atom b p ns) [] ≡ settle (value_in table rows p ns) b (ground_atom b p ns)
  unfolding reduce ground_atom
  reduce-atom b p ns =
      ap₂ (λ (ms : List ℤ) (t : Tree). settle (value_in table rows p ms) b t) (constant-numbers ns) (put-nil (ground_atom b p ns))

  reduce-quantifier :
      (b : Bool) (v : ℕ) (excluded : List (List ℤ)) (c f : Tree) →
      let last = quantifier b v (excluded ++ found table rows v excluded c) c f in
      reduce table rows (quantifier b v excluded c f) []
      ≡ joined b
      (append
      (each (λ τ. reduce table rows (put f τ) []) (found table rows v excluded c))
      (cond (closed c table) nil (cons last nil)))
  unfolding reduce
  reduce-quantifier b v excluded c f =
      let last = quantifier b v (excluded ++ instances table rows v excluded c []) c f in
      rw (found-instances v excluded c, put-nil c, put-nil f)
      (ap (λ (ts : Trees). joined b (append ts (cond (closed c table) nil (cons last nil))))
      (each_mem _ _ (instances table rows v excluded c []) (λ τ m. reduce-closed table rows f τ)))

  -- the reduction of `model` satisfies the equations
  pub paper : Paper table rows (λ t. reduce table rows t [])
  unfolding reduce settle comparison number_of
  paper =
      record {
        plains = λ b. refl;
        known_atoms = λ b p ns v r e. reduce-atom b p ns ∙ ap (λ (x : Value). settle x b (ground_atom b p ns)) e;
        open_atoms = λ b p ns r e. reduce-atom b p ns ∙ ap (λ (x : Value). settle x b (ground_atom b p ns)) e;
        comparisons = λ b d x y. refl;
        joins = λ b ts r. ap (joined b) (sym (each_tree-reduce ts));
        quantifiers = λ b v excluded c f r. reduce-quantifier b v excluded c f;
      }

  -- and so does its need of places
  pub need-paper : PaperNeed table rows (λ t. need table rows t [])
  unfolding need comparison ground_atom
  need-paper =
      record {
        plains = λ b. refl;
        atoms = λ b p ns r. refl;
        comparisons = λ b d x y. refl;
        joins = λ b ts r. sym (most_of-need ts);
        quantifiers = λ b v excluded c f r. need-quantifier b v excluded c f;
      }
    where
      need-quantifier :
          (b : Bool) (v : ℕ) (excluded : List (List ℤ)) (c f : Tree) →
          need table rows (quantifier b v excluded c f) []
          ≡ 1 + entries table rows c v (empty ∷ []) + most (λ τ. need table rows (put f τ) []) (found table rows v excluded c)
      need-quantifier b v excluded c f =
          ap₂ (λ (m n : ℕ). 1 + m + n)
          (sym (ap (λ (d : Tree). entries table rows d v (empty ∷ [])) (sym (put-nil c)) ∙ entries-put v c []))
          (ap (most (λ τ. need table rows f τ)) (sym (found-instances v excluded c))
          ∙ most_mem _ _ (found table rows v excluded c) (λ τ m. need-closed table rows f τ))

  -- whatever satisfies the equations is the reduction of `model`, on every formula that satisfies the rules
  module _ (R : Tree → Tree) (is : Paper table rows R) where
    mutual
      unfolding reduce settle put Formed each_tree comparison ground_atom

      only_put : (f : Tree) (ρ : List ℤ) → Rules table (put f ρ) → R (put f ρ) ≡ reduce table rows f ρ
      only_put (plain b) ρ r = is.plains b
      only_put (atom b p ts) ρ r =
          let is_ground = put_constants ρ ts r.formed.4 in
          go (subst (λ (us : List Term). Rules table (atom b p us)) is_ground r) is_ground (value_in table rows p (map (number_of ρ) ts)) refl
        where
          go :
              Rules table (ground_atom b p (map (number_of ρ) ts)) →
              map (put_term ρ) ts ≡ map constant (map (number_of ρ) ts) →
              (x : Value) →
              value_in table rows p (map (number_of ρ) ts) ≡ x →
              R (atom b p (map (put_term ρ) ts)) ≡ settle x b (atom b p (map (put_term ρ) ts))
          go r is_ground (known v) e = rw is_ground (is.known_atoms b p _ v r e)
          go r is_ground unknown e = rw is_ground (is.open_atoms b p _ r e)
      only_put (compare b d x y) ρ r =
          rw (put-constant ρ x r.formed.0, put-constant ρ y r.formed.1) (is.comparisons b d (number_of ρ x) (number_of ρ y))
      only_put (join b ts) ρ r =
          is.joins b (put_all ts ρ) r ∙ ap (joined b) (only_each ts ρ (join-rules table b (put_all ts ρ) r))
      only_put (quantifier b v excluded c f) ρ r =
          let here = found table rows v excluded (put c ρ) in
          let bodies : each (λ τ. R (put (put f ρ) τ)) here ≡ each (λ τ. reduce table rows f (ρ ++ τ)) here =
          each_mem _ _ here (λ τ m.
          let at = sym (put-put f ρ τ) in
          let rules = body-rules table b v excluded (put c ρ) (put f ρ) τ r (found-length v excluded (put c ρ) m) in
          ap R at ∙ only_put f (ρ ++ τ) (subst (Rules table) at rules)) in
          is.quantifiers b v excluded (put c ρ) (put f ρ) r
          ∙ rw (bodies, found-put v excluded c ρ, put-closed c ρ table) refl
      only_put (some c) ρ r = absurd (true≢false r.formed.0)

      only_each : (ts : Trees) (ρ : List ℤ) → All (Rules table) (put_all ts ρ) → each_tree R (put_all ts ρ) ≡ reduce_all table rows ts ρ
      only_each nil ρ h = refl
      only_each (cons t ts) ρ h = ap₂ cons (only_put t ρ h.0) (only_each ts ρ h.1)

    pub paper_only : (f : Tree) → Rules table f → R f ≡ reduce table rows f []
    paper_only f r = ap R (sym (put-nil f)) ∙ only_put f [] (subst (Rules table) (sym (put-nil f)) r)

  -- and whatever satisfies those of the need is the need
  module _ (N : Tree → ℕ) (is : PaperNeed table rows N) where
    mutual
      unfolding need put Formed most_of comparison ground_atom

      need_put_only : (f : Tree) (ρ : List ℤ) → Rules table (put f ρ) → N (put f ρ) ≡ need table rows f ρ
      need_put_only (plain b) ρ r = is.plains b
      need_put_only (atom b p ts) ρ r =
          let is_ground = put_constants ρ ts r.formed.4 in
          ap (λ (us : List Term). N (atom b p us)) is_ground
          ∙ is.atoms b p (map (number_of ρ) ts) (subst (λ (us : List Term). Rules table (atom b p us)) is_ground r)
      need_put_only (compare b d x y) ρ r =
          rw (put-constant ρ x r.formed.0, put-constant ρ y r.formed.1) (is.comparisons b d (number_of ρ x) (number_of ρ y))
      need_put_only (join b ts) ρ r = is.joins b (put_all ts ρ) r ∙ need-most ts ρ (join-rules table b (put_all ts ρ) r)
      need_put_only (quantifier b v excluded c f) ρ r =
          let here = found table rows v excluded (put c ρ) in
          let bodies : most (λ τ. N (put (put f ρ) τ)) here ≡ most (λ τ. need table rows f (ρ ++ τ)) here =
          most_mem _ _ here (λ τ m.
          let at = sym (put-put f ρ τ) in
          let rules = body-rules table b v excluded (put c ρ) (put f ρ) τ r (found-length v excluded (put c ρ) m) in
          ap N at ∙ need_put_only f (ρ ++ τ) (subst (Rules table) at rules)) in
          is.quantifiers b v excluded (put c ρ) (put f ρ) r
          ∙ rw (bodies, found-put v excluded c ρ, entries-put v c ρ) refl
      need_put_only (some c) ρ r = absurd (true≢false r.formed.0)

      need-most : (ts : Trees) (ρ : List ℤ) → All (Rules table) (put_all ts ρ) → most_of N (put_all ts ρ) ≡ need_all table rows ts ρ
      need-most nil ρ h = refl
      need-most (cons t ts) ρ h = ap₂ max (need_put_only t ρ h.0) (need-most ts ρ h.1)

    pub need-paper_only : (f : Tree) → Rules table f → N f ≡ need table rows f []
    need-paper_only f r = ap N (sym (put-nil f)) ∙ need_put_only f [] (subst (Rules table) (sym (put-nil f)) r)

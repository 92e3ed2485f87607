-- The reduction as the paper on auditing over incomplete logs defines it, with the order and the simplifications of the
-- specification: equations on closed formulas, in which each tuple is put into a quantifier's body before the body is reduced; so for
-- the need of places. That they define the reduction of `model` stands in proofs/.
use Prim.Native.Nat.{ℕ, ◌+◌, max}
use Rattle.std.specs.Prelude.{◌≡◌, Bool, cond, ℤ}
use mathlib.Core.List.{List, [], ◌∷◌, ◌++◌, map}
use Rattle.model.specs.Words.{Words, same}
use Rattle.model.specs.Log.{known, unknown, value_in}
use Rattle.model.specs.Tree.{constant, Tree, Trees, plain, atom, compare, join, quantifier, nil, cons}
use Rattle.model.specs.Truth.{sum_at_most}
use Rattle.model.specs.Listing.{free, Environment, list, entries}
use Rattle.model.specs.Putting.{put}
use Rattle.model.specs.Joining.{append, joined}
use Rattle.model.specs.Reduction.{closed, fresh, each, most, tuple}
use Rattle.laws.specs.Reading.Formed.{Rules}

-- what a function makes of each of the trees; the greatest number that one makes of them
unfoldable pub each_tree : (Tree → Tree) → Trees → Trees
each_tree f nil = nil
each_tree f (cons t ts) = cons (f t) (each_tree f ts)

unfoldable pub most_of : (Tree → ℕ) → Trees → ℕ
most_of f nil = 0
most_of f (cons t ts) = max (f t) (most_of f ts)

-- no variable is bound
unfoldable pub empty : Environment
empty x = free

-- the ground atom of a predicate at numbers, and a comparison of numbers: with no variables
unfoldable pub ground_atom : Bool → ℕ → List ℤ → Tree
ground_atom b p ns = atom b p (map constant ns)

unfoldable pub comparison : Bool → ℤ → ℤ → ℤ → Tree
comparison b d x y = compare b d (constant x) (constant y)

module _ (table : Words) (rows : List Words) where
  -- the instances of a closed quantifier: the tuples that its restriction lists from the empty environment, without those excluded,
  -- each once, in order of first appearance
  unfoldable pub found : ℕ → List (List ℤ) → Tree → List (List ℤ)
  found v excluded c = fresh excluded (map (tuple 0 v) (list table rows c v (empty ∷ [])))

  -- the paper's reduction, of formulas that satisfy the rules of a policy: they have no free variable
  pub record Paper (R : Tree → Tree) : Type 0 where
    -- plain true and plain false stay
    pub plains : (b : Bool) → R (plain b) ≡ plain b
    -- a ground atom becomes plain if it is known, else it stays
    pub known_atoms :
        (b : Bool) (p : ℕ) (ns : List ℤ) (v : Bool) →
        Rules table (ground_atom b p ns) →
        value_in table rows p ns ≡ known v →
        R (ground_atom b p ns) ≡ plain (same v b)
    pub open_atoms :
        (b : Bool) (p : ℕ) (ns : List ℤ) →
        Rules table (ground_atom b p ns) →
        value_in table rows p ns ≡ unknown →
        R (ground_atom b p ns) ≡ ground_atom b p ns
    -- a comparison is always known
    pub comparisons : (b : Bool) (d x y : ℤ) → R (comparison b d x y) ≡ plain (same b (sum_at_most d x y))
    -- all-of and any-of: the join, by the rule, of the reduced children in order
    pub joins : (b : Bool) (ts : Trees) → Rules table (join b ts) → R (join b ts) ≡ joined b (each_tree R ts)
    -- for-all and exists: the join, by the rule, of the reductions of the body with each instance put in and, last, of the same
    -- quantifier with the instances behind the excluded tuples; that last part is dropped if the restriction's predicates are complete
    pub quantifiers :
        (b : Bool) (v : ℕ) (excluded : List (List ℤ)) (c f : Tree) →
        Rules table (quantifier b v excluded c f) →
        let last = quantifier b v (excluded ++ found v excluded c) c f in
        R (quantifier b v excluded c f)
        ≡ joined b (append (each (λ τ. R (put f τ)) (found v excluded c)) (cond (closed c table) nil (cons last nil)))

  -- the places of scratch that it needs, in the same way
  pub record PaperNeed (N : Tree → ℕ) : Type 0 where
    pub plains : (b : Bool) → N (plain b) ≡ 0
    pub atoms : (b : Bool) (p : ℕ) (ns : List ℤ) → Rules table (ground_atom b p ns) → N (ground_atom b p ns) ≡ 0
    pub comparisons : (b : Bool) (d x y : ℤ) → N (comparison b d x y) ≡ 0
    -- the greatest need of the children
    pub joins : (b : Bool) (ts : Trees) → Rules table (join b ts) → N (join b ts) ≡ most_of N ts
    -- one place for the empty environment, one for each entry of the restriction's lists, and the greatest need of the instances
    pub quantifiers :
        (b : Bool) (v : ℕ) (excluded : List (List ℤ)) (c f : Tree) →
        Rules table (quantifier b v excluded c f) →
        N (quantifier b v excluded c f)
        ≡ 1 + entries table rows c v (empty ∷ []) + most (λ τ. N (put f τ)) (found v excluded c)

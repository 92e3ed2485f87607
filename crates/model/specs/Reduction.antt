-- The reduction of a formula over a log, and its need of places.
use Rattle.std.specs.Prelude.{ℕ, ◌+◌, max, Bool, true, cond, ◌&&◌, List, [], ◌∷◌, ◌++◌, map, length, ℤ}
use Rattle.model.specs.Words.{Words, same, member}
use Rattle.model.specs.Lists.{span}
use Rattle.model.specs.Table.{complete}
use Rattle.model.specs.Log.{Value, known, unknown, value_in}
use Rattle.model.specs.Tree.{Tree, Trees, plain, atom, compare, join, quantifier, some, nil, cons}
use Rattle.model.specs.Truth.{number_of, sum_at_most}
use Rattle.model.specs.Listing.{Environment, outer, number_in, list, entries}
use Rattle.model.specs.Putting.{put}
use Rattle.model.specs.Joining.{append, joined}

-- an atom of known value is plain; else it stays as it is
unfoldable pub settle : Value → Bool → Tree → Tree
settle (known v) b stays = plain (same v b)
settle unknown b stays = stays

-- every tag 2 and tag 3 atom of a restriction has a complete predicate
unfoldable mutual
  pub closed : Tree → Words → Bool
  closed (plain b) table = true
  closed (atom b p ts) table = complete table p
  closed (compare b d x y) table = true
  closed (join b ts) table = closed_all ts table
  closed (quantifier b v excluded c f) table = true
  closed (some c) table = closed c table

  pub closed_all : Trees → Words → Bool
  closed_all nil table = true
  closed_all (cons t ts) table = closed t table && closed_all ts table

-- the tuples not seen before, each once, in order of first appearance
unfoldable pub fresh : List (List ℤ) → List (List ℤ) → List (List ℤ)
fresh seen [] = []
fresh seen (τ ∷ τs) = cond (member τ seen) (fresh seen τs) (τ ∷ fresh (τ ∷ seen) τs)

-- the trees that f makes of tuples; the greatest number that f makes of them
unfoldable pub each : (List ℤ → Tree) → List (List ℤ) → Trees
each f [] = nil
each f (τ ∷ τs) = cons (f τ) (each f τs)

unfoldable pub most : (List ℤ → ℕ) → List (List ℤ) → ℕ
most f [] = 0
most f (τ ∷ τs) = max (f τ) (most f τs)

-- the numbers of v variables from `first` on
unfoldable pub tuple : ℕ → ℕ → Environment → List ℤ
tuple first v e = map (λ x. number_in (e x)) (span first v)

module _ (table : Words) (rows : List Words) where
  -- the instances of a quantifier, ρ being the numbers of the outer variables
  unfoldable pub instances : ℕ → List (List ℤ) → Tree → List ℤ → List (List ℤ)
  instances v excluded c ρ =
      fresh excluded (map (tuple (length ρ) v) (list table rows c (length ρ + v) (outer ρ ∷ [])))

  -- the reduction of a formula with the numbers ρ put in. The last case stands for no formula
  unfoldable mutual
    pub reduce : Tree → List ℤ → Tree
    reduce (plain b) ρ = plain b
    reduce (atom b p ts) ρ = settle (value_in table rows p (map (number_of ρ) ts)) b (put (atom b p ts) ρ)
    reduce (compare b d x y) ρ = plain (same b (sum_at_most d (number_of ρ x) (number_of ρ y)))
    reduce (join b ts) ρ = joined b (reduce_all ts ρ)
    reduce (quantifier b v excluded c f) ρ =
        let found = instances v excluded c ρ in
        let last = quantifier b v (excluded ++ found) (put c ρ) (put f ρ) in
        joined b (append (each (λ τ. reduce f (ρ ++ τ)) found) (cond (closed c table) nil (cons last nil)))
    reduce (some c) ρ = put (some c) ρ

    pub reduce_all : Trees → List ℤ → Trees
    reduce_all nil ρ = nil
    reduce_all (cons t ts) ρ = cons (reduce t ρ) (reduce_all ts ρ)

  -- the places of scratch that the reduction of a formula needs
  unfoldable mutual
    pub need : Tree → List ℤ → ℕ
    need (plain b) ρ = 0
    need (atom b p ts) ρ = 0
    need (compare b d x y) ρ = 0
    need (join b ts) ρ = need_all ts ρ
    need (quantifier b v excluded c f) ρ =
        1 + entries table rows c (length ρ + v) (outer ρ ∷ []) + most (λ τ. need f (ρ ++ τ)) (instances v excluded c ρ)
    need (some c) ρ = 0

    pub need_all : Trees → List ℤ → ℕ
    need_all nil ρ = 0
    need_all (cons t ts) ρ = max (need t ρ) (need_all ts ρ)

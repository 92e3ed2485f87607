-- Truth of a tree in a partial structure: when it is true and when it is false. A tree that is neither is open there.
use Rattle.std.specs.Prelude.{ℕ, ◌<◌, ◌≡◌, Bool, true, false, cond, List, [], ◌∷◌, ◌++◌, map, ◌⊎◌, length, get_or, ℤ, pos, ◌+ℤ◌}
use Rattle.std.specs.Int.Signed.{le_z}
use Rattle.model.specs.Words.{Words, same, member}
use Rattle.model.specs.Table.{predicates, arity}
use Rattle.model.specs.Log.{Value, known, rows, value_in}
use Rattle.model.specs.Tree.{Term, constant, variable, Tree, Trees, plain, atom, compare, join, quantifier, some, nil, cons}

-- a ground atom over a table: one of its predicates, at as many whole numbers as its arity
abbrev pub GroundAtom : (table : Words) (p : ℕ) (ns : List ℤ) → Type 0
GroundAtom table p ns = (p < predicates table) × (length ns ≡ arity table p)

-- a partial structure gives each ground atom a value. What it gives for other numbers or lists is no atom's value, and is
-- asked for nowhere: the atoms of an accepted policy, with numbers for its variables, are ground atoms
abbrev pub Structure : Type 0
Structure = ℕ → List ℤ → Value

-- a log over a table, of any number of rows, as a structure
abbrev pub structure : (table log : Words) → Structure
structure table log = value_in table (rows log)

-- every ground atom known in the first has the same value in the second
unfoldable pub Extends : Words → Structure → Structure → Type 0
Extends table s larger = (p : ℕ) (ns : List ℤ) → GroundAtom table p ns → (b : Bool) → s p ns ≡ known b → larger p ns ≡ known b

-- the number of a term, where ρ has the numbers of the variables in scope
unfoldable pub number_of : List ℤ → Term → ℤ
number_of ρ (constant k) = k
number_of ρ (variable x) = get_or ρ x (pos 0)

-- t1 + d ≤ t2 in whole numbers
unfoldable pub sum_at_most : ℤ → ℤ → ℤ → Bool
sum_at_most d x y = le_z (x +ℤ d) y

-- `Is tree s truth ρ`: the tree is true (truth = true), or is false, in the structure s, the variables in scope being ρ
unfoldable mutual
  pub Is : Tree → Structure → Bool → List ℤ → Type 0
  Is (plain b) s truth ρ = truth ≡ b
  Is (atom b p ts) s truth ρ = s p (map (number_of ρ) ts) ≡ known (same truth b)
  Is (compare b d x y) s truth ρ = sum_at_most d (number_of ρ x) (number_of ρ y) ≡ same truth b
  Is (join b ts) s truth ρ = cond (same truth b) (Every ts s truth ρ) (One ts s truth ρ)
  Is (quantifier b v excluded c f) s truth ρ =
      cond (same truth b)
      ((τ : List ℤ) → length τ ≡ v → (member τ excluded ≡ true) ⊎ Is c s false (ρ ++ τ) ⊎ Is f s truth (ρ ++ τ))
      ((τ : List ℤ) × (length τ ≡ v) × (member τ excluded ≡ false) × Is c s true (ρ ++ τ) × Is f s truth (ρ ++ τ))
  Is (some c) s true ρ = (k : ℤ) × Is c s true (ρ ++ k ∷ [])
  Is (some c) s false ρ = (k : ℤ) → Is c s false (ρ ++ k ∷ [])

  -- every one of the trees
  pub Every : Trees → Structure → Bool → List ℤ → Type 0
  Every nil s truth ρ = Unit {0}
  Every (cons t ts) s truth ρ = Is t s truth ρ × Every ts s truth ρ

  -- one of the trees
  pub One : Trees → Structure → Bool → List ℤ → Type 0
  One nil s truth ρ = ⊥
  One (cons t ts) s truth ρ = Is t s truth ρ ⊎ One ts s truth ρ

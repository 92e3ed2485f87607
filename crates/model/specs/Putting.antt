-- Putting numbers in for the outer variables of a tree: they become constants, and greater variable numbers fall.
use Rattle.std.specs.Prelude.{◌-◌, cond, List, map, length, get_or, ltb, ℤ, pos}
use Rattle.model.specs.Tree.{Term, constant, variable, Tree, Trees, plain, atom, compare, join, quantifier, some, nil, cons}

unfoldable pub put_term : List ℤ → Term → Term
put_term ρ (constant k) = constant k
put_term ρ (variable x) = cond (ltb x (length ρ)) (constant (get_or ρ x (pos 0))) (variable (x - length ρ))

unfoldable mutual
  pub put : Tree → List ℤ → Tree
  put (plain b) ρ = plain b
  put (atom b p ts) ρ = atom b p (map (put_term ρ) ts)
  put (compare b d x y) ρ = compare b d (put_term ρ x) (put_term ρ y)
  put (join b ts) ρ = join b (put_all ts ρ)
  put (quantifier b v excluded c f) ρ = quantifier b v excluded (put c ρ) (put f ρ)
  put (some c) ρ = some (put c ρ)

  pub put_all : Trees → List ℤ → Trees
  put_all nil ρ = nil
  put_all (cons t ts) ρ = cons (put t ρ) (put_all ts ρ)

-- The dual of a formula: the tags of each pair change places; restrictions and excluded tuples are copied.
use Rattle.std.specs.Prelude.{not}
use Rattle.model.specs.Tree.{Tree, Trees, plain, atom, compare, join, quantifier, some, nil, cons}

-- the last case stands for no formula
unfoldable mutual
  pub dual : Tree → Tree
  dual (plain b) = plain (not b)
  dual (atom b p ts) = atom (not b) p ts
  dual (compare b d x y) = compare (not b) d x y
  dual (join b ts) = join (not b) (dual_all ts)
  dual (quantifier b v excluded c f) = quantifier (not b) v excluded c (dual f)
  dual (some c) = some c

  pub dual_all : Trees → Trees
  dual_all nil = nil
  dual_all (cons t ts) = cons (dual t) (dual_all ts)

-- Levels: what a node costs, and the greatest level of a tree.
use Rattle.std.specs.Prelude.{ℕ, ◌+◌, max, Bool, cond}
use Rattle.model.specs.Words.{same}
use Rattle.model.specs.Tag.{Tag}
use Rattle.model.specs.Tree.{Tree, Trees, plain, atom, compare, join, quantifier, some, nil, cons}

-- what a node is to the node above it
pub data Role : Type 0 where
  -- a restriction or a node inside one
  restriction : Role
  -- the policy itself, or a quantifier's body
  formula : Role
  -- a formula directly under an all-of (true) or an any-of
  operand : Bool → Role

-- the role of the children of an all-of (true) or any-of
unfoldable pub under : Role → Bool → Role
under restriction b = restriction
under formula b = operand b
under (operand a) b = operand b

-- a for-all directly under all-of, or an exists directly under any-of, costs 1, any other quantifier 2
unfoldable pub quantifier_cost : Role → Bool → ℕ
quantifier_cost restriction b = 2
quantifier_cost formula b = 2
quantifier_cost (operand a) b = cond (same a b) 1 2

-- a node costs 1, a quantifier as above
unfoldable pub cost : Role → Tag → ℕ
cost role (Tag.plain b) = 1
cost role (Tag.atom b) = 1
cost role (Tag.compare b) = 1
cost role (Tag.join b) = 1
cost role (Tag.quantifier b) = quantifier_cost role b
cost role Tag.some = 1
cost role Tag.unused = 1

-- the greatest level in a tree whose root has a role under a node at the level `above` (0: under none)
unfoldable mutual
  pub greatest : Tree → Role → ℕ → ℕ
  greatest (plain b) role above = above + 1
  greatest (atom b p ts) role above = above + 1
  greatest (compare b d x y) role above = above + 1
  greatest (join b ts) role above = max (above + 1) (greatest_all ts (under role b) (above + 1))
  greatest (quantifier b v excluded c f) role above =
      max (greatest c restriction (above + quantifier_cost role b)) (greatest f formula (above + quantifier_cost role b))
  greatest (some c) role above = greatest c restriction (above + 1)

  pub greatest_all : Trees → Role → ℕ → ℕ
  greatest_all nil role above = above
  greatest_all (cons t ts) role above = max (greatest t role above) (greatest_all ts role above)

-- How many parentheses stand open at once in the tokens of a tree.
use Rattle.std.specs.Prelude.{ℕ, suc, max, cond, List, [], ◌∷◌, eqb, ℤ}
use Rattle.model.specs.Tree.{Tree, Trees, plain, atom, compare, join, quantifier, some, nil, cons}
use Rattle.model.specs.Tptp.{is_join}

-- a closing parenthesis
abbrev pub closing : ℕ
closing = 41

-- a tree as an operand, a restriction or a body, with n in its own tokens: an all-of or any-of stands in parentheses
unfoldable pub enclosing : Tree → ℕ → ℕ
enclosing tree n = cond (is_join tree) (suc n) n

-- excluded tuples of v variables
unfoldable pub tupled : ℕ → ℕ
tupled v = cond (eqb v 1) 0 1

-- a restriction with n in its tokens, and the excluded tuples of v variables
unfoldable pub restricting : ℕ → List (List ℤ) → ℕ → ℕ
restricting v [] n = n
restricting v (tuple ∷ tuples) n = suc (max n (tupled v))

-- the most that stand open at once in a tree's tokens, without those around it
unfoldable mutual
  pub opened : Tree → ℕ
  opened (plain b) = 0
  opened (atom b p ts) = 1
  opened (compare b d x y) = 2
  opened (join b ts) = opened_all ts
  opened (quantifier b v excluded c f) =
      suc (max (restricting v excluded (enclosing c (opened c))) (enclosing f (opened f)))
  opened (some c) = suc (opened c)

  -- in those of the operands of an all-of or any-of
  pub opened_all : Trees → ℕ
  opened_all nil = 0
  opened_all (cons t ts) = max (enclosing t (opened t)) (opened_all ts)

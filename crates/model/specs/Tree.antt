-- The tree of a formula or a restriction, and its words.
-- Both are of one type: which nodes may stand where is a question of the reading.
use Rattle.std.specs.Prelude.{ℕ, zero, suc, Bool, cond, List, [], ◌∷◌, ◌++◌, length, ℤ, pos}
use Rattle.model.specs.Words.{Words}
use Rattle.model.specs.Lists.{gather}

-- a constant, or a variable by its number
pub data Term : Type 0 where
  constant : ℤ → Term
  variable : ℕ → Term

mutual
  pub data Tree : Type 0 where
    -- true or false
    plain : Bool → Tree
    -- the atom of a predicate at terms holds (true), or fails
    atom : Bool → ℕ → List Term → Tree
    -- t1 + d ≤ t2 (true), or t1 + d > t2: d, t1, t2
    compare : Bool → ℤ → Term → Term → Tree
    -- all of (true), or any of
    join : Bool → Trees → Tree
    -- for all (true), or exists: how many variables, the excluded tuples, restriction, body
    quantifier : Bool → ℕ → List (List ℤ) → Tree → Tree → Tree
    -- some: binds one variable, in restrictions only
    some : Tree → Tree

  pub data Trees : Type 0 where
    nil : Trees
    cons : Tree → Trees → Trees

unfoldable pub count : Trees → ℕ
count nil = zero
count (cons t ts) = suc (count ts)

unfoldable pub encode_term : Term → Words
encode_term (constant k) = pos 0 ∷ k ∷ []
encode_term (variable x) = pos 1 ∷ pos x ∷ []

-- the words of a tree, in preorder
unfoldable mutual
  pub encode : Tree → Words
  encode (plain b) = pos (cond b 1 0) ∷ []
  encode (atom b p ts) = pos (cond b 2 3) ∷ pos p ∷ pos (length ts) ∷ gather encode_term ts
  encode (compare b d x y) = pos (cond b 4 5) ∷ d ∷ encode_term x ++ encode_term y
  encode (join b ts) = pos (cond b 6 7) ∷ pos (count ts) ∷ encode_all ts
  encode (quantifier b v excluded c f) =
      pos (cond b 8 9) ∷ pos v ∷ pos (length excluded) ∷ gather (λ tuple. tuple) excluded ++ encode c ++ encode f
  encode (some c) = pos 10 ∷ encode c

  pub encode_all : Trees → Words
  encode_all nil = []
  encode_all (cons t ts) = encode t ++ encode_all ts

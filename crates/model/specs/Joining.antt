-- The join rule: one all-of or any-of of reduced parts. All-of, any-of and both quantifiers share it.
use Rattle.std.specs.Prelude.{Bool, false, not, cond, ◌||◌}
use Rattle.model.specs.Words.{same}
use Rattle.model.specs.Tree.{Tree, Trees, plain, atom, compare, join, quantifier, some, nil, cons}

unfoldable pub append : Trees → Trees → Trees
append nil rest = rest
append (cons t ts) rest = cons t (append ts rest)

-- a part is plain with the value that decides the join: false in an all-of, true in an any-of
unfoldable pub decides : Bool → Tree → Bool
decides b (plain a) = same a (not b)
decides b (atom a p ts) = false
decides b (compare a d x y) = false
decides b (join a ts) = false
decides b (quantifier a v excluded c f) = false
decides b (some c) = false

unfoldable pub decided : Bool → Trees → Bool
decided b nil = false
decided b (cons t ts) = decides b t || decided b ts

-- what a part that does not decide gives to the join: plain, nothing; a join of the same kind, its children; else itself
unfoldable pub parts : Bool → Tree → Trees
parts b (plain a) = nil
parts b (atom a p ts) = cons (atom a p ts) nil
parts b (compare a d x y) = cons (compare a d x y) nil
parts b (join a ts) = cond (same a b) ts (cons (join a ts) nil)
parts b (quantifier a v excluded c f) = cons (quantifier a v excluded c f) nil
parts b (some c) = cons (some c) nil

unfoldable pub parts_all : Bool → Trees → Trees
parts_all b nil = nil
parts_all b (cons t ts) = append (parts b t) (parts_all b ts)

-- no part left gives plain, one gives that part
unfoldable pub assemble : Bool → Trees → Tree
assemble b nil = plain b
assemble b (cons t nil) = t
assemble b (cons t (cons u ts)) = join b (cons t (cons u ts))

unfoldable pub joined : Bool → Trees → Tree
joined b ts = cond (decided b ts) (plain (not b)) (assemble b (parts_all b ts))

-- A tree that is read or keeps the rules has excluded tuples of the right length, so that code may walk over it.
use Prim.Native.Nat.{ℕ}
use mathlib.Core.Bool.{Bool}
use Rattle.model.specs.Words.{Words}
use Rattle.model.specs.Tree.{Tree, Trees, plain, atom, compare, join, quantifier, some, nil, cons}
use Rattle.model.specs.Level.{Role}
use Rattle.laws.specs.Reading.Formed.{Formed, FormedAll}
use Rattle.laws.specs.Reading.Nodes.{Node}
use Rattle.trees.specs.Grown.{Tupled, TupledAll, Grown}

mutual
  unfolding Formed Tupled

  pub formed-tupled : (t : Tree) (table : Words) (kind : Bool) (scope : ℕ) → Formed t table kind scope → Tupled t
  formed-tupled (plain b) table kind scope h = tt
  formed-tupled (atom b p ts) table kind scope h = tt
  formed-tupled (compare b d x y) table kind scope h = tt
  formed-tupled (join b ts) table kind scope h = formed-all ts table kind scope h.1
  formed-tupled (quantifier b v excluded c f) table kind scope h =
      (h.3, formed-tupled c table _ _ h.5, formed-tupled f table _ _ h.6)
  formed-tupled (some c) table kind scope h = formed-tupled c table _ _ h.2

  formed-all : (ts : Trees) (table : Words) (kind : Bool) (scope : ℕ) → FormedAll ts table kind scope → TupledAll ts
  formed-all nil table kind scope h = tt
  formed-all (cons t ts) table kind scope h = (formed-tupled t table kind scope h.0, formed-all ts table kind scope h.1)

-- so has a node that stands at a place
pub node_grown :
    (table words : Words) (role : Role) (above scope at : ℕ) (tree : Tree) (next : ℕ) →
    Node table words role above scope at tree next →
    Grown words at tree next
node_grown table words role above scope at tree next n =
    record { stands = n.stands; tupled = formed-tupled tree table _ scope n.formed }

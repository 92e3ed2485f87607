-- Which environments a leaf of a restriction keeps: the leaves are true and false, an atom that is to be false, and a comparison.
use Rattle.std.specs.Prelude.{ℕ, ◌≡◌, Bool, true, false, List}
use Rattle.model.specs.Words.{Words, same}
use Rattle.model.specs.Tree.{Term, Tree, plain, atom, compare, join, quantifier, some}
use Rattle.model.specs.Level.{restriction}
use Rattle.model.specs.Log.{rows, value_in}
use Rattle.model.specs.Truth.{sum_at_most}
use Rattle.model.specs.Listing.{Environment, look, number_in, numbers_in, is_false}
use Rattle.laws.specs.Reading.Nodes.{Node}
use Rattle.environments.specs.declared.environment.Environment.{Environment as Held}
use Rattle.environments.specs.Environment.{Holds}

module _ (table : Words) (rows : List Words) where
  -- a leaf keeps an environment
  unfoldable pub keeps_of : Tree → Environment → Bool
  keeps_of (plain b) e = b
  keeps_of (atom b p ts) e = is_false (value_in table rows p (numbers_in e ts))
  keeps_of (compare b d x y) e = same b (sum_at_most d (number_in (look e x)) (number_in (look e y)))
  keeps_of (join b ts) e = false
  keeps_of (quantifier b v excluded c f) e = false
  keeps_of (some c) e = false

-- r says whether the atom at an index is known to be false; whether the leaf there keeps the environment
abbrev pub TellsFalse : (table words log : Words) (held : Held) (at : ℕ) (r : Bool) → Type 0
TellsFalse table words log held at r =
    (e : Environment) (above scope : ℕ) (b : Bool) (p : ℕ) (ts : List Term) (next : ℕ) →
    Holds held e →
    Node table words restriction above scope at (atom b p ts) next →
    r ≡ is_false (value_in table (rows log) p (numbers_in e ts))

abbrev pub TellsKept : (table words log : Words) (held : Held) (at : ℕ) (r : Bool) → Type 0
TellsKept table words log held at r =
    (e : Environment) (above scope : ℕ) (c : Tree) (next : ℕ) →
    Holds held e →
    Node table words restriction above scope at c next →
    r ≡ keeps_of table (rows log) c e

-- the trees that are leaves
abbrev pub Leaf : (tree : Tree) → Type 0
Leaf (plain b) = Unit {0}
Leaf (atom true p ts) = ⊥
Leaf (atom false p ts) = Unit {0}
Leaf (compare b d x y) = Unit {0}
Leaf (join b ts) = ⊥
Leaf (quantifier b v excluded c f) = ⊥
Leaf (some c) = ⊥

-- Trees that stand in words, for code that walks over them: what is asked of a tree, and how many trees follow a node.
use Rattle.std.specs.Prelude.{ℕ, ◌+◌, ◌≤◌, length}
use Rattle.model.specs.Words.{Words, value}
use Rattle.model.specs.Tag.{Tag}
use Rattle.model.specs.Tree.{Tree, Trees, plain, atom, compare, join, quantifier, some, nil, cons, encode}
use Rattle.laws.specs.Reading.Formed.{AllOfLength}
use Rattle.laws.specs.Words.Standing.{Stands}

-- each excluded tuple has as many numbers as its quantifier has variables
unfoldable mutual
  pub Tupled : Tree → Type 0
  Tupled (plain b) = Unit {0}
  Tupled (atom b p ts) = Unit {0}
  Tupled (compare b d x y) = Unit {0}
  Tupled (join b ts) = TupledAll ts
  Tupled (quantifier b v excluded c f) = AllOfLength v excluded × Tupled c × Tupled f
  Tupled (some c) = Tupled c

  pub TupledAll : Trees → Type 0
  TupledAll nil = Unit {0}
  TupledAll (cons t ts) = Tupled t × TupledAll ts

-- a tree stands at an index, and `next` is the index behind it
pub record Grown (words : Words) (at : ℕ) (tree : Tree) (next : ℕ) : Type 0 where
  pub stands : Stands words at (encode tree) next
  pub tupled : Tupled tree

-- some tree does
abbrev pub Tree-at : (words : Words) (at : ℕ) → Type 0
Tree-at words at = (tree : Tree) × (next : ℕ) × Grown words at tree next

-- some tree does, of at most so many words
abbrev pub Room-at : (words : Words) (at room : ℕ) → Type 0
Room-at words at room = (tree : Tree) × (next : ℕ) × Grown words at tree next × (length (encode tree) ≤ room)

-- so many trees follow the own words of a node
unfoldable pub below : Words → Tag → ℕ → ℕ
below words (Tag.plain b) at = 0
below words (Tag.atom b) at = 0
below words (Tag.compare b) at = 0
below words (Tag.join b) at = value words (at + 1)
below words (Tag.quantifier b) at = 2
below words Tag.some at = 1
below words Tag.unused at = 0

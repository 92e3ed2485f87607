-- The own words of a node, and the terms that end them.
use Rattle.std.specs.Prelude.{ℕ, ◌+◌, ◌*◌, ◌≡◌, List, [], ◌∷◌, ◌++◌, length, pos}
use Rattle.model.specs.Words.{Words, value}
use Rattle.model.specs.Lists.{gather}
use Rattle.model.specs.Tag.{Tag}
use Rattle.model.specs.Tree.{Term, Tree, plain, atom, compare, join, quantifier, some, count, encode_term}
use Rattle.laws.specs.Words.Standing.{Stands, code}
use Rattle.laws.specs.Reading.Parts.{root}

-- n terms stand at an index
pub record Terms (words : Words) (from n : ℕ) (ts : List Term) : Type 0 where
  pub number : length ts ≡ n
  pub stands : Stands words from (gather encode_term ts) (from + 2 * n)

-- so many terms end the own words of a node
unfoldable pub terms : Words → Tag → ℕ → ℕ
terms words (Tag.plain b) at = 0
terms words (Tag.atom b) at = value words (at + 2)
terms words (Tag.compare b) at = 2
terms words (Tag.join b) at = 0
terms words (Tag.quantifier b) at = 0
terms words Tag.some at = 0
terms words Tag.unused at = 0

-- the own words of a node behind its tag
unfoldable pub mine : Tree → Words
mine (plain b) = []
mine (atom b p ts) = pos p ∷ pos (length ts) ∷ gather encode_term ts
mine (compare b d x y) = d ∷ encode_term x ++ encode_term y
mine (join b ts) = pos (count ts) ∷ []
mine (quantifier b v excluded c f) = pos v ∷ pos (length excluded) ∷ gather (λ tuple. tuple) excluded
mine (some c) = []

-- the own words of a node, its tag first
abbrev pub own_words : (t : Tree) → Words
own_words t = pos (code (root t)) ∷ mine t

-- What the writing of a dual asks and says of the words of trees.
use Rattle.std.specs.Prelude.{ℕ, suc, ◌+◌, ◌-◌, ◌≡◌, not, [], ◌∷◌, ◌++◌, length, pos}
use Rattle.model.specs.Words.{Words, value}
use Rattle.model.specs.Lists.{gather}
use Rattle.model.specs.Tag.{Tag}
use Rattle.model.specs.Tree.{Tree, plain, atom, compare, join, quantifier, some, count, encode_term, encode}
use Rattle.trees.specs.declared.walk.Walk.{Walk}
use Rattle.trees.specs.Grown.{Grown}

-- the words of a tree behind its tag that its dual keeps as they are
unfoldable pub kept : Tree → Words
kept (plain b) = []
kept (atom b p ts) = pos p ∷ pos (length ts) ∷ gather encode_term ts
kept (compare b d x y) = d ∷ encode_term x ++ encode_term y
kept (join b ts) = pos (count ts) ∷ []
kept (quantifier b v excluded c f) = pos v ∷ pos (length excluded) ∷ gather (λ tuple. tuple) excluded ++ encode c
kept (some c) = encode c

-- of the trees below a node, so many follow the words that its dual keeps
unfoldable pub formulas : Words → Tag → ℕ → ℕ
formulas words (Tag.plain b) at = 0
formulas words (Tag.atom b) at = 0
formulas words (Tag.compare b) at = 0
formulas words (Tag.join b) at = value words (at + 1)
formulas words (Tag.quantifier b) at = 1
formulas words Tag.some at = 0
formulas words Tag.unused at = 0

-- the tag of the dual
unfoldable pub paired : Tag → Tag
paired (Tag.plain b) = Tag.plain (not b)
paired (Tag.atom b) = Tag.atom (not b)
paired (Tag.compare b) = Tag.compare (not b)
paired (Tag.join b) = Tag.join (not b)
paired (Tag.quantifier b) = Tag.quantifier (not b)
paired Tag.some = Tag.some
paired Tag.unused = Tag.unused

-- the next node of a walk has a tag, and the words that its dual keeps have been passed: the formulas below it are still to be passed,
-- and the trees behind them
pub record PastKept (words : Words) (tag : Tag) (before after : Walk) : Type 0 where
  pub at : (tree : Tree) (next : ℕ) → Grown words before.at tree next → after.at ≡ before.at + suc (length (kept tree))
  pub left : after.left ≡ before.left - 1 + formulas words tag before.at

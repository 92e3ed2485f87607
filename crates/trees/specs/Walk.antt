-- Walks over trees: what stands at the index reached, and what a step past a node does.
use Rattle.std.specs.Prelude.{ℕ, suc, ◌+◌, ◌-◌, ◌≤◌, ◌≡◌, length}
use Rattle.model.specs.Words.{Words}
use Rattle.model.specs.Tag.{Tag}
use Rattle.model.specs.Tree.{Tree, Trees, cons, count, encode_all}
use Rattle.laws.specs.Words.Standing.{Stands}
use Rattle.policies.specs.Node.{Sized}
use Rattle.trees.specs.declared.walk.Walk.{Walk}
use Rattle.trees.specs.Grown.{TupledAll, below}

-- trees stand at an index one behind another, and `end` is the index behind them
pub record Row (words : Words) (at : ℕ) (ts : Trees) (end : ℕ) : Type 0 where
  pub stands : Stands words at (encode_all ts) end
  pub tupled : TupledAll ts

-- what stands at an index is one tree, then others, so many together, up to an end
pub record Ahead (words : Words) (at left : ℕ) (end : ℕ) : Type 0 where
  pub first : Tree
  pub others : Trees
  pub row : Row words at (cons first others) end
  pub number : suc (count others) ≡ left

-- the next node has a tag, and its own words have been passed: the trees below it are still to be passed, and the others
pub record Passed (words : Words) (tag : Tag) (before after : Walk) : Type 0 where
  pub own : ℕ
  pub size : Sized words tag before.at own
  pub some : 1 ≤ own
  pub at : after.at ≡ before.at + own
  pub left : after.left ≡ before.left - 1 + below words tag before.at
  pub fits : after.at + after.left ≤ length words

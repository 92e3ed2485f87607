-- The walk past a tree: the trees that are still to be passed stand at the index reached, and are as many as counted.
use Prim.Native.Nat.{ℕ, ◌≤◌, ◌<◌}
use native.Mathlib.Omega.{arith}
use mathlib.Core.Path.{◌≡◌, refl, sym, subst}
use Rattle.model.specs.Words.{Words, word}
use Rattle.model.specs.Tag.{Tag, tag_of}
use Rattle.model.specs.Tree.{Tree, Trees, nil, cons, count}
use Rattle.trees.specs.declared.walk.Walk.{Walk}
use Rattle.trees.specs.Grown.{Grown, Tree-at}
use Rattle.trees.specs.Walk.{Row, Ahead, Passed}
use Rattle.trees.proofs.Rows.{row_one, row-none}
use Rattle.trees.proofs.Ahead.{ahead, passed_row, passed_count}

-- the walk past the tree at an index: so many trees are left, from an index on
abbrev pub Walking : (words : Words) (at : ℕ) (walk : Walk) → Type 0
Walking words at walk =
    (tree : Tree) (end : ℕ) → Grown words at tree end → (rest : Trees) × Row words walk.at rest end × (count rest ≡ walk.left)

pub walk_start : (words : Words) (at : ℕ) (walk : Walk) → walk ≡ record { at = at; left = 1 } → Walking words at walk
unfolding count
walk_start words at walk e = subst (Walking words at) (sym e) (λ tree end g. (cons tree nil, row_one words at end tree g, refl))

module _ (words : Words) (at : ℕ) (walk : Walk) (w : Walking words at walk) where
  module _ (h : 0 < walk.left) where
    pub walk_ahead : Tree-at words at → (end : ℕ) × Ahead words walk.at walk.left end
    walk_ahead (tree, end, g) = let (rest, row, n) = w tree end g in (end, ahead words walk.at walk.left end rest row n h)

    pub walk_more : (tag : Tag) → tag ≡ tag_of (word words walk.at) → (after : Walk) → Passed words tag walk after → Walking words at after
    walk_more tag e after p tree end g =
        let (rest, row, n) = w tree end g in
        let a = ahead words walk.at walk.left end rest row n h in
        (_, passed_row words walk.at walk.left end a tag e after p, passed_count words walk.at walk.left end a tag e after p)

  pub walk_end : walk.left ≤ 0 → (tree : Tree) (end : ℕ) → Grown words at tree end → walk.at ≡ end
  walk_end h tree end g = let (rest, row, n) = w tree end g in sym (row-none words walk.at end rest row (omega arith)).1

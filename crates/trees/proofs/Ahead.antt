-- The first of the trees that are still to be passed, and what follows its own words.
use Prim.Native.Nat.{ℕ, suc, ◌+◌, ◌-◌, ◌≤◌, ◌<◌}
use native.Mathlib.Omega.{arith}
use mathlib.Core.Path.{◌≡◌, refl, sym, ap, ◌∙◌, subst}
use lib.ListN.{length}
use Rattle.model.specs.Words.{Words, word}
use Rattle.model.specs.Tag.{Tag, tag_of}
use Rattle.model.specs.Tree.{Trees, cons, count, encode}
use Rattle.laws.specs.Reading.Parts.{root}
use Rattle.policies.specs.Node.{There, Sized}
use Rattle.trees.specs.Grown.{Grown, below}
use Rattle.trees.specs.Own.{mine}
use Rattle.trees.specs.Walk.{Row, Ahead, Passed}
use Rattle.trees.specs.declared.walk.Walk.{Walk}
use Rattle.trees.proofs.Rows.{row_first, row-some, row-few, row-children}
use Rattle.trees.proofs.Rows.{glue, glue_count, children, tree_tag, tree-size, tree-own, tree-below}

pub ahead : (words : Words) (at left end : ℕ) (ts : Trees) → Row words at ts end → count ts ≡ left → 0 < left → Ahead words at left end
unfolding count
ahead words at left end ts row e h =
    let (t, us, q) = row-some words at end ts row (omega arith) in
    record { first = t; others = us; row = subst (λ (l : Trees). Row words at l end) q row; number = sym (ap count q) ∙ e }

pub ahead_is :
    (words : Words) (at left end : ℕ) (ts : Trees) (row : Row words at ts end) (e : count ts ≡ left) (h : 0 < left) →
    let a = ahead words at left end ts row e h in
    ts ≡ cons a.first a.others
unfolding ahead
ahead_is words at left end ts row e h = (row-some words at end ts row (omega arith)).2

module _ (words : Words) (at left end : ℕ) (a : Ahead words at left end) where
  pub ahead_tree : Grown words at a.first (at + length (encode a.first))
  ahead_tree = row_first words at end a.first a.others a.row

  pub ahead_tag : tag_of (word words at) ≡ root a.first
  ahead_tag = tree_tag words at _ a.first ahead_tree

  pub ahead_word : at < length words
  unfolding count
  ahead_word = omega (arith, row-few words at end _ a.row)

  -- the own words of the first tree's node, and the trees below it
  module _ (tag : Tag) (e : tag ≡ tag_of (word words at)) where
    pub ahead_size : Sized words tag at (suc (length (mine a.first)))
    ahead_size role scope = rw (e ∙ ahead_tag) (sym (tree-size words at _ a.first ahead_tree role scope))

    pub ahead_there : There words tag at
    ahead_there role scope =
        let next = row-children words at end a.first a.others a.row in
        rw (← ahead_size role scope) (omega (arith, next.stands.ends, next.stands.fits))

    ahead_below : below words tag at ≡ count (children a.first)
    ahead_below = rw (e ∙ ahead_tag) (tree-below words at _ a.first ahead_tree)

    module _ (more own : ℕ) (m : more ≡ below words tag at) (o : Sized words tag at own) where
      own_is : own ≡ suc (length (mine a.first))
      own_is = tree-own words at _ a.first ahead_tree tag e own o

      pub own-some : 1 ≤ own
      own-some = omega (arith, own_is)

      -- behind the own words of a node, the trees below it are still to be passed, and the others
      pub ahead_row : Row words (at + own) (glue (children a.first) a.others) end
      ahead_row =
          subst (λ (n : ℕ). Row words (at + n) (glue (children a.first) a.others) end) (sym own_is)
          (row-children words at end a.first a.others a.row)

      pub ahead_count : count (glue (children a.first) a.others) ≡ left - 1 + more
      ahead_count = omega (arith, glue_count (children a.first) a.others, ahead_below, a.number)

      pub ahead_fits : at + own + (left - 1 + more) ≤ length words
      ahead_fits = omega (arith, row-few words (at + own) end _ ahead_row, ahead_count)

-- a step of a walk past the node of the first tree
module _ (words : Words) (at left end : ℕ) (a : Ahead words at left end) (tag : Tag) (e : tag ≡ tag_of (word words at)) where
  pub passed :
      (after : Walk) (own more : ℕ) → more ≡ below words tag at → Sized words tag at own → after ≡ record { at = at + own; left = left - 1 + more } →
      Passed words tag (record { at = at; left = left }) after
  passed after own more m o is =
      record {
        own = own;
        size = o;
        some = own-some words at left end a tag e more own m o;
        at = ap (λ (w : Walk). w.at) is;
        left = ap (λ (w : Walk). w.left) is ∙ ap (λ (n : ℕ). left - 1 + n) m;
        fits = subst (λ (w : Walk). w.at + w.left ≤ length words) (sym is) (ahead_fits words at left end a tag e more own m o);
      }

  module _ (after : Walk) (p : Passed words tag (record { at = at; left = left }) after) where
    pub passed_row : Row words after.at (glue (children a.first) a.others) end
    passed_row =
        subst (λ (n : ℕ). Row words n (glue (children a.first) a.others) end) (sym p.at)
        (ahead_row words at left end a tag e (below words tag at) p.own refl p.size)

    pub passed_count : count (glue (children a.first) a.others) ≡ after.left
    passed_count = ahead_count words at left end a tag e (below words tag at) p.own refl p.size ∙ sym p.left

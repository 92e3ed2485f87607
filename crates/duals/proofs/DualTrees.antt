-- A tree taken apart for its dual: its tag, the words that its dual keeps, and the formulas below it.
use Prim.Native.Nat.{ℕ, suc, ◌+◌}
use mathlib.Core.Path.{◌≡◌, refl, ap}
use mathlib.Core.Bool.{cond, not}
use mathlib.Core.List.{◌∷◌, ◌++◌, append-nil}
use lib.ListN.{length}
use lib.IntN.{pos}
use Rattle.model.specs.Words.{Words, value}
use Rattle.model.specs.Tree.{Tree, Trees, plain, atom, compare, join, quantifier, some, nil, cons, count, encode, encode_all}
use Rattle.model.specs.Dual.{dual, dual_all}
use Rattle.laws.specs.Words.Standing.{Stands, stands-left, stands-right, two-stand, code}
use Rattle.laws.specs.Reading.Parts.{root}
use Rattle.trees.specs.Grown.{Tupled, TupledAll, Grown}
use Rattle.trees.specs.Walk.{Row}
use Rattle.trees.proofs.Rows.{glue, glue_tupled, row-split}
use Rattle.duals.specs.Dual.{kept, formulas, paired}

pub glue_dual : (ts us : Trees) → dual_all (glue ts us) ≡ glue (dual_all ts) (dual_all us)
unfolding glue dual
glue_dual nil us = refl
glue_dual (cons t ts) us = ap (cons (dual t)) (glue_dual ts us)

-- the formulas below a node
unfoldable pub inner : Tree → Trees
inner (plain b) = nil
inner (atom b p ts) = nil
inner (compare b d x y) = nil
inner (join b ts) = ts
inner (quantifier b v excluded c f) = cons f nil
inner (some c) = nil

-- its tag, the words that its dual keeps, and the formulas below it
pub kept-words : (t : Tree) → encode t ≡ pos (code (root t)) ∷ kept t ++ encode_all (inner t)
unfolding encode kept inner code root
kept-words (plain b) = refl
kept-words (atom b p ts) = rw append-nil
kept-words (compare b d x y) = rw append-nil
kept-words (join b ts) = refl
kept-words (quantifier b v excluded c f) = rw append-nil
kept-words (some c) = rw append-nil

dual-count : (ts : Trees) → count (dual_all ts) ≡ count ts
unfolding dual count
dual-count nil = refl
dual-count (cons t ts) = ap suc (dual-count ts)

-- so is its dual, with the other tag and the duals of these formulas
pub dual-words : (t : Tree) → encode (dual t) ≡ pos (code (paired (root t))) ∷ kept t ++ encode_all (dual_all (inner t))
unfolding encode dual kept inner code root paired
dual-words (plain b) = refl
dual-words (atom b p ts) = rw append-nil
dual-words (compare b d x y) = rw append-nil
dual-words (join b ts) = ap (λ (n : ℕ). pos (cond (not b) 6 7) ∷ pos n ∷ encode_all (dual_all ts)) (dual-count ts)
dual-words (quantifier b v excluded c f) = rw append-nil
dual-words (some c) = rw append-nil

pub inner-tupled : (t : Tree) → Tupled t → TupledAll (inner t)
unfolding Tupled inner
inner-tupled (plain b) h = tt
inner-tupled (atom b p ts) h = tt
inner-tupled (compare b d x y) h = tt
inner-tupled (join b ts) h = h
inner-tupled (quantifier b v excluded c f) h = (h.2, tt)
inner-tupled (some c) h = tt

module _ (words : Words) (at next : ℕ) where
  pub tree-formulas : (t : Tree) → Grown words at t next → formulas words (root t) at ≡ count (inner t)
  unfolding formulas root inner encode value count
  tree-formulas (plain b) g = refl
  tree-formulas (atom b p ts) g = refl
  tree-formulas (compare b d x y) g = refl
  tree-formulas (join b ts) g = let two = two-stand words _ _ _ g.stands in rw two.1
  tree-formulas (quantifier b v excluded c f) g = refl
  tree-formulas (some c) g = refl

-- behind the words that its dual keeps, the formulas below the first tree come before the others
module _ (words : Words) (at end : ℕ) (t : Tree) (us : Trees) (row : Row words at (cons t us) end) where
  pub row-inner : Row words (at + suc (length (kept t))) (glue (inner t) us) end
  unfolding Tupled
  row-inner =
      record {
        stands = stands-right words (pos (code (root t)) ∷ kept t) _ (row-split words at end t us row _ (kept t) (inner t) (kept-words t));
        tupled = glue_tupled (inner t) us (inner-tupled t row.tupled.0) row.tupled.1;
      }

  pub row_kept : Stands words at (pos (code (root t)) ∷ kept t) (at + suc (length (kept t)))
  row_kept = stands-left words (pos (code (root t)) ∷ kept t) _ (row-split words at end t us row _ (kept t) (inner t) (kept-words t))

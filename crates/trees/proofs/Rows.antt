-- Trees one behind another, walked node by node: the own words of the first node are passed, and the trees below it come
-- before the others.
use Prim.Native.Nat.{ℕ, suc, ◌+◌, ◌*◌, ◌≤◌, ◌<◌}
use native.Mathlib.Omega.{arith}
use mathlib.Core.Path.{◌≡◌, refl, sym, ap, ◌∙◌, subst}
use mathlib.Core.List.{List, [], ◌∷◌, ◌++◌, append_assoc, append-nil}
use lib.ListN.{length, length-append}
use lib.IntN.{ℤ, pos}
use Rattle.model.specs.Words.{Words, word, value}
use Rattle.model.specs.Lists.{gather}
use Rattle.model.specs.Tag.{Tag, tag_of}
use Rattle.model.specs.Tree.{Tree, Trees, plain, atom, compare, join, quantifier, some, nil, cons, count, encode, encode_all}
use Rattle.model.specs.Level as L
use Rattle.model.specs.Reading.{own}
use Rattle.laws.specs.Reading.Formed.{AllOfLength}
use Rattle.laws.specs.Words.Standing.{Stands, stands-left, stands-right, stands-first, two-stand, three_stand, code, tag_code}
use Rattle.laws.specs.Reading.Parts.{root}
use Rattle.laws.specs.Reading.Back.{encode_nonempty, count-few}
use Rattle.laws.specs.Putting.Modes.{encode_term-length, terms-length}
use Rattle.policies.specs.Node.{Sized}
use Rattle.trees.specs.Grown.{Tupled, TupledAll, Grown, below}
use Rattle.trees.specs.Own.{mine}
use Rattle.trees.specs.Walk.{Row}

-- trees, then trees
unfoldable pub glue : Trees → Trees → Trees
glue nil us = us
glue (cons t ts) us = cons t (glue ts us)

pub glue_words : (ts us : Trees) → encode_all (glue ts us) ≡ encode_all ts ++ encode_all us
unfolding glue encode
glue_words nil us = refl
glue_words (cons t ts) us = ap (λ (l : Words). encode t ++ l) (glue_words ts us) ∙ sym (append_assoc (encode t) (encode_all ts) (encode_all us))

pub glue_count : (ts us : Trees) → count (glue ts us) ≡ count ts + count us
unfolding glue count
glue_count nil us = omega arith
glue_count (cons t ts) us = omega (arith, glue_count ts us)

pub glue_tupled : (ts us : Trees) → TupledAll ts → TupledAll us → TupledAll (glue ts us)
unfolding glue Tupled
glue_tupled nil us a b = b
glue_tupled (cons t ts) us a b = (a.0, glue_tupled ts us a.1 b)

-- the trees below a node
unfoldable pub children : Tree → Trees
children (plain b) = nil
children (atom b p ts) = nil
children (compare b d x y) = nil
children (join b ts) = ts
children (quantifier b v excluded c f) = cons c (cons f nil)
children (some c) = cons c nil

-- a tree is its tag, its own words, and the trees below it
pub tree-words : (t : Tree) → encode t ≡ pos (code (root t)) ∷ mine t ++ encode_all (children t)
unfolding encode mine children code root
tree-words (plain b) = refl
tree-words (atom b p ts) = rw append-nil
tree-words (compare b d x y) = rw append-nil
tree-words (join b ts) = refl
tree-words (quantifier b v excluded c f) = rw (append-nil, append_assoc)
tree-words (some c) = rw append-nil

pub children-tupled : (t : Tree) → Tupled t → TupledAll (children t)
unfolding Tupled children
children-tupled (plain b) h = tt
children-tupled (atom b p ts) h = tt
children-tupled (compare b d x y) h = tt
children-tupled (join b ts) h = h
children-tupled (quantifier b v excluded c f) h = (h.1, (h.2, tt))
children-tupled (some c) h = (h, tt)

-- how many words excluded tuples have
tuples-long : (v : ℕ) (τs : List (List ℤ)) → AllOfLength v τs → length (gather (λ (tuple : List ℤ). tuple) τs) ≡ v * length τs
unfolding gather AllOfLength
tuples-long v [] h = omega arith
tuples-long v (τ ∷ τs) h = length-append τ (gather (λ (tuple : List ℤ). tuple) τs) ∙ omega (arith, h.0, tuples-long v τs h.1)

module _ (words : Words) (at end : ℕ) (t : Tree) (us : Trees) (row : Row words at (cons t us) end) where
  -- the first of them
  pub row_first : Grown words at t (at + length (encode t))
  unfolding encode Tupled
  row_first = record { stands = stands-left words (encode t) (encode_all us) row.stands; tupled = row.tupled.0 }

-- one tree is such a row
pub row_one : (words : Words) (at end : ℕ) (t : Tree) → Grown words at t end → Row words at (cons t nil) end
unfolding encode Tupled
row_one words at end t g = record { stands = rw append-nil g.stands; tupled = (g.tupled, tt) }

-- no tree is left
pub row-none : (words : Words) (at end : ℕ) (ts : Trees) → Row words at ts end → count ts ≤ 0 → (ts ≡ nil) × (end ≡ at)
unfolding encode count
row-none words at end nil row h = (refl, omega (arith, row.stands.ends))
row-none words at end (cons t ts) row h = absurd (omega arith)

-- some tree is left
pub row-some : (words : Words) (at end : ℕ) (ts : Trees) → Row words at ts end → 0 < count ts → (t : Tree) × (us : Trees) × (ts ≡ cons t us)
unfolding count
row-some words at end nil row h = absurd (omega arith)
row-some words at end (cons t us) row h = (t, us, refl)

-- there are no more trees left than words
pub row-few : (words : Words) (at end : ℕ) (ts : Trees) → Row words at ts end → at + count ts ≤ length words
row-few words at end ts row = omega (arith, count-few ts, row.stands.ends, row.stands.fits)

module _ (words : Words) (at next : ℕ) where
  -- the tag of the tree at an index
  pub tree_tag : (t : Tree) → Grown words at t next → tag_of (word words at) ≡ root t
  tree_tag t g =
      ap tag_of (stands-first words _ _ (subst (λ (l : Words). Stands words at l next) (tree-words t) g.stands)) ∙ tag_code (root t)

  -- how many words of its own it has, and how many trees below it
  pub tree-size :
      (t : Tree) → Grown words at t next → (role : L.Role) (scope : ℕ) → (own words (root t) role scope at).size ≡ suc (length (mine t))
  unfolding own root mine encode Tupled value
  tree-size (plain b) g role scope = refl
  tree-size (atom b p ts) g role scope =
      let three = three_stand words _ _ _ _ g.stands in
      rw (three.2, terms-length) (omega arith)
  tree-size (compare b d x y) g role scope = rw (length-append, encode_term-length x, encode_term-length y)
  tree-size (join b ts) g role scope = refl
  tree-size (quantifier b v excluded c f) g role scope =
      let three = three_stand words _ _ _ _ g.stands in
      rw (three.1, three.2, tuples-long v excluded g.tupled.0) (omega arith)
  tree-size (some c) g role scope = refl

  -- the number of its own words, as its tag and its words tell it
  pub tree-own :
      (t : Tree) →
      Grown words at t next →
      (tag : Tag) →
      tag ≡ tag_of (word words at) →
      (n : ℕ) →
      Sized words tag at n →
      n ≡ suc (length (mine t))
  tree-own t g tag e n o =
      o L.Role.formula 0
      ∙ ap (λ (k : Tag). (own words k L.Role.formula 0 at).size) (e ∙ tree_tag t g)
      ∙ tree-size t g L.Role.formula 0

  pub tree-below : (t : Tree) → Grown words at t next → below words (root t) at ≡ count (children t)
  unfolding below root children encode value count
  tree-below (plain b) g = refl
  tree-below (atom b p ts) g = refl
  tree-below (compare b d x y) g = refl
  tree-below (join b ts) g = let two = two-stand words _ _ _ g.stands in rw two.1
  tree-below (quantifier b v excluded c f) g = refl
  tree-below (some c) g = refl

-- its first word
pub tree-word : (words : Words) (at next : ℕ) (t : Tree) → Grown words at t next → at < length words
tree-word words at next t g = omega (arith, encode_nonempty t, g.stands.ends, g.stands.fits)

-- a row whose first tree is its tag and some words, then some trees: these come before the others
module _ (words : Words) (at end : ℕ) (t : Tree) (us : Trees) (row : Row words at (cons t us) end) where
  pub row-split :
      (z : ℤ) (own : Words) (ts : Trees) →
      encode t ≡ z ∷ own ++ encode_all ts →
      Stands words at ((z ∷ own) ++ encode_all (glue ts us)) end
  unfolding encode
  row-split z own ts e =
      subst (λ (l : Words). Stands words at l end)
      (ap (λ (l : Words). l ++ encode_all us) e
      ∙ append_assoc (z ∷ own) (encode_all ts) (encode_all us)
      ∙ ap (λ (l : Words). (z ∷ own) ++ l) (sym (glue_words ts us)))
      row.stands

  -- behind a node's own words, the trees below it
  pub row-children : Row words (at + suc (length (mine t))) (glue (children t) us) end
  unfolding Tupled
  row-children =
      record {
        stands = stands-right words (pos (code (root t)) ∷ mine t) _ (row-split _ (mine t) (children t) (tree-words t));
        tupled = glue_tupled (children t) us (children-tupled t row.tupled.0) row.tupled.1;
      }

-- The own words of a node, its terms last, and what putting numbers in makes of them: only the terms change.
use Prim.Native.Nat.{ℕ, suc, ◌+◌, ◌*◌}
use native.Mathlib.Omega.{arith}
use mathlib.Core.Path.{◌≡◌, refl, sym, ap, ap₂, ◌∙◌}
use mathlib.Core.List.{List, [], ◌∷◌, ◌++◌, map, append_assoc, append-nil}
use lib.ListN.{length, length-append, length-map}
use lib.IntN.{ℤ, pos}
use Rattle.model.specs.Words.{Words, value}
use Rattle.model.specs.Lists.{gather}
use Rattle.model.specs.Tag.{Tag}
use Rattle.model.specs.Tree.{Term, Tree, Trees, plain, atom, compare, join, quantifier, some, nil, cons, count, encode_term, encode}
use Rattle.model.specs.Tree.{encode_all}
use Rattle.model.specs.Putting.{put_term, put, put_all}
use Rattle.laws.specs.Words.Standing.{three_stand, code}
use Rattle.laws.specs.Reading.Parts.{root}
use Rattle.laws.specs.Putting.Parts.{put_count}
use Rattle.laws.specs.Putting.Modes.{terms-length}
use Rattle.trees.specs.Grown.{Grown}
use Rattle.trees.specs.Own.{terms, mine, own_words}
use Rattle.trees.proofs.Rows.{glue, glue_words, children, tree-words}

-- the own words of a node between its tag and its terms, and the terms
unfoldable pub lead : Tree → Words
lead (plain b) = []
lead (atom b p ts) = pos p ∷ pos (length ts) ∷ []
lead (compare b d x y) = d ∷ []
lead (join b ts) = pos (count ts) ∷ []
lead (quantifier b v excluded c f) = pos v ∷ pos (length excluded) ∷ gather (λ tuple. tuple) excluded
lead (some c) = []

unfoldable pub terms_of : Tree → List Term
terms_of (plain b) = []
terms_of (atom b p ts) = ts
terms_of (compare b d x y) = x ∷ y ∷ []
terms_of (join b ts) = []
terms_of (quantifier b v excluded c f) = []
terms_of (some c) = []

pub mine-parts : (t : Tree) → mine t ≡ lead t ++ gather encode_term (terms_of t)
unfolding mine lead terms_of gather
mine-parts (plain b) = refl
mine-parts (atom b p ts) = refl
mine-parts (compare b d x y) = ap (λ (l : Words). d ∷ encode_term x ++ l) (sym (append-nil (encode_term y)))
mine-parts (join b ts) = refl
mine-parts (quantifier b v excluded c f) =
    ap (λ (l : Words). pos v ∷ pos (length excluded) ∷ l) (sym (append-nil (gather (λ tuple. tuple) excluded)))
mine-parts (some c) = refl

-- how many words these are
pub mine-long : (t : Tree) → length (mine t) ≡ length (lead t) + 2 * length (terms_of t)
mine-long t = ap length (mine-parts t) ∙ length-append (lead t) (gather encode_term (terms_of t)) ∙ omega (arith, terms-length (terms_of t))

-- how many terms
pub tree-terms : (words : Words) (at next : ℕ) (t : Tree) → Grown words at t next → terms words (root t) at ≡ length (terms_of t)
unfolding terms root terms_of encode value
tree-terms words at next (plain b) g = refl
tree-terms words at next (atom b p ts) g = let three = three_stand words _ _ _ _ g.stands in rw three.2
tree-terms words at next (compare b d x y) g = refl
tree-terms words at next (join b ts) g = refl
tree-terms words at next (quantifier b v excluded c f) g = refl
tree-terms words at next (some c) g = refl

-- with numbers put in
module _ (ρ : List ℤ) where
  put-root : (t : Tree) → root (put t ρ) ≡ root t
  unfolding root put
  put-root (plain b) = refl
  put-root (atom b p ts) = refl
  put-root (compare b d x y) = refl
  put-root (join b ts) = refl
  put-root (quantifier b v excluded c f) = refl
  put-root (some c) = refl

  put_lead : (t : Tree) → lead (put t ρ) ≡ lead t
  unfolding lead put
  put_lead (plain b) = refl
  put_lead (atom b p ts) = ap (λ (n : ℕ). pos p ∷ pos n ∷ []) (length-map ts (put_term ρ))
  put_lead (compare b d x y) = refl
  put_lead (join b ts) = ap (λ (n : ℕ). pos n ∷ []) (put_count ts ρ)
  put_lead (quantifier b v excluded c f) = refl
  put_lead (some c) = refl

  put-terms : (t : Tree) → terms_of (put t ρ) ≡ map (put_term ρ) (terms_of t)
  unfolding terms_of put
  put-terms (plain b) = refl
  put-terms (atom b p ts) = refl
  put-terms (compare b d x y) = refl
  put-terms (join b ts) = refl
  put-terms (quantifier b v excluded c f) = refl
  put-terms (some c) = refl

  put-children : (t : Tree) → children (put t ρ) ≡ put_all (children t) ρ
  unfolding children put
  put-children (plain b) = refl
  put-children (atom b p ts) = refl
  put-children (compare b d x y) = refl
  put-children (join b ts) = refl
  put-children (quantifier b v excluded c f) = refl
  put-children (some c) = refl

  -- the own words: the tag and what stands behind it up to the terms stay
  pub put-own : (t : Tree) → own_words (put t ρ) ≡ (pos (code (root t)) ∷ lead t) ++ gather encode_term (map (put_term ρ) (terms_of t))
  put-own t =
      ap (λ (l : Words). pos (code (root (put t ρ))) ∷ l) (mine-parts (put t ρ))
      ∙ ap (λ (k : Tag). pos (code k) ∷ (lead (put t ρ) ++ gather encode_term (terms_of (put t ρ)))) (put-root t)
      ∙ ap₂ (λ (l : Words) (ts : List Term). pos (code (root t)) ∷ (l ++ gather encode_term ts)) (put_lead t) (put-terms t)

  pub put-own-long : (t : Tree) → length (own_words (put t ρ)) ≡ suc (length (mine t))
  put-own-long t =
      let both = ap length (put_lead t) in
      let same = ap (λ (l : List Term). length l) (put-terms t) ∙ length-map (terms_of t) (put_term ρ) in
      omega (arith, mine-long (put t ρ), mine-long t)

  glue_put : (ts us : Trees) → put_all (glue ts us) ρ ≡ glue (put_all ts ρ) (put_all us ρ)
  unfolding glue put
  glue_put nil us = refl
  glue_put (cons t ts) us = ap (cons (put t ρ)) (glue_put ts us)

  -- of trees, the own words of the first node come first, and then the trees below it before the others
  pub put_first :
      (t : Tree) (us : Trees) →
      encode_all (put_all (cons t us) ρ) ≡ own_words (put t ρ) ++ encode_all (put_all (glue (children t) us) ρ)
  unfolding put encode
  put_first t us =
      let own = own_words (put t ρ) in
      let below = encode_all (put_all (children t) ρ) in
      let others = encode_all (put_all us ρ) in
      ap (λ (l : Words). l ++ others) (tree-words (put t ρ) ∙ ap (λ (ts : Trees). own ++ encode_all ts) (put-children t))
      ∙ append_assoc own below others
      ∙ ap (λ (l : Words). own ++ l) (sym (ap encode_all (glue_put (children t) us) ∙ glue_words (put_all (children t) ρ) (put_all us ρ)))

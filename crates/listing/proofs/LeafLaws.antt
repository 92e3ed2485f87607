-- A leaf of a restriction in its words: how many they are; and the environments that it keeps, as lists of one or none.
use Prim.Native.Nat.{ℕ, suc, ◌+◌}
use native.Mathlib.Omega.{arith}
use mathlib.Core.Path.{◌≡◌, refl, ap, ◌∙◌}
use mathlib.Core.Bool.{Bool, true, false, cond}
use mathlib.Core.List.{List, [], ◌∷◌, ◌++◌}
use lib.ListN.{length, length-append}
use Rattle.model.specs.Words.{Words, word}
use Rattle.model.specs.Lists.{keep, gather}
use Rattle.model.specs.Tag.{Tag, tag_of}
use Rattle.model.specs.Tree.{Tree, Trees, plain, atom, compare, join, quantifier, some, nil, encode, encode_all}
use Rattle.model.specs.Reading.{own}
use Rattle.model.specs.Listing.{Environment}
use Rattle.policies.specs.Node.{There, Sized}
use Rattle.trees.specs.Grown.{Grown}
use Rattle.trees.specs.Own.{mine}
use Rattle.trees.proofs.Rows.{children, tree-words, tree_tag, tree-size, tree-own}
use Rattle.listing.specs.Keeping.{Leaf}

-- no tree stands below a leaf
no-children : (c : Tree) → Leaf c → children c ≡ nil
unfolding children
no-children (plain b) l = refl
no-children (atom true p ts) l = absurd l
no-children (atom false p ts) l = refl
no-children (compare b d x y) l = refl
no-children (join b ts) l = absurd l
no-children (quantifier b v excluded c f) l = absurd l
no-children (some c) l = absurd l

module _ (words : Words) (at next : ℕ) (c : Tree) (g : Grown words at c next) (tag : Tag) (e : tag ≡ tag_of (word words at)) where
  all_words : length (encode c) ≡ suc (length (mine c) + length (encode_all (children c)))
  all_words = ap length (tree-words c) ∙ ap suc (length-append (mine c) (encode_all (children c)))

  -- its own words are there
  pub tree-there : There words tag at
  tree-there role scope =
      let n : (own words tag role scope at).size ≡ suc (length (mine c)) =
      ap (λ (k : Tag). (own words k role scope at).size) (e ∙ tree_tag words at next c g) ∙ tree-size words at next c g role scope in
      omega (arith, all_words, g.stands.ends, g.stands.fits)

  -- and end where the leaf ends
  pub leaf-behind : Leaf c → (n : ℕ) → Sized words tag at n → at + n ≡ next
  unfolding encode_all
  leaf-behind l n s =
      let own-words = tree-own words at next c g tag e n s in
      let none : length (encode_all (children c)) ≡ 0 = ap (λ (ts : Trees). length (encode_all ts)) (no-children c l) in
      omega (arith, all_words, g.stands.ends)

-- what is kept of an environment: itself, or nothing
abbrev pub kept : (test : Environment → Bool) (e : Environment) → List Environment
kept test e = cond (test e) (e ∷ []) []

pub keep-gather : (test : Environment → Bool) (es : List Environment) → gather (kept test) es ≡ keep test es
unfolding gather keep
keep-gather test [] = refl
keep-gather test (e ∷ es) = go (test e) (keep-gather test es)
  where
    go : (b : Bool) → gather (kept test) es ≡ keep test es → cond b (e ∷ []) [] ++ gather (kept test) es ≡ cond b (e ∷ keep test es) (keep test es)
    go true ih = ap (λ (l : List Environment). e ∷ l) ih
    go false ih = ih

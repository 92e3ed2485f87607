-- The list of a leaf of a restriction has the environments that the leaf keeps; and which tags are those of leaves. By the cases of
-- the tree.
use Prim.Native.Nat.{ℕ}
use mathlib.Core.Path.{◌≡◌, refl, ap, ◌∙◌}
use mathlib.Core.Bool.{Bool, true, false, cond, false≢true}
use mathlib.Core.List.{List, [], ◌∷◌}
use lib.ListN.{length}
use Rattle.model.specs.Words.{Words, word}
use Rattle.model.specs.Lists.{keep}
use Rattle.model.specs.Tag.{Tag, tag_of}
use Rattle.model.specs.Tree.{Tree, plain, atom, compare, join, quantifier, some}
use Rattle.model.specs.Level.{restriction}
use Rattle.model.specs.Reading.{is_formula}
use Rattle.model.specs.Listing.{Environment, list, entries}
use Rattle.laws.specs.Reading.Formed.{Formed}
use Rattle.laws.specs.Reading.Nodes.{Node}
use Rattle.laws.specs.Reading.Parts.{root, root_tag}
use Rattle.listing.specs.Keeping.{keeps_of, Leaf}

-- the tags that only leaves of a restriction have
abbrev pub LeafTag : (tag : Tag) → Type 0
LeafTag (Tag.plain b) = Unit {0}
LeafTag (Tag.atom true) = ⊥
LeafTag (Tag.atom false) = Unit {0}
LeafTag (Tag.compare b) = Unit {0}
LeafTag (Tag.join b) = ⊥
LeafTag (Tag.quantifier b) = Unit {0}
LeafTag Tag.some = ⊥
LeafTag Tag.unused = Unit {0}

module _ (table words : Words) (above scope at next : ℕ) where
  root-leaf : (c : Tree) → Node table words restriction above scope at c next → LeafTag (root c) → Leaf c
  unfolding root Formed is_formula
  root-leaf (plain b) node l = tt
  root-leaf (atom true p ts) node l = l
  root-leaf (atom false p ts) node l = tt
  root-leaf (compare b d x y) node l = tt
  root-leaf (join b ts) node l = l
  root-leaf (quantifier b v excluded c f) node l = absurd (false≢true node.formed.0)
  root-leaf (some c) node l = l

  -- a node with such a tag is a leaf
  pub leaf-here : (tag : Tag) → tag ≡ tag_of (word words at) → LeafTag tag → (c : Tree) → Node table words restriction above scope at c next → Leaf c
  leaf-here tag e l c node = root-leaf c node (rw (e ∙ root_tag table words restriction above scope at next c node) at l)

-- all environments are kept, or none
keep-plain : (b : Bool) (es : List Environment) → cond b es [] ≡ keep (λ e. b) es
unfolding keep
keep-plain true [] = refl
keep-plain true (e ∷ es) = ap (λ (l : List Environment). e ∷ l) (keep-plain true es)
keep-plain false [] = refl
keep-plain false (e ∷ es) = keep-plain false es

module _ (table : Words) (rows : List Words) where
  -- the list of a leaf has the environments that it keeps
  pub list-leaf : (c : Tree) → Leaf c → (next : ℕ) (es : List Environment) → list table rows c next es ≡ keep (keeps_of table rows c) es
  unfolding list keeps_of
  list-leaf (plain b) l next es = keep-plain b es
  list-leaf (atom true p ts) l next es = absurd l
  list-leaf (atom false p ts) l next es = refl
  list-leaf (compare b d x y) l next es = refl
  list-leaf (join b ts) l next es = absurd l
  list-leaf (quantifier b v excluded c f) l next es = absurd l
  list-leaf (some c) l next es = absurd l

  -- and has no entries but these
  pub entries-leaf : (c : Tree) → Leaf c → (next : ℕ) (es : List Environment) → entries table rows c next es ≡ length (keep (keeps_of table rows c) es)
  unfolding entries
  entries-leaf (plain b) l next es = ap length (list-leaf (plain b) l next es)
  entries-leaf (atom true p ts) l next es = absurd l
  entries-leaf (atom false p ts) l next es = ap length (list-leaf (atom false p ts) l next es)
  entries-leaf (compare b d x y) l next es = ap length (list-leaf (compare b d x y) l next es)
  entries-leaf (join b ts) l next es = absurd l
  entries-leaf (quantifier b v excluded c f) l next es = absurd l
  entries-leaf (some c) l next es = absurd l

-- The mode rule over a restriction that stands at a place: what the node's tag says of its tree, what the walk of the nodes
-- below asks and comes to.
use Prim.Native.Nat.{ℕ, ◌+◌}
use mathlib.Core.Path.{◌≡◌, refl, sym, ap, subst}
use mathlib.Core.Bool.{Bool, false≢true}
use mathlib.Core.List.{List}
use lib.IntN.{ℤ, nat_abs}
use Rattle.model.specs.Words.{Words, word, value}
use Rattle.model.specs.Tag.{Tag, tag_of}
use Rattle.model.specs.Tree.{Term, Tree, Trees, atom, compare, join, some, count}
use Rattle.model.specs.Level.{restriction, under}
use Rattle.model.specs.Reading.{is_formula}
use Rattle.model.specs.Mode.{Variables, bindings}
use Rattle.laws.specs.Reading.Formed.{Formed}
use Rattle.laws.specs.Reading.Nodes.{Node, Nodes}
use Rattle.laws.specs.Reading.Parts.{AtomParts, CompareParts, atom-parts, compare-parts, join-parts, some-parts}
use Rattle.laws.specs.Reading.Parts.{plain-parts}
use Rattle.std.specs.Prelude.{Result, Ok}
use Rattle.model.specs.declared.Refused.{Refused}
use Rattle.modes.specs.declared.marks.Marks.{Marks}
use Rattle.modes.specs.declared.mode.Bound.{Bound}
use Rattle.policies.proofs.Standing.{has}
use Rattle.modes.specs.Mode.{set_of, Binds}

-- the tags that the walk of a restriction has no case for
abbrev pub Other : (tag : Tag) → Type 0
Other (Tag.plain b) = Unit {0}
Other (Tag.atom b) = ⊥
Other (Tag.compare b) = ⊥
Other (Tag.join b) = ⊥
Other (Tag.quantifier b) = Unit {0}
Other Tag.some = ⊥
Other Tag.unused = Unit {0}

module _ (table words : Words) (above scope at : ℕ) where
  abbrev Restricts : Tree → ℕ → Type 0
  Restricts c next = Node table words restriction above scope at c next

  -- from what comes of the node's parts to what comes of the node
  module _ (v : Variables) (r : Result Bound Refused) where
    abbrev Comes : Type 0
    Comes = (c : Tree) (next : ℕ) → Restricts c next → Binds c table v scope at next r

    pub from-atom :
        (b : Bool) → Tag.atom b ≡ tag_of (word words at) →
        ((p : ℕ) (ts : List Term) (scope next : ℕ) → AtomParts words scope at next p ts → Binds (atom b p ts) table v scope at next r) →
        Comes
    from-atom b e h c next node =
        let (p, ts, is) = has table words restriction above scope at (Tag.atom b) e c next node in
        subst (λ (t : Tree). Binds t table v scope at next r) (sym is)
        (h p ts scope next (atom-parts table words restriction above scope at next b p ts (subst (λ (t : Tree). Restricts t next) is node)))

    pub from-compare :
        (b : Bool) → Tag.compare b ≡ tag_of (word words at) →
        ((table : Words) (b : Bool) (d : ℤ) (x y : Term) (scope next : ℕ) → CompareParts words scope at next d x y → Binds (compare b d x y) table v scope at next r) →
        Comes
    from-compare b e h c next node =
        let (d, x, y, is) = has table words restriction above scope at (Tag.compare b) e c next node in
        subst (λ (t : Tree). Binds t table v scope at next r) (sym is)
        (h table b d x y scope next (compare-parts table words restriction above scope at next b d x y (subst (λ (t : Tree). Restricts t next) is node)))

    pub from-join :
        (b : Bool) → Tag.join b ≡ tag_of (word words at) →
        ((ts : Trees) (next : ℕ) → Nodes table words restriction (above + 1) scope (at + 2) ts next → count ts ≡ value words (at + 1) → Binds (join b ts) table v scope at next r) →
        Comes
    unfolding value under
    from-join b e h c next node =
        let (ts, is) = has table words restriction above scope at (Tag.join b) e c next node in
        let a = join-parts table words restriction above scope at next b ts (subst (λ (t : Tree). Restricts t next) is node) in
        subst (λ (t : Tree). Binds t table v scope at next r) (sym is) (h ts next a.children (sym (ap nat_abs a.number)))

    pub from_some :
        Tag.some ≡ tag_of (word words at) →
        ((c : Tree) (next : ℕ) → Node table words restriction (above + 1) (scope + 1) (at + 1) c next → Binds (some c) table v scope at next r) →
        Comes
    from_some e h c next node =
        let (d, is) = has table words restriction above scope at Tag.some e c next node in
        subst (λ (t : Tree). Binds t table v scope at next r) (sym is)
        (h d next (some-parts table words restriction above scope at next d (subst (λ (t : Tree). Restricts t next) is node)))

  -- a plain node, the only other one in a restriction
  pub from-plain :
      (tag : Tag) → tag ≡ tag_of (word words at) → Other tag → (set : Marks) →
      (c : Tree) (next : ℕ) → Restricts c next → Binds c table (set_of set) scope at next (Ok (record { set = set; next = at + 1 }))
  unfolding bindings Formed is_formula
  from-plain (Tag.plain b) e o set c next node =
      let is = has table words restriction above scope at (Tag.plain b) e c next node in
      subst (λ (t : Tree). Binds t table (set_of set) scope at next (Ok (record { set = set; next = at + 1 }))) (sym is)
      (record {
        outcome = refl;
        stands = sym (plain-parts table words restriction above scope at next b (subst (λ (t : Tree). Restricts t next) is node));
      })
  from-plain (Tag.atom b) e o set c next node = absurd o
  from-plain (Tag.compare b) e o set c next node = absurd o
  from-plain (Tag.join b) e o set c next node = absurd o
  from-plain (Tag.quantifier b) e o set c next node =
      let (v, excluded, d, f, is) = has table words restriction above scope at (Tag.quantifier b) e c next node in
      absurd (false≢true (subst (λ (t : Tree). Restricts t next) is node).formed.0)
  from-plain Tag.some e o set c next node = absurd o
  from-plain Tag.unused e o set c next node = absurd (has table words restriction above scope at Tag.unused e c next node)

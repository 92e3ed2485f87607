-- From what comes of a node's parts to what comes of the node, by its tag.
use Prim.Native.Nat.{ℕ, ◌+◌}
use mathlib.Core.Path.{◌≡◌, sym, ap, ap₂, subst}
use mathlib.Core.Bool.{Bool, true}
use mathlib.Core.List.{List}
use lib.ListN.{length}
use lib.IntN.{nat_abs}
use Rattle.model.specs.Words.{Words, word, value}
use Rattle.model.specs.Lists.{gather}
use Rattle.model.specs.Log.{rows}
use Rattle.model.specs.Tag.{Tag, tag_of}
use Rattle.model.specs.Tree.{Term, Tree}
use Rattle.model.specs.Level.{restriction, under}
use Rattle.model.specs.Listing.{Environment, matches, list, entries}
use Rattle.laws.specs.Reading.Nodes.{Node}
use Rattle.laws.specs.Reading.Parts.{atom-parts, join-parts, some-parts}
use Rattle.policies.proofs.Standing.{atom-words, has}
use Rattle.listing.specs.declared.room.Room.{Room}
use Rattle.listing.specs.declared.room.Made.{Made}
use Rattle.std.specs.Prelude.{Option, IfSome}
use Rattle.listing.proofs.Leaves.{LeafTag, leaf-here}
use Rattle.listing.specs.Restrictions.{Placed, MakesAtom, MakesTree, MakesNode, MakesJoin, MakesSome, MakesKept, matched}
use Rattle.listing.proofs.MapRoom.{makes_same}

-- by the node's tag
module _ (table words log : Words) (above scope at : ℕ) (room : Room) (before after : Words) (r : Option Made) where
  abbrev Comes : Type 0
  Comes = MakesNode table words log above scope at room before after r

  abbrev Restricts : Tree → ℕ → Type 0
  Restricts c next = Node table words restriction above scope at c next

  pub from-atom : Tag.atom true ≡ tag_of (word words at) → MakesAtom words log at room before after r → Comes
  unfolding list entries
  from-atom e m c next node =
      let (p, ts, is) = has table words restriction above scope at (Tag.atom true) e c next node in
      let a = atom-words words scope at next p ts (atom-parts table words restriction above scope at next true p ts (subst (λ (t : Tree). Restricts t next) is node)) in
      let same : (es : List Environment) → matched words log at es ≡ gather (matches (rows log) p ts) es =
      λ es. ap₂ (λ (q : ℕ) (us : List Term). gather (matches (rows log) q us) es) a.predicate a.terms in
      subst (λ (t : Tree). MakesTree table log t scope next room before after r) (sym is)
      (subst (λ (k : ℕ). IfSome r (Placed room k)) a.ends m.0, λ es h. makes_same (same es) (ap length (same es)) (m.1 es h))

  pub from-kept : (tag : Tag) → tag ≡ tag_of (word words at) → LeafTag tag → MakesKept table words log at room before after r → Comes
  from-kept tag e l m c next node = m above scope c next node (leaf-here table words above scope at next tag e l c node)

  pub from-join :
      (b : Bool) → Tag.join b ≡ tag_of (word words at) →
      MakesJoin b table words log (above + 1) scope (value words (at + 1)) (at + 2) room before after r →
      Comes
  unfolding value under
  from-join b e m c next node =
      let (ts, is) = has table words restriction above scope at (Tag.join b) e c next node in
      let a = join-parts table words restriction above scope at next b ts (subst (λ (t : Tree). Restricts t next) is node) in
      subst (λ (t : Tree). MakesTree table log t scope next room before after r) (sym is) (m ts next a.children (sym (ap nat_abs a.number)))

  pub from_some : Tag.some ≡ tag_of (word words at) → MakesSome table words log above scope at room before after r → Comes
  from_some e m c next node =
      let (d, is) = has table words restriction above scope at Tag.some e c next node in
      subst (λ (t : Tree). MakesTree table log t scope next room before after r) (sym is)
      (m d next (some-parts table words restriction above scope at next d (subst (λ (t : Tree). Restricts t next) is node)))

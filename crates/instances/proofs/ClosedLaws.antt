-- The walk over a restriction: it is closed exactly if the trees that are left are, as long as each predicate met is complete.
use Prim.Native.Nat.{ℕ, ◌+◌, ◌≤◌, ◌<◌}
use native.Mathlib.Omega.{arith}
use mathlib.Core.Path.{◌≡◌, refl, sym, ap, ◌∙◌, subst}
use mathlib.Core.Bool.{Bool, true, false, ◌&&◌, false≢true}
use lib.ListN.{length}
use Rattle.model.specs.Words.{Words, word, value}
use Rattle.model.specs.Table.{complete}
use Rattle.model.specs.Tag.{Tag, tag_of}
use Rattle.model.specs.Tree.{Tree, Trees, plain, atom, compare, join, quantifier, some, nil, cons, count, encode}
use Rattle.model.specs.Level.{restriction}
use Rattle.model.specs.Reading.{is_formula}
use Rattle.model.specs.Reduction.{closed, closed_all}
use Rattle.laws.specs.Reading.Formed.{Formed, FormedAll}
use Rattle.laws.specs.Reading.Nodes.{Node}
use Rattle.laws.specs.Reading.Parts.{root}
use Rattle.laws.specs.Words.Standing.{three_stand}
use Rattle.policies.specs.declared.node.Tag.{Tag as Read}
use Rattle.policies.specs.declared.node.Tag.TheVariants.{Plain, Atom, Compare, Join, Quantifier, Some, Unused}
use Rattle.policies.specs.Node.{as_tag}
use Rattle.trees.specs.declared.walk.Walk.{Walk}
use Rattle.trees.specs.Grown.{Grown}
use Rattle.trees.specs.Walk.{Row, Ahead, Passed}
use Rattle.trees.proofs.Rows.{row_one, row-none, glue, children}
use Rattle.trees.proofs.Ahead.{ahead, ahead_is, ahead_tree, ahead_tag, ahead_word, passed_row, passed_count}
use Rattle.trees.proofs.Forming.{node_grown}
use Rattle.environments.specs.Standing.{HereRestriction}
use Rattle.instances.specs.Closing.{complete_at, TellsClosed}

-- an atom asks its predicate; and what is no atom asks nothing
pub complete-atom :
    (table words : Words) (at : ℕ) (tag : Read) (b : Bool) (p : ℕ) (r : Bool) → tag ≡ Atom b → p ≡ value words (at + 1) → r ≡ complete table p →
    r ≡ complete_at table words (as_tag tag) at
unfolding complete_at
complete-atom table words at tag b p r is e q =
    q ∙ ap (complete table) e ∙ sym (ap (λ (k : Read). complete_at table words (as_tag k) at) is)

pub complete-other :
    (table words : Words) (at : ℕ) (tag : Read) → ((b : Bool) → tag ≡ Atom b → ⊥) →
    true ≡ complete_at table words (as_tag tag) at
unfolding complete_at
complete-other table words at (Plain b) k = refl
complete-other table words at (Atom b) k = absurd (k b refl)
complete-other table words at (Compare b) k = refl
complete-other table words at (Join b) k = refl
complete-other table words at (Quantifier b) k = refl
complete-other table words at Some k = refl
complete-other table words at Unused k = refl

-- there is no quantifier in a tree
unfoldable mutual
  pub Bare : Tree → Type 0
  Bare (plain b) = Unit {0}
  Bare (atom b p ts) = Unit {0}
  Bare (compare b d x y) = Unit {0}
  Bare (join b ts) = BareAll ts
  Bare (quantifier b v excluded c f) = ⊥
  Bare (some c) = Bare c

  pub BareAll : Trees → Type 0
  BareAll nil = Unit {0}
  BareAll (cons t ts) = Bare t × BareAll ts

-- so it is in a restriction
mutual
  unfolding Formed Bare

  formed_bare : (t : Tree) (table : Words) (scope : ℕ) → Formed t table false scope → Bare t
  formed_bare (plain b) table scope h = tt
  formed_bare (atom b p ts) table scope h = tt
  formed_bare (compare b d x y) table scope h = tt
  formed_bare (join b ts) table scope h = formed-all ts table scope h.1
  formed_bare (quantifier b v excluded c f) table scope h = false≢true h.0
  formed_bare (some c) table scope h = formed_bare c table (scope + 1) h.2

  formed-all : (ts : Trees) (table : Words) (scope : ℕ) → FormedAll ts table false scope → BareAll ts
  formed-all nil table scope h = tt
  formed-all (cons t ts) table scope h = (formed_bare t table scope h.0, formed-all ts table scope h.1)

node-bare :
    (table words : Words) (above scope at : ℕ) (c : Tree) (next : ℕ) → Node table words restriction above scope at c next → Bare c
unfolding is_formula
node-bare table words above scope at c next n = formed_bare c table scope n.formed

-- trees, then trees
glue_bare : (ts us : Trees) → BareAll ts → BareAll us → BareAll (glue ts us)
unfolding glue Bare
glue_bare nil us a b = b
glue_bare (cons t ts) us a b = (a.0, glue_bare ts us a.1 b)

and_assoc : (a b c : Bool) → (a && b) && c ≡ a && (b && c)
and_assoc true b c = refl
and_assoc false b c = refl

and_one : (a : Bool) → a && true ≡ a
and_one true = refl
and_one false = refl

glue_closed : (ts us : Trees) (table : Words) → closed_all (glue ts us) table ≡ closed_all ts table && closed_all us table
unfolding glue closed
glue_closed nil us table = refl
glue_closed (cons t ts) us table =
    ap (λ (b : Bool). closed t table && b) (glue_closed ts us table) ∙ sym (and_assoc (closed t table) (closed_all ts table) (closed_all us table))

children-bare : (t : Tree) → Bare t → BareAll (children t)
unfolding children Bare
children-bare (plain b) h = tt
children-bare (atom b p ts) h = tt
children-bare (compare b d x y) h = tt
children-bare (join b ts) h = h
children-bare (quantifier b v excluded c f) h = absurd h
children-bare (some c) h = (h, tt)

-- the node at an index is closed exactly if its predicate is complete and its children are closed
module _ (table words : Words) (at next : ℕ) where
  tree-closed :
      (t : Tree) → Grown words at t next → Bare t → closed t table ≡ complete_at table words (root t) at && closed_all (children t) table
  unfolding complete_at closed Bare root children encode value
  tree-closed (plain b) g h = refl
  tree-closed (atom b p ts) g h = let three = three_stand words _ _ _ _ g.stands in rw three.1 (sym (and_one (complete table p)))
  tree-closed (compare b d x y) g h = refl
  tree-closed (join b ts) g h = refl
  tree-closed (quantifier b v excluded c f) g h = absurd h
  tree-closed (some c) g h = sym (and_one (closed c table))

module _ (table words : Words) (at : ℕ) where
  -- so many trees are left, from an index on, up to the end of the tree; and it is closed exactly if these are
  pub record Partly (c : Tree) (end : ℕ) (walk : Walk) : Type 0 where
    pub rest : Trees
    pub row : Row words walk.at rest end
    pub number : count rest ≡ walk.left
    pub bare : BareAll rest
    pub same : closed c table ≡ closed_all rest table

  abbrev pub Closing : (walk : Walk) → Type 0
  Closing walk =
      (above scope : ℕ) (c : Tree) (end : ℕ) → Node table words restriction above scope at c end → Partly c end walk

module _ (table words : Words) (at : ℕ) where
  pub close_start : (walk : Walk) → walk ≡ record { at = at; left = 1 } → Closing table words at walk
  unfolding count Bare closed
  close_start walk e = subst (Closing table words at) (sym e) (λ above scope c end n.
      record {
        rest = cons c nil;
        row = row_one words at end c (node_grown table words restriction above scope at c end n);
        number = refl;
        bare = (node-bare table words above scope at c end n, tt);
        same = sym (and_one (closed c table));
      })

  module _ (walk : Walk) (w : Closing table words at walk) where
    -- nothing is left
    pub close_end : walk.left ≤ 0 → TellsClosed table words at true
    unfolding closed
    close_end h above scope c end n =
        let p = w above scope c end n in
        let none = (row-none words walk.at end p.rest p.row (omega (arith, p.number))).0 in
        sym (p.same ∙ ap (λ (ts : Trees). closed_all ts table) none)

    module _ (h : 0 < walk.left) where
      first : (c : Tree) (end : ℕ) → Partly table words at c end walk → Ahead words walk.at walk.left end
      first c end p = ahead words walk.at walk.left end p.rest p.row p.number h

      -- the next node, and those left behind it
      first-bare : (c : Tree) (end : ℕ) (p : Partly table words at c end walk) → BareAll (cons (first c end p).first (first c end p).others)
      unfolding first
      first-bare c end p =
          subst (λ (ts : Trees). BareAll ts) (ahead_is words walk.at walk.left end p.rest p.row p.number h) p.bare

      first-closed :
          (c : Tree) (end : ℕ) (p : Partly table words at c end walk) →
          closed c table ≡ closed_all (cons (first c end p).first (first c end p).others) table
      unfolding first
      first-closed c end p =
          p.same ∙ ap (λ (ts : Trees). closed_all ts table) (ahead_is words walk.at walk.left end p.rest p.row p.number h)

      pub close_ahead : HereRestriction table words at → (end : ℕ) × Ahead words walk.at walk.left end
      close_ahead (above, scope, few, (c, end, n)) = (end, first c end (w above scope c end n))

      pub close_asks : HereRestriction table words at → walk.at < length words
      close_asks there = let (end, a) = close_ahead there in ahead_word words walk.at walk.left end a

      module _ (tag : Tag) (e : tag ≡ tag_of (word words walk.at)) where
        -- what the next node adds
        split :
            (c : Tree) (end : ℕ) (p : Partly table words at c end walk) →
            let a = first c end p in
            closed c table ≡ complete_at table words tag walk.at && closed_all (glue (children a.first) a.others) table
        unfolding closed Bare
        split c end p =
            let a = first c end p in
            let here = complete_at table words tag walk.at in
            let under = closed_all (children a.first) table in
            let others = closed_all a.others table in
            first-closed c end p
            ∙ ap (λ (b : Bool). b && others)
            (tree-closed table words walk.at _ a.first (ahead_tree words walk.at walk.left end a) (first-bare c end p).0
            ∙ ap (λ (k : Tag). complete_at table words k walk.at && under) (sym (e ∙ ahead_tag words walk.at walk.left end a)))
            ∙ and_assoc here under others
            ∙ ap (λ (b : Bool). here && b) (sym (glue_closed (children a.first) a.others table))

        -- its predicate is not complete
        pub close_open : complete_at table words tag walk.at ≡ false → TellsClosed table words at false
        close_open q above scope c end n =
            let p = w above scope c end n in
            let a = first c end p in
            sym (split c end p ∙ ap (λ (b : Bool). b && closed_all (glue (children a.first) a.others) table) q)

        pub close_more : complete_at table words tag walk.at ≡ true → (after : Walk) → Passed words tag walk after → Closing table words at after
        unfolding Bare
        close_more q after step above scope c end n =
            let p = w above scope c end n in
            let a = first c end p in
            let all = first-bare c end p in
            record {
              rest = glue (children a.first) a.others;
              row = passed_row words walk.at walk.left end a tag e after step;
              number = passed_count words walk.at walk.left end a tag e after step;
              bare = glue_bare (children a.first) a.others (children-bare a.first all.0) all.1;
              same = split c end p ∙ ap (λ (b : Bool). b && closed_all (glue (children a.first) a.others) table) q;
            }

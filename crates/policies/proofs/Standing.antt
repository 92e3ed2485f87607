-- A node that stands at an index: what its tag says of its tree, and what stands below it.
use Prim.Native.Nat.{ℕ, ◌+◌, ◌*◌, ◌^◌, ◌≤◌, ◌<◌}
use native.Mathlib.Omega.{arith}
use mathlib.Core.Path.{◌≡◌, refl, sym, ap, ap₂, ◌∙◌, subst}
use mathlib.Core.Logic.{⊎_elim}
use mathlib.Core.Bool.{Bool, true}
use mathlib.Core.List.{List, [], ◌∷◌, map}
use lib.ListN.{length}
use lib.IntN.{ℤ, pos, nat_abs}
use Rattle.model.specs.Words.{Words, word, value, below, equal}
use Rattle.model.specs.Lists.{all}
use Rattle.model.specs.Table.{predicates}
use Rattle.model.specs.Tag.{Tag, tag_of}
use Rattle.model.specs.Tree.{Term, Tree, Trees, plain, atom, compare, join, quantifier, some, nil, cons, count, encode_all}
use Rattle.model.specs.Level.{Role, restriction, under}
use Rattle.model.specs.Reading.{places, term_at, in_scope}
use Rattle.laws.specs.Words.Tests.{or_cases, or_left, or_right}
use Rattle.laws.specs.Lists.Membership.{all_mem, all_intro}
use Rattle.laws.specs.Reading.Formed.{Formed}
use Rattle.laws.specs.Level.{greatest-least}
use Rattle.laws.specs.Reading.Back.{encode_nonempty}
use Rattle.laws.specs.Reading.Items.{two-places}
use Rattle.laws.specs.Words.Standing.{below-value, below-pos}
use Rattle.laws.specs.Reading.Nodes.{Node, Nodes}
use Rattle.laws.specs.Reading.Parts.{root, root_tag, AtomParts, CompareParts, atom-parts, compare-parts, join-parts, some-parts}
use Rattle.policies.specs.Standing.{terms_at, Here, HereAll, HereAtom, HereTerms}

-- what a tag says of a tree that has it at its root
abbrev pub Has : (tag : Tag) (c : Tree) → Type 0
Has (Tag.plain b) c = c ≡ plain b
Has (Tag.atom b) c = (p : ℕ) × (ts : List Term) × (c ≡ atom b p ts)
Has (Tag.compare b) c = (d : ℤ) × (x : Term) × (y : Term) × (c ≡ compare b d x y)
Has (Tag.join b) c = (ts : Trees) × (c ≡ join b ts)
Has (Tag.quantifier b) c = (v : ℕ) × (excluded : List (List ℤ)) × (r : Tree) × (f : Tree) × (c ≡ quantifier b v excluded r f)
Has Tag.some c = (r : Tree) × (c ≡ some r)
Has Tag.unused c = ⊥

has_root : (c : Tree) → Has (root c) c
unfolding root
has_root (plain b) = refl
has_root (atom b p ts) = (p, ts, refl)
has_root (compare b d x y) = (d, x, y, refl)
has_root (join b ts) = (ts, refl)
has_root (quantifier b v excluded r f) = (v, excluded, r, f, refl)
has_root (some r) = (r, refl)

module _ (table words : Words) (role : Role) (above scope at : ℕ) where
  -- the tree that stands at a place has the tag that is read there
  pub has : (tag : Tag) → tag ≡ tag_of (word words at) → (c : Tree) (next : ℕ) → Node table words role above scope at c next → Has tag c
  has tag e c next node =
      subst (λ (t : Tag). Has t c) (sym (e ∙ root_tag table words role above scope at next c node)) (has_root c)

-- a node stands below the last level, and within the words; so do nodes
module _ (table words : Words) (role : Role) (above scope at : ℕ) where
  pub low : Here table words role above scope at → above + 1 ≤ 64
  low (c, next, node) = omega (arith, greatest-least c role above, node.levels)

  pub inside : Here table words role above scope at → at + 1 ≤ length words
  inside (c, next, node) = omega (arith, encode_nonempty c, node.stands.ends, node.stands.fits)

  pub inside-all : (n : ℕ) → HereAll table words role above scope n at → at ≤ length words
  inside-all n (ts, next, e, nodes) = omega (arith, nodes.stands.ends, nodes.stands.fits)

-- fewer variables in scope are in scope
scope-more : (words : Words) (scope first n : ℕ) → scope ≤ 16 → all (in_scope words scope) (places first n) ≡ true → all (in_scope words 16) (places first n) ≡ true
unfolding in_scope
scope-more words scope first n h e =
    all_intro _ (places first n) (λ i m.
    ⊎_elim
    (λ k. or_left (equal (word words i) (pos 0)) _ k)
    (λ k. or_right (equal (word words i) (pos 0)) _ (let (is, small) = below-value scope (word words (i + 1)) k in subst (λ (z : ℤ). below 16 z ≡ true) (sym is) (below-pos 16 _ (omega arith))))
    (or_cases (equal (word words i) (pos 0)) (below scope (word words (i + 1))) (all_mem (in_scope words scope) e m)))

-- the own words of an atom
pub record AtomWords (words : Words) (at next p : ℕ) (ts : List Term) : Type 0 where
  pub predicate : value words (at + 1) ≡ p
  pub number : value words (at + 2) ≡ length ts
  pub terms : terms_at words (at + 3) (value words (at + 2)) ≡ ts
  pub ends : at + 3 + 2 * value words (at + 2) ≡ next

pub atom-words :
    (words : Words) (scope at next p : ℕ) (ts : List Term) →
    AtomParts words scope at next p ts →
    AtomWords words at next p ts
unfolding value terms_at
atom-words words scope at next p ts a =
    let n : nat_abs (word words (at + 2)) ≡ length ts = ap nat_abs a.number in
    record {
      predicate = ap nat_abs a.predicate;
      number = n;
      terms = ap (λ (k : ℕ). map (term_at words) (places (at + 3) k)) n ∙ a.reads.terms;
      ends = ap (λ (k : ℕ). at + 3 + 2 * k) n ∙ sym a.ends;
    }

-- the terms of a comparison
pub compare-words :
    (words : Words) (scope at next : ℕ) (d : ℤ) (x y : Term) →
    CompareParts words scope at next d x y →
    terms_at words (at + 2) 2 ≡ x ∷ y ∷ []
unfolding terms_at
compare-words words scope at next d x y a =
    ap (map (term_at words)) (two-places at)
    ∙ ap₂ (λ (s t : Term). s ∷ t ∷ []) a.left.term a.right.term

compare-range :
    (words : Words) (scope at : ℕ) →
    in_scope words scope (at + 2) ≡ true →
    in_scope words scope (at + 4) ≡ true →
    all (in_scope words scope) (places (at + 2) 2) ≡ true
unfolding all
compare-range words scope at h k = rw (two-places at) (rw (h, k))

module _ (table words : Words) (above scope at : ℕ) where
  abbrev Restricts : Tree → ℕ → Type 0
  Restricts c next = Node table words restriction above scope at c next

  -- the terms of an atom
  pub here-terms :
      scope ≤ 16 →
      (b : Bool) →
      Tag.atom b ≡ tag_of (word words at) →
      Here table words restriction above scope at →
      length words < 2 ^ 64 →
      HereTerms words at
  unfolding Formed value
  here-terms small b e (c, next, node) long =
      let (p, ts, is) = has table words restriction above scope at (Tag.atom b) e c next node in
      let node' = subst (λ (t : Tree). Restricts t next) is node in
      let a = atom-parts table words restriction above scope at next b p ts node' in
      let n : value words (at + 2) ≡ length ts = ap nat_abs a.number in (
        subst (λ (k : ℕ). k ≤ 6) (sym n) node'.formed.3,
        subst (λ (k : ℕ). at + 3 + 2 * k < 2 ^ 64) (sym n) (omega (arith, a.ends, node'.stands.fits)),
        subst (λ (k : ℕ). all (in_scope words 16) (places (at + 3) k) ≡ true) (sym n) (scope-more words scope (at + 3) (length ts) small a.reads.range),
      )

  -- what the walk of an atom asks
  pub here-atom :
      predicates table ≤ 256 →
      scope ≤ 16 →
      (b : Bool) →
      Tag.atom b ≡ tag_of (word words at) →
      Here table words restriction above scope at →
      length words < 2 ^ 64 →
      HereAtom words at
  unfolding Formed value
  here-atom few small b e (c, next, node) long =
      let (p, ts, is) = has table words restriction above scope at (Tag.atom b) e c next node in
      let node' = subst (λ (t : Tree). Restricts t next) is node in
      let a = atom-parts table words restriction above scope at next b p ts node' in
      let terms = here-terms small b e (c, next, node) long in (
        subst (λ (k : ℕ). k < 256) (sym (ap nat_abs a.predicate)) (omega (arith, node'.formed.0)),
        terms.0,
        terms.1,
        terms.2,
      )

  -- a comparison
  pub here-compare :
      scope ≤ 16 →
      (b : Bool) →
      Tag.compare b ≡ tag_of (word words at) →
      Here table words restriction above scope at →
      length words < 2 ^ 64 →
      (at + 6 < 2 ^ 64) × (all (in_scope words 16) (places (at + 2) 2) ≡ true)
  here-compare small b e (c, next, node) long =
      let (d, x, y, is) = has table words restriction above scope at (Tag.compare b) e c next node in
      let node' = subst (λ (t : Tree). Restricts t next) is node in
      let a = compare-parts table words restriction above scope at next b d x y node' in (
        omega (arith, a.ends, node'.stands.fits),
        scope-more words scope (at + 2) 2 small (compare-range words scope at a.left.range a.right.range),
      )

  -- the children of a join
  pub here-join :
      (b : Bool) →
      Tag.join b ≡ tag_of (word words at) →
      Here table words restriction above scope at →
      HereAll table words restriction (above + 1) scope (value words (at + 1)) (at + 2) × (2 ≤ value words (at + 1))
  unfolding value Formed under
  here-join b e (c, next, node) =
      let (ts, is) = has table words restriction above scope at (Tag.join b) e c next node in
      let node' = subst (λ (t : Tree). Restricts t next) is node in
      let a = join-parts table words restriction above scope at next b ts node' in
      let n : value words (at + 1) ≡ count ts = ap nat_abs a.number in
      ((ts, next, sym n, a.children), subst (λ (k : ℕ). 2 ≤ k) (sym n) node'.formed.0)

  -- the restriction below a "some"
  pub here-some : Tag.some ≡ tag_of (word words at) → Here table words restriction above scope at → (scope + 1 ≤ 16) × Here table words restriction (above + 1) (scope + 1) (at + 1)
  unfolding Formed
  here-some e (c, next, node) =
      let (r, is) = has table words restriction above scope at Tag.some e c next node in
      let node' = subst (λ (t : Tree). Restricts t next) is node in
      (node'.formed.1, (r, next, some-parts table words restriction above scope at next r node'))

-- nodes one behind another, of which some are passed
module _ (table words : Words) (above scope : ℕ) where
  abbrev Stand : ℕ → Trees → ℕ → Type 0
  Stand at ts end = Nodes table words restriction above scope at ts end

  -- the first of the trees left, and the others behind it
  pub first-left : (at n i : ℕ) (rest : Trees) (end : ℕ) → count rest + i ≡ n → i < n → Stand at rest end → (t : Tree) × (us : Trees) × (rest ≡ cons t us)
  unfolding count
  first-left at n i nil end e h s = absurd (omega arith)
  first-left at n i (cons t us) end e h s = (t, us, refl)

  -- none is left: the index reached is that behind
  pub none_left : (at : ℕ) (rest : Trees) (end : ℕ) → Stand at rest end → count rest ≤ 0 → (rest ≡ nil) × (end ≡ at)
  unfolding count encode_all
  none_left at nil end s h = (refl, omega (arith, s.stands.ends))
  none_left at (cons t us) end s h = absurd (omega arith)

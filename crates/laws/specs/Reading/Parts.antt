-- A node that stands at a place, taken apart: its own words, and the nodes below it at their places. By the laws of parts
-- of words, case by case of the root.
use Rattle.std.specs.Prelude.{ℕ, ◌+◌, ◌*◌, ◌≡◌, Bool, List, ◌++◌, ℤ, pos}
use native.Mathlib.Omega.{arith}
use Rattle.std.proofs.Common.{ap, ◌∙◌}
use Rattle.std.proofs.Math.ListN.{length, length-append}
use Rattle.model.specs.Words.{Words, word}
use Rattle.model.specs.Lists.{gather}
use Rattle.model.specs.Tag.{Tag, tag_of}
use Rattle.model.specs.Tree.{Term, Tree, Trees, plain, atom, compare, join, quantifier, some, cons}
use Rattle.model.specs.Tree.{count, encode_term, encode, encode_all}
use Rattle.model.specs.Level.{Role, restriction, formula, under, quantifier_cost, greatest}
use Rattle.model.specs.Reading.{is_formula}
use Rattle.laws.specs.Reading.Formed.{Formed}
use Rattle.laws.specs.Words.Standing.{stands-left, stands-right, stands-first, stands-rest}
use Rattle.laws.specs.Words.Standing.{two-stand, three_stand, code, tag_code}
use Rattle.laws.specs.Reading.Items.{ReadsTerm, ReadsTerms, tuples, term_back, terms_back, tuples_back}
use Rattle.laws.specs.Reading.Nodes.{Node, Nodes, under-kind}

-- the root's tag
unfoldable pub root : Tree → Tag
root (plain b) = Tag.plain b
root (atom b p ts) = Tag.atom b
root (compare b d x y) = Tag.compare b
root (join b ts) = Tag.join b
root (quantifier b v excluded c f) = Tag.quantifier b
root (some c) = Tag.some

module _ (words : Words) (scope at next : ℕ) where
  -- an atom: its predicate, the number of its terms, and they
  pub record AtomParts (p : ℕ) (ts : List Term) : Type 0 where
    pub predicate : word words (at + 1) ≡ pos p
    pub number : word words (at + 2) ≡ pos (length ts)
    pub reads : ReadsTerms words scope (at + 3) ts
    pub ends : next ≡ at + 3 + 2 * length ts

  -- a comparison: its number and its two terms
  pub record CompareParts (d : ℤ) (x y : Term) : Type 0 where
    pub number : word words (at + 1) ≡ d
    pub left : ReadsTerm words scope (at + 2) x
    pub right : ReadsTerm words scope (at + 4) y
    pub ends : next ≡ at + 6

module _ (table words : Words) (scope at next : ℕ) where
  -- a quantifier: the numbers of its variables and tuples, the tuples, its restriction at `start`, and its body
  pub record QuantifierParts (v : ℕ) (excluded : List (List ℤ)) (c f : Tree) (level start : ℕ) : Type 0 where
    pub variables : word words (at + 1) ≡ pos v
    pub number : word words (at + 2) ≡ pos (length excluded)
    pub reads : tuples words v (at + 3) (length excluded) ≡ excluded
    pub restricts : Node table words restriction level (scope + v) start c (start + length (encode c))
    pub body : Node table words formula level (scope + v) (start + length (encode c)) f next

module _ (table words : Words) (role : Role) (above scope at next : ℕ) where
  -- an all-of or any-of: the number of its children, and they
  pub record JoinParts (b : Bool) (ts : Trees) : Type 0 where
    pub number : word words (at + 1) ≡ pos (count ts)
    pub children : Nodes table words (under role b) (above + 1) scope (at + 2) ts next

  -- the word of a node's tag stands first
  pub root-word : (tree : Tree) → Node table words role above scope at tree next → word words at ≡ pos (code (root tree))
  unfolding encode root code
  root-word (plain b) node = stands-first words _ _ node.stands
  root-word (atom b p ts) node = stands-first words _ _ node.stands
  root-word (compare b d x y) node = stands-first words _ _ node.stands
  root-word (join b ts) node = stands-first words _ _ node.stands
  root-word (quantifier b v excluded c f) node = stands-first words _ _ node.stands
  root-word (some c) node = stands-first words _ _ node.stands

  -- and stands for that tag
  pub root_tag : (tree : Tree) → Node table words role above scope at tree next → tag_of (word words at) ≡ root tree
  root_tag tree node = ap tag_of (root-word tree node) ∙ tag_code (root tree)

  -- true or false is one word
  pub plain-parts : (b : Bool) → Node table words role above scope at (plain b) next → next ≡ at + 1
  unfolding encode
  plain-parts b node = node.stands.ends

  -- an atom taken apart
  pub atom-parts :
      (b : Bool) (p : ℕ) (ts : List Term) →
      Node table words role above scope at (atom b p ts) next →
      AtomParts words scope at next p ts
  unfolding encode Formed
  atom-parts b p ts node =
      let own = three_stand words _ _ _ _ node.stands in
      let terms = terms_back words scope (at + 3) next ts own.3 node.formed.4 in
      record { predicate = own.1; number = own.2; reads = terms.0; ends = terms.1 }

  -- a comparison taken apart
  pub compare-parts :
      (b : Bool) (d : ℤ) (x y : Term) →
      Node table words role above scope at (compare b d x y) next →
      CompareParts words scope at next d x y
  unfolding encode Formed
  compare-parts b d x y node =
      let own = two-stand words _ _ _ node.stands in
      let left = term_back words scope _ _ x (stands-left words (encode_term x) (encode_term y) own.2) node.formed.0 in
      let start : at + 2 + length (encode_term x) ≡ at + 4 = left.1 ∙ omega arith in
      let rest = rw start at (stands-right words (encode_term x) (encode_term y) own.2) in
      let right = term_back words scope (at + 4) next y rest node.formed.1 in
      record { number = own.1; left = left.0; right = right.0; ends = right.1 ∙ omega arith }

  -- an all-of or any-of taken apart
  pub join-parts :
      (b : Bool) (ts : Trees) →
      Node table words role above scope at (join b ts) next →
      JoinParts b ts
  unfolding encode Formed greatest
  join-parts b ts node =
      let own = two-stand words _ _ _ node.stands in
      record {
        number = own.1;
        children =
            record {
              stands = own.2;
              formed = rw (under-kind role b) node.formed.1;
              levels = omega (arith, node.levels);
            };
      }

  -- a quantifier taken apart
  pub quantifier-parts :
      (b : Bool) (v : ℕ) (excluded : List (List ℤ)) (c f : Tree) →
      Node table words role above scope at (quantifier b v excluded c f) next →
      let start = at + 3 + v * length excluded in
      QuantifierParts table words scope at next v excluded c f (above + quantifier_cost role b) start
  unfolding encode Formed greatest is_formula
  quantifier-parts b v excluded c f node =
      let own = three_stand words _ _ _ _ node.stands in
      let τs = gather (λ tuple. tuple) excluded in
      let front = stands-left words (τs ++ encode c) (encode f) own.3 in
      let first = stands-left words τs (encode c) front in
      let reads = tuples_back words v (at + 3) (at + 3 + length τs) excluded first node.formed.3 in
      let start = at + 3 + v * length excluded in
      let both = length-append τs (encode c) in
      let middle : at + 3 + length (τs ++ encode c) ≡ start + length (encode c) = omega (arith, both, reads.1) in
      record {
        variables = own.1;
        number = own.2;
        reads = reads.0;
        restricts =
            record {
              stands = rw (middle, reads.1) at (stands-right words τs (encode c) front);
              formed = node.formed.5;
              levels = omega (arith, node.levels);
            };
        body =
            record {
              stands = rw middle at (stands-right words (τs ++ encode c) (encode f) own.3);
              formed = node.formed.6;
              levels = omega (arith, node.levels);
            };
      }

  -- the restriction of a some
  pub some-parts :
      (c : Tree) →
      Node table words role above scope at (some c) next →
      Node table words restriction (above + 1) (scope + 1) (at + 1) c next
  unfolding encode Formed greatest is_formula
  some-parts c node = record { stands = stands-rest words _ _ node.stands; formed = node.formed.2; levels = node.levels }

  -- the first of trees one behind another
  pub first-parts :
      (t : Tree) (ts : Trees) →
      Nodes table words role above scope at (cons t ts) next →
      Node table words role above scope at t (at + length (encode t))
  unfolding encode Formed greatest
  first-parts t ts nodes =
      record {
        stands = stands-left words (encode t) (encode_all ts) nodes.stands;
        formed = nodes.formed.0;
        levels = omega (arith, nodes.levels);
      }

  -- the others
  pub rest-parts :
      (t : Tree) (ts : Trees) →
      Nodes table words role above scope at (cons t ts) next →
      Nodes table words role above scope (at + length (encode t)) ts next
  unfolding encode Formed greatest
  rest-parts t ts nodes =
      record {
        stands = stands-right words (encode t) (encode_all ts) nodes.stands;
        formed = nodes.formed.1;
        levels = omega (arith, nodes.levels);
      }

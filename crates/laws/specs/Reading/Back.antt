-- What is written is read back: of a tree that keeps the rules and the level limit, the words are read, and give the tree.
-- By induction on the depth of the reading: each node costs at least one level, so that the depth suffices.
use Prim.Native.Nat.{ℕ, zero, suc, ◌+◌, ◌≤◌, ◌<◌}
use native.Mathlib.Omega.{arith}
use Rattle.std.specs.Prelude.{◌≡◌, Bool, true, false, cond, ℤ}
use Rattle.std.proofs.Math.Path.{refl}
use Rattle.std.proofs.Common.{ap, length-append}
use mathlib.Core.List.{List}
use Rattle.std.proofs.Math.ListN.{length}
use borrow.Author.Tests.{le-leb, eq-eqb}
use Rattle.model.specs.declared.Refusal.TheVariants.{PolicyLength, Shape}
use Rattle.model.specs.Words.{Words, value, same, policy_limit, level_limit}
use Rattle.model.specs.Lists.{all}
use Rattle.model.specs.Answer.{Outcome, passed}
use Rattle.model.specs.Table.{predicates}
use Rattle.model.specs.Tag.{Tag}
use Rattle.model.specs.Tree.{Tree, Trees, plain, atom, compare, join, quantifier, some, nil, cons, count, encode, encode_all}
use Rattle.model.specs.Level.{Role, restriction, formula, operand, under, quantifier_cost, cost, greatest}
use Rattle.model.specs.Reading.{Read, is_formula, repeat, own, good_predicate, build, read_node, read_policy}
use Rattle.laws.specs.Words.Tests.{and-true}
use Rattle.laws.specs.Reading.Formed.{Formed}
use Rattle.laws.specs.Answer.{ask-true, pass_then}
use Rattle.laws.specs.Words.Standing.{stands-whole, at_least-pos, within-pos, below-pos}
use Rattle.laws.specs.Reading.Items.{tuples, two-places}
use Rattle.laws.specs.Reading.Nodes.{Reader, Node, Nodes, Asked, asking, kind-restriction}
use Rattle.laws.specs.Reading.Parts.{root, root_tag, plain-parts, atom-parts, compare-parts, join-parts}
use Rattle.laws.specs.Reading.Parts.{quantifier-parts, some-parts, first-parts, rest-parts}

-- a quantifier costs at least one level
quantifier_cost-one : (role : Role) (b : Bool) → 1 ≤ quantifier_cost role b
unfolding quantifier_cost
quantifier_cost-one restriction b = omega arith
quantifier_cost-one formula b = omega arith
quantifier_cost-one (operand a) b = go (same a b)
  where
    go : (c : Bool) → 1 ≤ cond c 1 2
    go true = omega arith
    go false = omega arith

-- a node costs at least one level
pub cost-one : (role : Role) (tag : Tag) → 1 ≤ cost role tag
unfolding cost
cost-one role (Tag.plain b) = omega arith
cost-one role (Tag.atom b) = omega arith
cost-one role (Tag.compare b) = omega arith
cost-one role (Tag.join b) = omega arith
cost-one role (Tag.quantifier b) = quantifier_cost-one role b
cost-one role Tag.some = omega arith
cost-one role Tag.unused = omega arith

-- the greatest level of a tree is no less than the root's
pub root-level : (tree : Tree) (role : Role) (above : ℕ) → above + cost role (root tree) ≤ greatest tree role above
unfolding greatest root cost
root-level (plain b) role above = omega arith
root-level (atom b p ts) role above = omega arith
root-level (compare b d x y) role above = omega arith
root-level (join b ts) role above = omega arith
root-level (quantifier b v excluded c f) role above = omega (arith, root-level c restriction (above + quantifier_cost role b))
root-level (some c) role above = omega (arith, root-level c restriction (above + 1))

module _ (table words : Words) (role : Role) (above scope at next : ℕ) where
  -- the root of a tree that stands at a place keeps the level limit
  limit : (tree : Tree) → Node table words role above scope at tree next → above + cost role (root tree) ≤ level_limit
  limit tree node = omega (arith, node.levels, root-level tree role above)

  -- the questions at its root are answered yes
  pub root-asked :
      (tree : Tree) →
      Node table words role above scope at tree next →
      Asked table words role above scope at (root tree)
  unfolding encode Formed root own good_predicate value all
  root-asked (plain b) node =
      record {
        shape = refl;
        fits = omega (arith, node.stands.ends, node.stands.fits);
        level = limit (plain b) node;
        predicate = refl;
        range = refl;
      }
  root-asked (atom b p ts) node =
      let parts = atom-parts table words role above scope at next b p ts node in
      let formed = node.formed in
      let few = within-pos 1 6 (length ts) formed.2 formed.3 in
      let known = below-pos (predicates table) p formed.0 in
      record {
        shape = rw parts.number (and-true few parts.reads.kinds);
        fits = rw parts.number (omega (arith, parts.ends, node.stands.fits));
        level = limit (atom b p ts) node;
        predicate = rw (parts.predicate, parts.number) (and-true known (eq-eqb _ _ formed.1));
        range = rw parts.number parts.reads.range;
      }
  root-asked (compare b d x y) node =
      let parts = compare-parts table words role above scope at next b d x y node in
      record {
        shape = rw two-places (and-true parts.left.kind (and-true parts.right.kind refl));
        fits = omega (arith, parts.ends, node.stands.fits);
        level = limit (compare b d x y) node;
        predicate = refl;
        range = rw two-places (and-true parts.left.range (and-true parts.right.range refl));
      }
  root-asked (join b ts) node =
      let parts = join-parts table words role above scope at next b ts node in
      record {
        shape = rw parts.number (at_least-pos 2 (count ts) node.formed.0);
        fits = omega (arith, parts.children.stands.ends, parts.children.stands.fits);
        level = limit (join b ts) node;
        predicate = refl;
        range = refl;
      }
  root-asked (quantifier b v excluded c f) node =
      let parts = quantifier-parts table words role above scope at next b v excluded c f node in
      let formed = node.formed in
      let few = within-pos 1 4 v formed.1 formed.2 in
      let counted = at_least-pos 0 (length excluded) (omega arith) in
      let inside = parts.restricts.stands in
      record {
        shape = rw (parts.variables, parts.number) (and-true (and-true formed.0 few) counted);
        fits = rw (parts.variables, parts.number) (omega (arith, inside.ends, inside.fits));
        level = limit (quantifier b v excluded c f) node;
        predicate = refl;
        range = rw parts.variables (le-leb _ _ formed.4);
      }
  root-asked (some c) node =
      record {
        shape = kind-restriction role node.formed.0;
        fits = omega (arith, node.stands.ends, node.stands.fits);
        level = limit (some c) node;
        predicate = refl;
        range = le-leb _ _ node.formed.1;
      }

module _ (table words : Words) where
  -- with so much depth left, a reader reads what stands at a place
  abbrev pub Back : (read : Reader) (depth : ℕ) → Type 0
  Back read depth =
      (role : Role) (above scope at next : ℕ) (tree : Tree) →
      level_limit < depth + above →
      Node table words role above scope at tree next →
      read role above scope at ≡ passed (record { tree = tree; next = next })

  -- trees that stand one behind another are read one after another
  pub repeat_back :
      (read : Reader) (depth : ℕ) →
      Back read depth →
      (role : Role) (above scope : ℕ) (ts : Trees) (at next : ℕ) →
      level_limit < depth + above →
      Nodes table words role above scope at ts next →
      repeat (count ts) (read role above scope) at ≡ passed (record { tree = ts; next = next })
  unfolding repeat encode count
  repeat_back read depth back role above scope nil at next h nodes =
      let e : at ≡ next = omega (arith, nodes.stands.ends) in
      rw e
  repeat_back read depth back role above scope (cons t ts) at next h nodes =
      let mid = at + length (encode t) in
      let first = back role above scope at mid t h (first-parts table words role above scope at next t ts nodes) in
      let rest = rest-parts table words role above scope at next t ts nodes in
      pass_then _ first (pass_then _ (repeat_back read depth back role above scope ts mid next h rest) refl)

  -- a node is built from its words and the nodes below it
  build_back :
      (read : Reader) (depth : ℕ) →
      Back read depth →
      (role : Role) (above scope at next : ℕ) (tree : Tree) →
      level_limit < suc depth + above →
      Node table words role above scope at tree next →
      build words read (root tree) role (above + cost role (root tree)) scope at
      ≡ passed (record { tree = tree; next = next })
  unfolding build root cost value tuples
  build_back read depth back role above scope at next (plain b) h node =
      rw (plain-parts table words role above scope at next b node)
  build_back read depth back role above scope at next (atom b p ts) h node =
      let parts = atom-parts table words role above scope at next b p ts node in
      rw (parts.predicate, parts.number, parts.reads.terms, parts.ends)
  build_back read depth back role above scope at next (compare b d x y) h node =
      let parts = compare-parts table words role above scope at next b d x y node in
      rw (parts.number, parts.left.term, parts.right.term, parts.ends)
  build_back read depth back role above scope at next (join b ts) h node =
      let parts = join-parts table words role above scope at next b ts node in
      let h' : level_limit < depth + (above + 1) = omega arith in
      rw parts.number
      (pass_then _ (repeat_back read depth back (under role b) (above + 1) scope ts (at + 2) next h' parts.children) refl)
  build_back read depth back role above scope at next (quantifier b v excluded c f) h node =
      let parts = quantifier-parts table words role above scope at next b v excluded c f node in
      let level = above + quantifier_cost role b in
      let h' : level_limit < depth + level = omega (arith, quantifier_cost-one role b) in
      rw (parts.variables, parts.number)
      (pass_then _ (back restriction level (scope + v) _ _ c h' parts.restricts)
      (pass_then _ (back formula level (scope + v) _ next f h' parts.body)
      (ap {A = List (List ℤ)} {B = Outcome (Read Tree)} (λ τs. passed (record { tree = quantifier b v τs c f; next = next }))
      parts.reads)))
  build_back read depth back role above scope at next (some c) h node =
      let inner = some-parts table words role above scope at next c node in
      pass_then _ (back restriction (above + 1) (scope + 1) (at + 1) next c (omega arith) inner) refl

  -- a node that stands at a place, is formed and keeps the level limit is read there, if the depth suffices
  pub node_back : (depth : ℕ) → Back (read_node table words depth) depth
  unfolding read_node
  node_back zero role above scope at next tree h node =
      absurd (omega (arith, limit table words role above scope at next tree node, cost-one role (root tree)))
  node_back (suc depth) role above scope at next tree h node =
      let a = root-asked table words role above scope at next tree node in
      rw (root_tag table words role above scope at next tree node)
      (pass_then _ (asking table words role above scope at (root tree) a)
      (build_back (read_node table words depth) depth (node_back depth) role above scope at next tree h node))

-- a tree has words
pub encode_nonempty : (tree : Tree) → 1 ≤ length (encode tree)
unfolding encode
encode_nonempty (plain b) = omega arith
encode_nonempty (atom b p ts) = omega arith
encode_nonempty (compare b d x y) = omega arith
encode_nonempty (join b ts) = omega arith
encode_nonempty (quantifier b v excluded c f) = omega arith
encode_nonempty (some c) = omega arith

-- no more trees than words of them
pub count-few : (ts : Trees) → count ts ≤ length (encode_all ts)
unfolding count encode
count-few nil = omega arith
count-few (cons t ts) = omega (arith, count-few ts, encode_nonempty t, length-append (encode t) (encode_all ts))

-- a tree that keeps the rules and the level limit stands at the beginning of its words
pub whole-node :
    (table : Words) (tree : Tree) →
    Formed tree table true 0 →
    greatest tree formula 0 ≤ level_limit →
    Node table (encode tree) formula 0 0 0 tree (length (encode tree))
unfolding is_formula
whole-node table tree formed levels = record { stands = stands-whole (encode tree); formed = formed; levels = levels }

-- the words of a tree that keeps the rules and the level limit are read, and give the tree
pub encode-read :
    (table : Words) (tree : Tree) →
    Formed tree table true 0 →
    greatest tree formula 0 ≤ level_limit →
    length (encode tree) ≤ policy_limit →
    read_policy table (encode tree) ≡ passed tree
unfolding read_policy
encode-read table tree formed levels short =
    let words = encode tree in
    let node = whole-node table tree formed levels in
    pass_then _ (ask-true PolicyLength 0 (and-true (le-leb _ _ (encode_nonempty tree)) (le-leb _ _ short)))
    (pass_then _ (node_back table words (level_limit + 1) formula 0 0 0 (length words) tree (omega arith) node)
    (pass_then _ (ask-true Shape (length words) (eq-eqb (length words) (length words) refl)) refl))

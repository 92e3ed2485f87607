-- A node that stands in words: its own words and the nodes below it, by its tag.
use Prim.Native.Nat.{ℕ, ◌+◌, ◌*◌, ◌-◌, ◌≤◌}
use native.Mathlib.Omega.{arith}
use mathlib.Core.Path.{◌≡◌, refl, sym, ap, ap₂, ◌∙◌, subst}
use mathlib.Core.Bool.{Bool}
use mathlib.Core.List.{List, map}
use lib.ListN.{length, take, drop}
use lib.IntN.{ℤ, nat_abs}
use Rattle.model.specs.Words.{Words, word, value, level_limit, scope_limit}
use Rattle.model.specs.Lists.{gather}
use Rattle.model.specs.Tag.{Tag, tag_of}
use Rattle.model.specs.Tree.{Tree, Trees, plain, atom, join, quantifier, some, nil, cons, count, encode}
use Rattle.model.specs.Level.{Role, restriction, formula, under, quantifier_cost, cost}
use Rattle.model.specs.Reading.{places, term_at}
use Rattle.laws.specs.Level.{greatest_mono, greatest-least}
use Rattle.laws.specs.Words.Standing.{Stands, stands_taken}
use Rattle.laws.specs.Reading.Formed.{Formed}
use Rattle.laws.specs.Reading.Items.{tuples-there}
use Rattle.laws.specs.Reading.Nodes.{Node, Nodes}
use Rattle.laws.specs.Reading.Parts.{plain-parts, atom-parts, compare-parts, join-parts, quantifier-parts, some-parts, first-parts}
use Rattle.laws.specs.Reading.Parts.{rest-parts}
use Rattle.laws.specs.Reading.Back.{encode_nonempty, cost-one}
use Rattle.policies.proofs.Standing.{Has, has}
use Rattle.tptp_putting.specs.Texts.{Tuples}
use Rattle.tptp_writing.specs.Printing.{Printable, PrintableAll, atom_at, compare_at}

module _ (words : Words) (above scope at : ℕ) where
  -- it stands below the last level, and within the words
  pub here-low : Printable words above scope at → above + 1 ≤ level_limit
  here-low h = omega (arith, greatest-least h.tree h.role above, h.node.levels)

  pub here-inside : Printable words above scope at → at + 1 ≤ length words
  here-inside h = omega (arith, encode_nonempty h.tree, h.node.stands.ends, h.node.stands.fits)

  module _ (h : Printable words above scope at) where
    -- the same place with another tree
    abbrev Stood : Tree → Type 0
    Stood tree = Node h.table words h.role above scope at tree h.next

    known : (tag : Tag) → tag ≡ tag_of (word words at) → Has tag h.tree
    known tag e = has h.table words h.role above scope at tag e h.tree h.next h.node

    pub plain_here : (b : Bool) → Tag.plain b ≡ tag_of (word words at) → (h.tree ≡ plain b) × (h.next ≡ at + 1)
    plain_here b e =
        let is = known (Tag.plain b) e in
        (is, plain-parts h.table words h.role above scope at h.next b (subst Stood is h.node))

    pub atom-here :
        (b : Bool) → Tag.atom b ≡ tag_of (word words at) →
        let n = value words (at + 2) in
        (h.tree ≡ atom_at words b at) × (h.next ≡ at + 3 + 2 * n) × (1 ≤ n) × (at + 3 + 2 * n ≤ length words)
    unfolding atom_at value Formed
    atom-here b e =
        let (p, ts, is) = known (Tag.atom b) e in
        let node = subst Stood is h.node in
        let a = atom-parts h.table words h.role above scope at h.next b p ts node in
        let number : value words (at + 2) ≡ length ts = ap nat_abs a.number in
        let terms : ts ≡ map (term_at words) (places (at + 3) (value words (at + 2)))
        = sym a.reads.terms ∙ ap (λ (n : ℕ). map (term_at words) (places (at + 3) n)) (sym number) in (
          is ∙ ap₂ (atom b) (sym (ap nat_abs a.predicate)) terms,
          omega (arith, a.ends, number),
          omega (arith, node.formed.2, number),
          omega (arith, a.ends, number, node.stands.fits),
        )

    pub compare-here :
        (b : Bool) → Tag.compare b ≡ tag_of (word words at) →
        (h.tree ≡ compare_at words b at) × (h.next ≡ at + 6) × (at + 6 ≤ length words)
    unfolding compare_at
    compare-here b e =
        let (d, x, y, is) = known (Tag.compare b) e in
        let node = subst Stood is h.node in
        let a = compare-parts h.table words h.role above scope at h.next b d x y node in (
          is ∙ rw (a.number, a.left.term, a.right.term),
          a.ends,
          omega (arith, a.ends, node.stands.fits),
        )

    pub unused-here : Tag.unused ≡ tag_of (word words at) → ⊥
    unused-here e = known Tag.unused e

-- a node that stands at a level stands at one above it
lower :
    (table words : Words) (role : Role) (a b scope at : ℕ) (tree : Tree) (next : ℕ) → a ≤ b →
    Node table words role b scope at tree next →
    Node table words role a scope at tree next
lower table words role a b scope at tree next h n =
    record { stands = n.stands; formed = n.formed; levels = omega (arith, greatest_mono tree role a b h, n.levels) }

-- a quantifier costs a level
quantifier_costs : (role : Role) (b : Bool) → 1 ≤ quantifier_cost role b
unfolding cost
quantifier_costs role b = cost-one role (Tag.quantifier b)

-- a node that stands at an index stands at one that is equal
abbrev pub moved : {words : Words} {above scope at here : ℕ} → here ≡ at → Printable words above scope at → Printable words above scope here
moved {words} {above} {scope} {at} {here} e h = record {
  table = h.table;
  role = h.role;
  tree = h.tree;
  next = h.next;
  node = subst (λ (k : ℕ). Node h.table words h.role above scope k h.tree h.next) (sym e) h.node;
}

-- an all-of or any-of: its operands
pub record Joined (words : Words) (above scope at : ℕ) (every : Bool) (n : ℕ) (h : Printable words above scope at) : Type 0 where
  pub operands : PrintableAll words (above + 1) scope n (at + 2)
  pub some : 1 ≤ n
  pub inside : at + 2 ≤ length words
  pub is : h.tree ≡ join every operands.trees
  pub ends : h.next ≡ operands.next

-- a quantifier: its excluded tuples, its restriction and its body
pub record Quantified (words : Words) (above scope at : ℕ) (every : Bool) (v m first : ℕ) (h : Printable words above scope at) : Type 0
  where
    pub excluded : Tuples (take (first - (at + 3)) (drop (at + 3) words)) v
    pub number : length excluded.list ≡ m
    pub restricts : Printable words (above + 1) (scope + v) first
    pub body : Printable words (above + 1) (scope + v) restricts.next
    pub some : 1 ≤ v
    pub few : scope + v ≤ scope_limit
    pub is : h.tree ≡ quantifier every v excluded.list restricts.tree body.tree
    pub ends : h.next ≡ body.next

-- a some: its restriction
pub record Something (words : Words) (above scope at : ℕ) (h : Printable words above scope at) : Type 0 where
  pub restricts : Printable words (above + 1) (scope + 1) (at + 1)
  pub few : scope + 1 ≤ scope_limit
  pub is : h.tree ≡ some restricts.tree
  pub ends : h.next ≡ restricts.next

module _ (words : Words) (above scope at : ℕ) (h : Printable words above scope at) where
  pub joined :
      (every : Bool) (n : ℕ) → Tag.join every ≡ tag_of (word words at) → n ≡ value words (at + 1) →
      Joined words above scope at every n h
  unfolding value Formed
  joined every n e f =
      let (ts, is) = known words above scope at h (Tag.join every) e in
      let node = subst (Stood words above scope at h) is h.node in
      let a = join-parts h.table words h.role above scope at h.next every ts node in
      let number : count ts ≡ n = sym (f ∙ ap nat_abs a.number) in
      record {
        operands = record {
          table = h.table;
          role = under h.role every;
          trees = ts;
          next = h.next;
          number = number;
          nodes = a.children;
        };
        some = omega (arith, node.formed.0);
        inside = omega (arith, a.children.stands.ends, a.children.stands.fits);
        is = is;
        ends = refl;
      }

  pub something : Tag.some ≡ tag_of (word words at) → Something words above scope at h
  unfolding Formed
  something e =
      let (c, is) = known words above scope at h Tag.some e in
      let node = subst (Stood words above scope at h) is h.node in
      record {
        restricts = record {
          table = h.table;
          role = restriction;
          tree = c;
          next = h.next;
          node = some-parts h.table words h.role above scope at h.next c node;
        };
        few = node.formed.1;
        is = is;
        ends = refl;
      }

  pub quantified :
      (every : Bool) (v m first : ℕ) → Tag.quantifier every ≡ tag_of (word words at) →
      v ≡ value words (at + 1) →
      m ≡ value words (at + 2) →
      first ≡ at + 3 + v * m →
      Quantified words above scope at every v m first h
  unfolding value Formed
  quantified every v m first e fv fm ff =
      let (u, excluded, c, f, is) = known words above scope at h (Tag.quantifier every) e in
      let node = subst (Stood words above scope at h) is h.node in
      let a = quantifier-parts h.table words h.role above scope at h.next every u excluded c f node in
      let level = above + quantifier_cost h.role every in
      let deep : above + 1 ≤ level = omega (arith, quantifier_costs h.role every) in
      let n = length excluded in
      let start = at + 3 + u * n in
      let there = tuples-there words u n (at + 3) (omega (arith, a.restricts.stands.ends, a.restricts.stands.fits)) in
      let standing : Stands words (at + 3) (gather (λ (tuple : List ℤ). tuple) excluded) start = rw a.reads at there.0 in
      let long : start - (at + 3) ≡ length (gather (λ (tuple : List ℤ). tuple) excluded) = omega (arith, standing.ends) in
      let lent : take (start - (at + 3)) (drop (at + 3) words) ≡ gather (λ (tuple : List ℤ). tuple) excluded
      = rw long (stands_taken words _ standing) in
      let made : Quantified words above scope at every u n start h = record {
        excluded = record { list = excluded; are = lent; long = node.formed.3 };
        number = refl;
        restricts = record {
          table = h.table;
          role = restriction;
          tree = c;
          next = start + length (encode c);
          node = lower h.table words restriction (above + 1) level (scope + u) start c _ deep a.restricts;
        };
        body = record {
          table = h.table;
          role = formula;
          tree = f;
          next = h.next;
          node = lower h.table words formula (above + 1) level (scope + u) _ f h.next deep a.body;
        };
        some = node.formed.1;
        few = node.formed.4;
        is = is;
        ends = refl;
      } in
      subst (λ (k : ℕ). Quantified words above scope at every v m k h) (sym ff)
      (subst (λ (k : ℕ). Quantified words above scope at every k m (at + 3 + k * m) h) (sym (fv ∙ ap nat_abs a.variables))
      (subst (λ (k : ℕ). Quantified words above scope at every u k (at + 3 + u * k) h) (sym (fm ∙ ap nat_abs a.number)) made))

-- nodes one behind another: the first of them, and the others
pub record Headed (words : Words) (above scope n at : ℕ) (h : PrintableAll words above scope n at) : Type 0 where
  pub first : Printable words above scope at
  pub others : PrintableAll words above scope (n - 1) first.next
  pub is : h.trees ≡ cons first.tree others.trees
  pub ends : h.next ≡ others.next

-- no node is left
pub none_left :
    (words : Words) (above scope n at : ℕ) (h : PrintableAll words above scope n at) → n ≡ 0 → (h.trees ≡ nil) × (h.next ≡ at)
unfolding count encode
none_left words above scope n at h e = go h.trees (h.number ∙ e) h.nodes
  where
    go :
        (ts : Trees) → count ts ≡ 0 → Nodes h.table words h.role above scope at ts h.next → (ts ≡ nil) × (h.next ≡ at)
    go nil f nodes = (refl, omega (arith, nodes.stands.ends))
    go (cons t ts) f nodes = absurd (omega arith)

pub headed : (words : Words) (above scope n at : ℕ) (h : PrintableAll words above scope n at) → 1 ≤ n → Headed words above scope n at h
unfolding count
headed words above scope n at h k = go h.trees refl
  where
    go : (ts : Trees) → h.trees ≡ ts → Headed words above scope n at h
    go nil e = absurd (omega (arith, h.number, ap count e))
    go (cons t ts) e =
        let nodes = subst (λ (us : Trees). Nodes h.table words h.role above scope at us h.next) e h.nodes in
        record {
          first = record {
            table = h.table;
            role = h.role;
            tree = t;
            next = at + length (encode t);
            node = first-parts h.table words h.role above scope at h.next t ts nodes;
          };
          others = record {
            table = h.table;
            role = h.role;
            trees = ts;
            next = h.next;
            number = omega (arith, h.number, ap count e);
            nodes = rest-parts h.table words h.role above scope at h.next t ts nodes;
          };
          is = e;
          ends = refl;
        }

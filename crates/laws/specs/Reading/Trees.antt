-- Questions 4 to 6 of a tree instead of its words: where a tree's words are read that are good by question 3, they pass these
-- questions, or are refused by the same one at the same place. By induction on the tree.
use Prim.Native.Nat.{ℕ, zero, suc, ◌+◌, ◌*◌, ◌≤◌, ◌<◌}
use native.Mathlib.Omega.{arith}
use Rattle.std.specs.Prelude.{◌≡◌, Bool, ◌&&◌, List, [], ◌∷◌, map, ◌++◌, leb, ltb, eqb, ℤ, pos}
use Rattle.std.proofs.Math.Path.{refl, ap}
use Rattle.std.proofs.Common.{◌∙◌, length-append, leb-true, le-leb, eq-eqb}
use Rattle.std.proofs.Math.Bool.{true, false}
use Rattle.std.proofs.Math.ListN.{length}
use Rattle.std.proofs.lemmas.Bool.{lt-leb}
use Rattle.model.specs.declared.Refusal.TheVariants.{PolicyLength, Shape, Level, Predicate, Variable}
use Rattle.model.specs.Words.{Words, word, value, below, equal, policy_limit, level_limit, scope_limit}
use Rattle.model.specs.Lists.{all, gather}
use Rattle.model.specs.Answer.{Outcome, passed, refused, ask, ◌>>=◌}
use Rattle.model.specs.Table.{predicates, arity, ask_table}
use Rattle.model.specs.Tag.{Tag, tag_of}
use Rattle.model.specs.Tree.{Term, constant, variable, Tree, Trees, plain, atom, compare, join, quantifier, some, nil, cons, count}
use Rattle.model.specs.Tree.{encode_term, encode, encode_all}
use Rattle.model.specs.Level.{Role, restriction, formula, under, quantifier_cost, cost}
use Rattle.model.specs.Reading.{Read, is_formula, places, repeat, term_at, good_kind, in_scope, own, good_predicate, build, questions, read_node, read_policy}
use Rattle.model.specs.Mode.{size, ask_modes}
use Rattle.model.specs.Calls.{ask_policy}
use Rattle.model.specs.Tptp.{greatest_number, good_term, good_tuple, good_tree, good_trees}
use Rattle.laws.specs.Words.Tests.{and_left, and_right, and-true, and_one}
use Rattle.laws.specs.Words.Standing.{Stands, stands-whole, stands-left, stands-right, stands-first, stands-rest, two-stand}
use Rattle.laws.specs.Words.Standing.{three_stand, code, tag_code, below-value, at_least-pos, within-pos}
use Rattle.laws.specs.Reading.Formed.{InScope, AllInScope, AllOfLength}
use Rattle.laws.specs.Reading.Items.{tuples, two-places, term_back, terms_back, tuples_back}
use Rattle.laws.specs.Reading.Nodes.{under-kind, kind-restriction}
use Rattle.laws.specs.Reading.Back.{cost-one, encode_nonempty}
use Rattle.laws.specs.Lists.Membership.{all_mem, all_map}
use Rattle.laws.specs.Tptp.Spelling.Good.{good-atom, good-compare, good-join, good-quantifier, good-some, good-trees, good-tuple}
use Rattle.laws.specs.Answer.{ask-true, pass_then, then_both, then_assoc}

-- a term is no variable, or one of those in scope
unfoldable pub term_in_scope : ℕ → Term → Bool
term_in_scope scope (constant k) = true
term_in_scope scope (variable x) = ltb x scope

-- the questions at each node of a tree, in preorder; its root has a role, stands under a node at the level `above`, with so many
-- variables in scope, at an index
unfoldable mutual
  pub ask_tree : Tree → Words → Role → ℕ → ℕ → ℕ → Outcome (Unit {0})
  ask_tree (plain b) table role above scope at = ask (leb (above + 1) level_limit) Level at
  ask_tree (atom b p ts) table role above scope at = do
    _ ← ask (leb (above + 1) level_limit) Level at
    _ ← ask (ltb p (predicates table) && eqb (arity table p) (length ts)) Predicate at
    ask (all (term_in_scope scope) ts) Variable at
  ask_tree (compare b d x y) table role above scope at = do
    _ ← ask (leb (above + 1) level_limit) Level at
    ask (term_in_scope scope x && term_in_scope scope y) Variable at
  ask_tree (join b ts) table role above scope at = do
    _ ← ask (leb (above + 1) level_limit) Level at
    ask_trees ts table (under role b) (above + 1) scope (at + 2)
  ask_tree (quantifier b v excluded c f) table role above scope at = do
    let level = above + quantifier_cost role b
    let start = at + 3 + v * length excluded
    _ ← ask (leb level level_limit) Level at
    _ ← ask (leb (scope + v) scope_limit) Variable at
    _ ← ask_tree c table restriction level (scope + v) start
    ask_tree f table formula level (scope + v) (start + size c)
  ask_tree (some c) table role above scope at = do
    _ ← ask (leb (above + 1) level_limit) Level at
    _ ← ask (leb (scope + 1) scope_limit) Variable at
    ask_tree c table restriction (above + 1) (scope + 1) (at + 1)

  -- trees one behind another
  pub ask_trees : Trees → Words → Role → ℕ → ℕ → ℕ → Outcome (Unit {0})
  ask_trees nil table role above scope at = passed tt
  ask_trees (cons t ts) table role above scope at = do
    _ ← ask_tree t table role above scope at
    ask_trees ts table role above scope (at + size t)

-- in the scope of every variable there can be
abbrev widest : ℕ
widest = suc greatest_number

term-widest : (t : Term) → good_term t ≡ true → InScope widest t
unfolding good_term InScope
term-widest (constant k) e = tt
term-widest (variable x) e = omega (arith, leb-true x greatest_number e)

terms-widest : (ts : List Term) → all good_term ts ≡ true → AllInScope widest ts
unfolding all AllInScope
terms-widest [] e = tt
terms-widest (t ∷ ts) e =
    (term-widest t (and_left (good_term t) _ e), terms-widest ts (and_right (good_term t) _ e))

pub tuples-length : (v : ℕ) (τs : List (List ℤ)) → all (good_tuple v) τs ≡ true → AllOfLength v τs
unfolding all AllOfLength
tuples-length v [] e = tt
tuples-length v (τ ∷ τs) e =
    ((good-tuple v τ (and_left (good_tuple v τ) _ e)).0, tuples-length v τs (and_right (good_tuple v τ) _ e))

-- a number's word is below a limit if the number is
below-number : (limit n : ℕ) → below limit (pos n) ≡ ltb n limit
unfolding below
below-number limit n = rw (le-leb 0 n (omega arith))

-- where the words of a quantifier stand: its own, its tuples, its restriction and its body
pub record QuantifierParts
    (words : Words) (at next : ℕ) (b : Bool) (v : ℕ) (excluded : List (List ℤ)) (c f : Tree) : Type 0 where
  pub tagged : word words at ≡ pos (code (Tag.quantifier b))
  pub variables : word words (at + 1) ≡ pos v
  pub number : word words (at + 2) ≡ pos (length excluded)
  pub reads : tuples words v (at + 3) (length excluded) ≡ excluded
  pub inner : Stands words (at + 3 + v * length excluded) (encode c) (at + 3 + v * length excluded + size c)
  pub body : Stands words (at + 3 + v * length excluded + size c) (encode f) next

pub quantifier-parts :
    (words : Words) (at next : ℕ) (b : Bool) (v : ℕ) (excluded : List (List ℤ)) (c f : Tree) →
    AllOfLength v excluded →
    Stands words at (encode (quantifier b v excluded c f)) next →
    QuantifierParts words at next b v excluded c f
unfolding encode code size
quantifier-parts words at next b v excluded c f lengths s =
    let (tagged, variables, number, stand) = three_stand words _ _ _ _ s in
    let τs = gather (λ tuple. tuple) excluded in
    let front = stands-left words (τs ++ encode c) (encode f) stand in
    let first = stands-left words τs (encode c) front in
    let (reads, ends) = tuples_back words v (at + 3) (at + 3 + length τs) excluded first lengths in
    let start = at + 3 + v * length excluded in
    let both = length-append τs (encode c) in
    let middle : at + 3 + length (τs ++ encode c) ≡ start + length (encode c) = omega (arith, both, ends) in
    record {
      tagged = tagged;
      variables = variables;
      number = number;
      reads = reads;
      inner = rw (middle, ends) at (stands-right words τs (encode c) front);
      body = rw middle at (stands-right words (τs ++ encode c) (encode f) stand);
    }

module _ (words : Words) where
  -- a term that is in the widest scope is in a narrower one if its words say so
  term-scope :
      (scope i : ℕ) →
      in_scope words widest i ≡ true →
      in_scope words scope i ≡ term_in_scope scope (term_at words i)
  unfolding term_at in_scope term_in_scope value
  term-scope scope i e = go (equal (word words i) (pos 0)) refl
    where
      go :
          (b : Bool) →
          equal (word words i) (pos 0) ≡ b →
          in_scope words scope i ≡ term_in_scope scope (term_at words i)
      go true k = rw k
      go false k =
          let (number, small) = below-value widest (word words (i + 1)) (rw k at e) in
          rw (k, number) (below-number scope _)

  -- what is asked of the terms from an index on, where their words stand
  record TermsAsked (scope first next : ℕ) (ts : List Term) : Type 0 where
    terms : map (term_at words) (places first (length ts)) ≡ ts
    kinds : all (good_kind words) (places first (length ts)) ≡ true
    range : all (in_scope words scope) (places first (length ts)) ≡ all (term_in_scope scope) ts
    ends : next ≡ first + 2 * length ts

  terms-asked :
      (scope first next : ℕ) (ts : List Term) →
      all good_term ts ≡ true →
      Stands words first (gather encode_term ts) next →
      TermsAsked scope first next ts
  terms-asked scope first next ts good s =
      let (reads, ends) = terms_back words widest first next ts s (terms-widest ts good) in
      let each = all_map (in_scope words scope) (term_in_scope scope) (term_at words) _
      (λ i m. term-scope scope i (all_mem _ reads.range m)) in
      let range = each ∙ ap (all (term_in_scope scope)) reads.terms in
      record { terms = reads.terms; kinds = reads.kinds; range = range; ends = ends }

  -- the same of one term
  record TermAsked (scope i next : ℕ) (t : Term) : Type 0 where
    term : term_at words i ≡ t
    kind : good_kind words i ≡ true
    range : in_scope words scope i ≡ term_in_scope scope t
    ends : next ≡ i + 2

  term-asked :
      (scope i next : ℕ) (t : Term) →
      good_term t ≡ true →
      Stands words i (encode_term t) next →
      TermAsked scope i next t
  term-asked scope i next t good s =
      let (reads, ends) = term_back words widest i next t s (term-widest t good) in
      let range = term-scope scope i reads.range ∙ ap (term_in_scope scope) reads.term in
      record { term = reads.term; kind = reads.kind; range = range; ends = ends }

  -- what is asked of the own words of a node, where they stand: its tag, questions 3 and 6
  pub record OwnAsked (tag : Tag) (role : Role) (scope at : ℕ) (inside : Bool) : Type 0 where
    pub tagged : word words at ≡ pos (code tag)
    pub shape : (own words tag role scope at).shape ≡ true
    pub fits : at + (own words tag role scope at).size ≤ length words
    range : (own words tag role scope at).scope ≡ inside

  -- where the words of a node stand, good by question 3
  module _ (role : Role) (scope at next : ℕ) where
    pub plain-asked : (b : Bool) → Stands words at (encode (plain b)) next → OwnAsked (Tag.plain b) role scope at true
    unfolding encode own code
    plain-asked b s =
        record { tagged = stands-first words _ _ s; shape = refl; fits = omega (arith, s.ends, s.fits); range = refl }

    pub atom-asked :
        (b : Bool) (p : ℕ) (ts : List Term) →
        good_tree (atom b p ts) (is_formula role) ≡ true →
        Stands words at (encode (atom b p ts)) next →
        OwnAsked (Tag.atom b) role scope at (all (term_in_scope scope) ts)
    unfolding encode own code value
    atom-asked b p ts good s =
        let (tagged, predicate, number, stand) = three_stand words _ _ _ _ s in
        let is = good-atom b p ts (is_formula role) good in
        let terms = terms-asked scope (at + 3) next ts is.each stand in
        record {
          tagged = tagged;
          shape = rw number (and-true (within-pos 1 6 (length ts) is.some is.few) terms.kinds);
          fits = rw number (omega (arith, terms.ends, s.fits));
          range = rw number terms.range;
        }

    -- the terms of a comparison
    compare-terms :
        (b : Bool) (d : ℤ) (x y : Term) →
        good_tree (compare b d x y) (is_formula role) ≡ true →
        Stands words at (encode (compare b d x y)) next →
        TermAsked scope (at + 2) (at + 4) x × TermAsked scope (at + 4) next y
    unfolding encode
    compare-terms b d x y good s =
        let (tagged, number, stand) = two-stand words _ _ _ s in
        let (sized, good_x, good_y) = good-compare b d x y (is_formula role) good in
        let left = term-asked scope (at + 2) _ x good_x (stands-left words (encode_term x) (encode_term y) stand) in
        let start : at + 2 + length (encode_term x) ≡ at + 4 = left.ends ∙ omega arith in
        let second = rw start at (stands-right words (encode_term x) (encode_term y) stand) in
        (rw start at left, term-asked scope (at + 4) next y good_y second)

    pub compare-asked :
        (b : Bool) (d : ℤ) (x y : Term) →
        good_tree (compare b d x y) (is_formula role) ≡ true →
        Stands words at (encode (compare b d x y)) next →
        OwnAsked (Tag.compare b) role scope at (term_in_scope scope x && term_in_scope scope y)
    unfolding all encode own code
    compare-asked b d x y good s =
        let (left, right) = compare-terms b d x y good s in
        record {
          tagged = stands-first words _ _ s;
          shape = rw two-places (and-true left.kind (and-true right.kind refl));
          fits = omega (arith, right.ends, s.fits);
          range = rw (two-places, left.range, right.range, and_one);
        }

    pub join-asked :
        (b : Bool) (ts : Trees) →
        good_tree (join b ts) (is_formula role) ≡ true →
        Stands words at (encode (join b ts)) next →
        OwnAsked (Tag.join b) role scope at true
    unfolding encode own code
    join-asked b ts good s =
        let (tagged, number, stand) = two-stand words _ _ _ s in
        record {
          tagged = tagged;
          shape = rw number (at_least-pos 2 (count ts) (good-join b ts (is_formula role) good).0);
          fits = omega (arith, stand.ends, stand.fits);
          range = refl;
        }

    pub quantifier-asked :
        (b : Bool) (v : ℕ) (excluded : List (List ℤ)) (c f : Tree) →
        good_tree (quantifier b v excluded c f) (is_formula role) ≡ true →
        QuantifierParts words at next b v excluded c f →
        OwnAsked (Tag.quantifier b) role scope at (leb (scope + v) scope_limit)
    unfolding own code value
    quantifier-asked b v excluded c f good parts =
        let is = good-quantifier b v excluded c f (is_formula role) good in
        let few = within-pos 1 4 v is.some is.few in
        let counted = at_least-pos 0 (length excluded) (omega arith) in
        record {
          tagged = parts.tagged;
          shape = rw (parts.variables, parts.number) (and-true (and-true is.kind few) counted);
          fits = rw (parts.variables, parts.number) (omega (arith, parts.inner.ends, parts.inner.fits));
          range = rw parts.variables;
        }

    pub some-asked :
        (c : Tree) →
        good_tree (some c) (is_formula role) ≡ true →
        Stands words at (encode (some c)) next →
        OwnAsked Tag.some role scope at (leb (scope + 1) scope_limit)
    unfolding encode own code
    some-asked c good s =
        record {
          tagged = stands-first words _ _ s;
          shape = kind-restriction role (good-some c (is_formula role) good).0;
          fits = omega (arith, s.ends, s.fits);
          range = refl;
        }

module _ (table words : Words) where
  -- what is known of a node: its own words, its answer to question 5, and what is built of it
  record Known
      (tag : Tag) (depth : ℕ) (role : Role) (above scope at : ℕ) (known inside : Bool) (rest : Outcome (Read Tree)) : Type 0 where
    asked : OwnAsked words tag role scope at inside
    predicate : good_predicate table words tag at ≡ known
    built : build words (read_node table words depth) tag role (above + cost role tag) scope at ≡ rest

  -- a node behind its questions
  node-step :
      {tag : Tag} {depth : ℕ} {role : Role} {above scope at : ℕ} {known inside : Bool} {rest : Outcome (Read Tree)} →
      Known tag depth role above scope at known inside rest →
      read_node table words (suc depth) role above scope at
      ≡ (ask (leb (above + cost role tag) level_limit) Level at >>= λ _.
      ask known Predicate at >>= λ _.
      ask inside Variable at >>= λ _.
      rest)
  unfolding read_node questions
  node-step {tag} k =
      let is = ap tag_of k.asked.tagged ∙ tag_code tag in
      let shape = ask-true Shape _ (and-true k.asked.shape (le-leb _ _ k.asked.fits)) in
      rw (is, k.predicate, k.asked.range, k.built) (simp then_assoc (pass_then _ shape refl))

  -- a tree whose words stand at an index is read there, if it passes its questions; trees one behind another
  abbrev pub Asks : (depth : ℕ) (tree : Tree) (role : Role) (above scope at next : ℕ) → Type 0
  Asks depth tree role above scope at next =
      read_node table words depth role above scope at
      ≡ (ask_tree tree table role above scope at >>= λ _. passed (record { tree = tree; next = next }))

  abbrev AllAsk : ℕ → Trees → Role → ℕ → ℕ → ℕ → ℕ → Type 0
  AllAsk depth ts role above scope at next =
      repeat (count ts) (read_node table words depth role above scope) at
      ≡ (ask_trees ts table role above scope at >>= λ _. passed (record { tree = ts; next = next }))

  -- where the words of a node stand, good by question 3, this is known of it
  module _ (depth : ℕ) (role : Role) (above scope at next : ℕ) where
    plain_known :
        (b : Bool) →
        Stands words at (encode (plain b)) next →
        Known (Tag.plain b) depth role above scope at true true (passed (record { tree = plain b; next = next }))
    unfolding encode good_predicate build
    plain_known b s = record { asked = plain-asked words role scope at next b s; predicate = refl; built = rw s.ends }

    atom-known :
        (b : Bool) (p : ℕ) (ts : List Term) →
        good_tree (atom b p ts) (is_formula role) ≡ true →
        Stands words at (encode (atom b p ts)) next →
        Known (Tag.atom b) depth role above scope at (ltb p (predicates table) && eqb (arity table p) (length ts))
        (all (term_in_scope scope) ts) (passed (record { tree = atom b p ts; next = next }))
    unfolding encode good_predicate build value
    atom-known b p ts good s =
        let (tagged, predicate, number, stand) = three_stand words _ _ _ _ s in
        let terms = terms-asked words scope (at + 3) next ts (good-atom b p ts (is_formula role) good).each stand in
        record {
          asked = atom-asked words role scope at next b p ts good s;
          predicate = rw (predicate, number, below-number);
          built = rw (predicate, number, terms.terms, terms.ends);
        }

    compare-known :
        (b : Bool) (d : ℤ) (x y : Term) →
        good_tree (compare b d x y) (is_formula role) ≡ true →
        Stands words at (encode (compare b d x y)) next →
        Known (Tag.compare b) depth role above scope at true (term_in_scope scope x && term_in_scope scope y)
        (passed (record { tree = compare b d x y; next = next }))
    unfolding encode good_predicate build
    compare-known b d x y good s =
        let (tagged, number, stand) = two-stand words _ _ _ s in
        let (left, right) = compare-terms words role scope at next b d x y good s in
        let ends : next ≡ at + 6 = right.ends ∙ omega arith in
        record {
          asked = compare-asked words role scope at next b d x y good s;
          predicate = refl;
          built = rw (number, left.term, right.term, ends);
        }

    join-known :
        (b : Bool) (ts : Trees) →
        good_tree (join b ts) (is_formula role) ≡ true →
        Stands words at (encode (join b ts)) next →
        (Stands words (at + 2) (encode_all ts) next → AllAsk depth ts (under role b) (above + 1) scope (at + 2) next) →
        Known (Tag.join b) depth role above scope at true true
        (ask_trees ts table (under role b) (above + 1) scope (at + 2) >>= λ _. passed (record { tree = join b ts; next = next }))
    unfolding encode good_predicate build cost value ◌>>=◌
    join-known b ts good s k =
        let (tagged, number, stand) = two-stand words _ _ _ s in
        record {
          asked = join-asked words role scope at next b ts good s;
          predicate = refl;
          built = rw (number, k stand) (simp then_assoc);
        }

    quantifier-known :
        (b : Bool) (v : ℕ) (excluded : List (List ℤ)) (c f : Tree) →
        good_tree (quantifier b v excluded c f) (is_formula role) ≡ true →
        Stands words at (encode (quantifier b v excluded c f)) next →
        let level = above + quantifier_cost role b in
        let start = at + 3 + v * length excluded in
        let middle = start + size c in
        (Stands words start (encode c) middle → Asks depth c restriction level (scope + v) start middle) →
        (Stands words middle (encode f) next → Asks depth f formula level (scope + v) middle next) →
        Known (Tag.quantifier b) depth role above scope at true (leb (scope + v) scope_limit)
        (ask_tree c table restriction level (scope + v) start >>= λ _.
        ask_tree f table formula level (scope + v) middle >>= λ _.
        passed (record { tree = quantifier b v excluded c f; next = next }))
    unfolding good_predicate build cost value tuples ◌>>=◌
    quantifier-known b v excluded c f good s k l =
        let is = good-quantifier b v excluded c f (is_formula role) good in
        let parts = quantifier-parts words at next b v excluded c f (tuples-length v excluded is.tuples) s in
        let level = above + quantifier_cost role b in
        let start = at + 3 + v * length excluded in
        record {
          asked = quantifier-asked words role scope at next b v excluded c f good parts;
          predicate = refl;
          built =
              rw (parts.variables, parts.number, k parts.inner)
              (then_assoc (ask_tree c table restriction level (scope + v) start) _ _
              ∙ then_both (ask_tree c table restriction level (scope + v) start)
              (λ _. rw (l parts.body, parts.reads) (simp then_assoc)));
        }

    some_known :
        (c : Tree) →
        good_tree (some c) (is_formula role) ≡ true →
        Stands words at (encode (some c)) next →
        (Stands words (at + 1) (encode c) next → Asks depth c restriction (above + 1) (scope + 1) (at + 1) next) →
        Known Tag.some depth role above scope at true (leb (scope + 1) scope_limit)
        (ask_tree c table restriction (above + 1) (scope + 1) (at + 1) >>= λ _. passed (record { tree = some c; next = next }))
    unfolding encode good_predicate build cost ◌>>=◌
    some_known c good s k =
        record {
          asked = some-asked words role scope at next c good s;
          predicate = refl;
          built = rw (k (stands-rest words _ _ s)) (simp then_assoc);
        }

  -- below the last level nothing passes
  tree_spent :
      (tree : Tree) (role : Role) (above scope at : ℕ) →
      level_limit < above →
      ask_tree tree table role above scope at ≡ refused Level at
  unfolding ask_tree ask ◌>>=◌
  tree_spent (plain b) role above scope at h = rw (lt-leb (above + 1) level_limit (omega arith))
  tree_spent (atom b p ts) role above scope at h = rw (lt-leb (above + 1) level_limit (omega arith))
  tree_spent (compare b d x y) role above scope at h = rw (lt-leb (above + 1) level_limit (omega arith))
  tree_spent (join b ts) role above scope at h = rw (lt-leb (above + 1) level_limit (omega arith))
  tree_spent (quantifier b v excluded c f) role above scope at h =
      rw (lt-leb (above + quantifier_cost role b) level_limit (omega arith))
  tree_spent (some c) role above scope at h = rw (lt-leb (above + 1) level_limit (omega arith))

  -- a node is read with some depth, or nothing passes
  node-deep :
      (tree : Tree) (depth : ℕ) (role : Role) (above scope at next : ℕ) →
      level_limit < depth + above →
      ((d : ℕ) → level_limit < suc d + above → Asks (suc d) tree role above scope at next) →
      Asks depth tree role above scope at next
  unfolding read_node ◌>>=◌
  node-deep tree zero role above scope at next h k = rw (tree_spent tree role above scope at (omega arith))
  node-deep tree (suc depth) role above scope at next h k = k depth h

  mutual
    unfolding ask_tree cost ask ◌>>=◌ size encode repeat count is_formula

    pub node_asks :
        (tree : Tree) (depth : ℕ) (role : Role) (above scope at next : ℕ) →
        level_limit < depth + above →
        good_tree tree (is_formula role) ≡ true →
        Stands words at (encode tree) next →
        Asks depth tree role above scope at next
    node_asks (plain b) depth role above scope at next h good s =
        node-deep (plain b) depth role above scope at next h λ d l.
        node-step (plain_known d role above scope at next b s)
    node_asks (atom b p ts) depth role above scope at next h good s =
        node-deep (atom b p ts) depth role above scope at next h λ d l.
        node-step (atom-known d role above scope at next b p ts good s) ∙ simp then_assoc
    node_asks (compare b d x y) depth role above scope at next h good s =
        node-deep (compare b d x y) depth role above scope at next h λ e l.
        node-step (compare-known e role above scope at next b d x y good s) ∙ simp then_assoc
    node_asks (join b ts) depth role above scope at next h good s =
        let each = (good-join b ts (is_formula role) good).1 in
        node-deep (join b ts) depth role above scope at next h λ d l.
        node-step
        (join-known d role above scope at next b ts good s λ stand.
        nodes-ask ts d (under role b) (above + 1) scope (at + 2) next (omega arith) (rw under-kind each) stand)
        ∙ simp then_assoc
    node_asks (quantifier b v excluded c f) depth role above scope at next h good s =
        let is = good-quantifier b v excluded c f (is_formula role) good in
        let level = above + quantifier_cost role b in
        let one = cost-one role (Tag.quantifier b) in
        node-deep (quantifier b v excluded c f) depth role above scope at next h λ d l.
        node-step
        (quantifier-known d role above scope at next b v excluded c f good s
        (λ stand. node_asks c d restriction level (scope + v) _ _ (omega arith) is.restriction stand)
        (λ stand. node_asks f d formula level (scope + v) _ next (omega arith) is.body stand))
        ∙ simp then_assoc
    node_asks (some c) depth role above scope at next h good s =
        let inner = (good-some c (is_formula role) good).1 in
        node-deep (some c) depth role above scope at next h λ d l.
        node-step
        (some_known d role above scope at next c good s λ stand.
        node_asks c d restriction (above + 1) (scope + 1) (at + 1) next (omega arith) inner stand)
        ∙ simp then_assoc

    nodes-ask :
        (ts : Trees) (depth : ℕ) (role : Role) (above scope at next : ℕ) →
        level_limit < depth + above →
        good_trees ts (is_formula role) ≡ true →
        Stands words at (encode_all ts) next →
        AllAsk depth ts role above scope at next
    nodes-ask nil depth role above scope at next h good s = let e : next ≡ at = s.ends ∙ omega arith in rw e
    nodes-ask (cons t ts) depth role above scope at next h good s =
        let (first, rest) = good-trees t ts (is_formula role) good in
        let one = node_asks t depth role above scope at (at + size t) h first (stands-left words (encode t) (encode_all ts) s) in
        let more =
        nodes-ask ts depth role above scope (at + size t) next h rest (stands-right words (encode t) (encode_all ts) s) in
        rw one (simp then_assoc (then_both (ask_tree t table role above scope at) λ _. rw more (simp then_assoc)))

-- the words of a tree that is good by question 3: questions 2 and 4 to 6
pub read-tree :
    (table : Words) (tree : Tree) →
    good_tree tree true ≡ true →
    read_policy table (encode tree)
    ≡ (ask (leb (length (encode tree)) policy_limit) PolicyLength 0 >>= λ _.
    ask_tree tree table formula 0 0 0 >>= λ _.
    passed tree)
unfolding read_policy is_formula ask ◌>>=◌
read-tree table tree good =
    let words = encode tree in
    let next = length words in
    let read = node_asks table words tree (level_limit + 1) formula 0 0 0 next (omega arith) good (stands-whole words) in
    let ends = eq-eqb next next refl in
    rw (le-leb 1 next (encode_nonempty tree), read)
    (then_both (ask (leb next policy_limit) PolicyLength 0) λ _.
    then_assoc (ask_tree tree table formula 0 0 0) _ _
    ∙ then_both (ask_tree tree table formula 0 0 0) λ _. rw ends)

-- and questions 1 and 7
pub ask-tree :
    (table : Words) (tree : Tree) →
    good_tree tree true ≡ true →
    ask_policy table (encode tree)
    ≡ (ask_table table >>= λ _.
    ask (leb (length (encode tree)) policy_limit) PolicyLength 0 >>= λ _.
    ask_tree tree table formula 0 0 0 >>= λ _.
    ask_modes tree table 0 0 >>= λ _.
    passed tree)
unfolding ask_policy ◌>>=◌
ask-tree table tree good = rw (read-tree table tree good) (simp then_assoc)

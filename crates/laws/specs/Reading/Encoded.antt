-- What is read from words is written back as the same words: of a policy that is read, the tree's words are the policy's,
-- and the tree keeps the rules and the level limit. By induction on the depth of the reading.
use Prim.Native.Nat.{ℕ, zero, suc, ◌+◌, ◌*◌, ◌≤◌}
use native.Mathlib.Omega.{arith}
use Rattle.std.specs.Prelude.{◌≡◌, Bool, true, ◌&&◌, leb, pos}
use Rattle.std.proofs.Math.Path.{refl, ap}
use Rattle.std.proofs.Common.{sym, ◌∙◌}
use Rattle.std.proofs.Math.Logic.{⊎_elim}
use mathlib.Core.List.{[], map, append-nil}
use Rattle.std.proofs.Math.ListN.{length}
use Rattle.std.proofs.Math.Seq.{drop-length}
use borrow.Author.Tests.{leb-true, eqb-true}
use Rattle.model.specs.declared.Refusal.TheVariants.{PolicyLength, Shape}
use Rattle.model.specs.Words.{Words, word, value, within, below, policy_limit, level_limit, scope_limit}
use Rattle.model.specs.Lists.{all}
use Rattle.model.specs.Answer.{passed}
use Rattle.model.specs.Table.{predicates, arity}
use Rattle.model.specs.Tag.{Tag, tag_of}
use Rattle.model.specs.Tree.{Tree, Trees, plain, atom, compare, join, quantifier, some, count, encode, encode_all}
use Rattle.model.specs.Level.{Role, restriction, formula, under, quantifier_cost, cost, greatest}
use Rattle.model.specs.Reading.{Read, is_formula, places, repeat, term_at, good_kind, in_scope, own, good_predicate, build, read_node, read_policy}
use Rattle.laws.specs.Words.Tests.{and_left, and_right}
use Rattle.laws.specs.Reading.Formed.{Formed}
use Rattle.laws.specs.Answer.{ask-passed, passed-same, refused-passed, both-passed}
use Rattle.laws.specs.Words.Standing.{stands-none, stands-both, stands_word, stands-two, stands_three}
use Rattle.laws.specs.Words.Standing.{code, code_tag, at_least-value, within-value, below-value}
use Rattle.laws.specs.Reading.Items.{length-terms, length-tuples, tuples, two-places, term-there, terms-there, tuples-there}
use Rattle.laws.specs.Reading.Nodes.{Reader, Node, Nodes, Asked, asked, under-kind, restriction-kind}

-- a node whose word and questions are known, its nodes below it standing at their places, stands where it was read
module _ (table words : Words) (role : Role) (above scope at : ℕ) where
  -- true or false
  plain-there :
      (b : Bool) →
      word words at ≡ pos (code (Tag.plain b)) →
      Asked table words role above scope at (Tag.plain b) →
      Node table words role above scope at (plain b) (at + 1)
  unfolding own code cost encode Formed greatest
  plain-there b w a =
      record {
        stands = stands_word words _ [] (omega (arith, a.fits)) refl w (stands-none words refl a.fits);
        formed = tt;
        levels = a.level;
      }

  -- an atom
  atom-there :
      (b : Bool) →
      word words at ≡ pos (code (Tag.atom b)) →
      Asked table words role above scope at (Tag.atom b) →
      let n = value words (at + 2) in
      let ts = map (term_at words) (places (at + 3) n) in
      Node table words role above scope at (atom b (value words (at + 1)) ts) (at + 3 + 2 * n)
  unfolding own good_predicate code cost encode Formed greatest value
  atom-there b w a =
      let p = value words (at + 1) in
      let n = value words (at + 2) in
      let known = below (predicates table) (word words (at + 1)) in
      let few = within 1 6 (word words (at + 2)) in
      let number = length-terms words (at + 3) n in
      let predicate = below-value (predicates table) (word words (at + 1)) (and_left known _ a.predicate) in
      let same = eqb-true (arity table p) n (and_right known _ a.predicate) in
      let range = within-value 1 6 (word words (at + 2)) (and_left few _ a.shape) in
      let terms = terms-there words scope n (at + 3) (omega (arith, a.fits)) (and_right few _ a.shape) a.range in
      record {
        stands = rw number (stands_three words _ _ _ _ (omega (arith, a.fits)) w predicate.0 range.0 terms.0);
        formed = rw number (predicate.1, same, range.1, range.2, terms.1);
        levels = a.level;
      }

  -- a comparison
  compare-there :
      (b : Bool) →
      word words at ≡ pos (code (Tag.compare b)) →
      Asked table words role above scope at (Tag.compare b) →
      let x = term_at words (at + 2) in
      let y = term_at words (at + 4) in
      Node table words role above scope at (compare b (word words (at + 1)) x y) (at + 6)
  unfolding own code cost encode Formed greatest all
  compare-there b w a =
      let kinds = rw two-places at a.shape in
      let range = rw two-places at a.range in
      let kinds' = and_right (good_kind words (at + 2)) _ kinds in
      let range' = and_right (in_scope words scope (at + 2)) _ range in
      let short : at + 4 ≤ length words = omega (arith, a.fits) in
      let x = term-there words scope (at + 2) (at + 4) (omega arith) short (and_left _ _ kinds) (and_left _ _ range) in
      let ends : at + 6 ≡ at + 4 + 2 = omega arith in
      let y = term-there words scope (at + 4) (at + 6) ends a.fits (and_left _ _ kinds') (and_left _ _ range') in
      record {
        stands = stands-two words _ _ _ (omega arith) w refl (stands-both words _ _ x.0 y.0);
        formed = (x.1, y.1);
        levels = a.level;
      }

  -- an all-of or any-of
  join-there :
      (b : Bool) (ts : Trees) (next : ℕ) →
      word words at ≡ pos (code (Tag.join b)) →
      Asked table words role above scope at (Tag.join b) →
      Nodes table words (under role b) (above + 1) scope (at + 2) ts next →
      count ts ≡ value words (at + 1) →
      Node table words role above scope at (join b ts) next
  unfolding own code cost encode Formed greatest value
  join-there b ts next w a nodes number =
      let n = at_least-value 2 (word words (at + 1)) a.shape in
      record {
        stands = rw number (stands-two words _ _ _ a.fits w n.0 nodes.stands);
        formed = (omega (arith, n.1), rw (under-kind role b) at nodes.formed);
        levels = omega (arith, a.level, nodes.levels);
      }

  -- a quantifier
  quantifier-there :
      (b : Bool) (c f : Tree) (mid next : ℕ) →
      word words at ≡ pos (code (Tag.quantifier b)) →
      Asked table words role above scope at (Tag.quantifier b) →
      let v = value words (at + 1) in
      let m = value words (at + 2) in
      let level = above + quantifier_cost role b in
      Node table words restriction level (scope + v) (at + 3 + v * m) c mid →
      Node table words formula level (scope + v) mid f next →
      Node table words role above scope at (quantifier b v (tuples words v (at + 3) m) c f) next
  unfolding own code cost encode Formed greatest value is_formula
  quantifier-there b c f mid next w a restricts body =
      let v = value words (at + 1) in
      let m = value words (at + 2) in
      let few = within 1 4 (word words (at + 1)) in
      let front = and_left (is_formula role && few) _ a.shape in
      let variables = within-value 1 4 (word words (at + 1)) (and_right (is_formula role) _ front) in
      let number = at_least-value 0 (word words (at + 2)) (and_right (is_formula role && few) _ a.shape) in
      let excluded = tuples-there words v m (at + 3) (omega (arith, a.fits)) in
      let behind = stands-both words _ _ (stands-both words _ _ excluded.0 restricts.stands) body.stands in
      let inside : scope + v ≤ scope_limit = leb-true _ _ a.range in
      record {
        stands =
            rw (length-tuples words v (at + 3) m)
            (stands_three words _ _ _ _ (omega (arith, a.fits)) w variables.0 number.0 behind);
        formed =
            (and_left _ _ front, variables.1, variables.2, excluded.1, inside, restricts.formed, body.formed);
        levels = omega (arith, restricts.levels, body.levels);
      }

  -- a some
  some-there :
      (c : Tree) (next : ℕ) →
      word words at ≡ pos (code Tag.some) →
      Asked table words role above scope at Tag.some →
      Node table words restriction (above + 1) (scope + 1) (at + 1) c next →
      Node table words role above scope at (some c) next
  unfolding own code cost encode Formed greatest is_formula
  some-there c next w a node =
      record {
        stands = stands_word words _ _ (omega (arith, a.fits)) refl w node.stands;
        formed = (restriction-kind role a.shape, leb-true _ _ a.range, node.formed);
        levels = node.levels;
      }

module _ (table words : Words) where
  -- what a reader reads stands where it was read
  abbrev pub There : (read : Reader) → Type 0
  There read =
      (role : Role) (above scope at : ℕ) (r : Read Tree) →
      read role above scope at ≡ passed r →
      Node table words role above scope at r.tree r.next

  -- one reading after another: the trees stand one behind another
  pub repeat-there :
      (read : Reader) →
      There read →
      (role : Role) (above scope n at : ℕ) (r : Read Trees) →
      above ≤ level_limit →
      at ≤ length words →
      repeat n (read role above scope) at ≡ passed r →
      Nodes table words role above scope at r.tree r.next × (count r.tree ≡ n)
  unfolding repeat encode Formed greatest count
  repeat-there read there role above scope zero at r limit h e =
      rw (← passed-same e) (record { stands = stands-none words refl h; formed = tt; levels = limit }, refl)
  repeat-there read there role above scope (suc n) at r limit h e =
      both-passed _ _ e λ first p e₁.
      both-passed _ _ e₁ λ rest q e₂.
      let node = there role above scope at first p in
      let nodes = repeat-there read there role above scope n first.next rest limit node.stands.fits q in
      rw (← passed-same e₂) (
        record {
          stands = stands-both words (encode first.tree) (encode_all rest.tree) node.stands nodes.0.stands;
          formed = (node.formed, nodes.0.formed);
          levels = omega (arith, node.levels, nodes.0.levels);
        },
        ap suc nodes.1,
      )

  -- the tree that is built at a node stands there
  build-there :
      (read : Reader) →
      There read →
      (tag : Tag) (role : Role) (above scope at : ℕ) (r : Read Tree) →
      word words at ≡ pos (code tag) →
      Asked table words role above scope at tag →
      build words read tag role (above + cost role tag) scope at ≡ passed r →
      Node table words role above scope at r.tree r.next
  unfolding build cost own tuples
  build-there read there (Tag.plain b) role above scope at r w a e =
      rw (← passed-same e) (plain-there table words role above scope at b w a)
  build-there read there (Tag.atom b) role above scope at r w a e =
      rw (← passed-same e) (atom-there table words role above scope at b w a)
  build-there read there (Tag.compare b) role above scope at r w a e =
      rw (← passed-same e) (compare-there table words role above scope at b w a)
  build-there read there (Tag.join b) role above scope at r w a e =
      both-passed _ _ e λ ts p e₁.
      let nodes = repeat-there read there (under role b) (above + 1) scope _ (at + 2) ts a.level a.fits p in
      rw (← passed-same e₁) (join-there table words role above scope at b ts.tree ts.next w a nodes.0 nodes.1)
  build-there read there (Tag.quantifier b) role above scope at r w a e =
      both-passed _ _ e λ c p e₁.
      both-passed _ _ e₁ λ f q e₂.
      rw (← passed-same e₂)
      (quantifier-there table words role above scope at b c.tree f.tree c.next f.next w a
      (there _ _ _ _ c p)
      (there _ _ _ _ f q))
  build-there read there Tag.some role above scope at r w a e =
      both-passed _ _ e λ c p e₁.
      rw (← passed-same e₁) (some-there table words role above scope at c.tree c.next w a (there _ _ _ _ c p))
  build-there read there Tag.unused role above scope at r w a e = refused-passed e

  -- a node that is read stands where it was read, is formed, and keeps the level limit
  pub node-there : (depth : ℕ) → There (read_node table words depth)
  unfolding read_node build
  node-there zero role above scope at r e = refused-passed e
  node-there (suc depth) role above scope at r e =
      both-passed _ _ e λ _ p e₁.
      let tag = tag_of (word words at) in
      let a = asked table words role above scope at tag p in
      ⊎_elim
      (λ unused. refused-passed (rw unused at e₁))
      (λ w. build-there (read_node table words depth) (node-there depth) tag role above scope at r w a e₁)
      (code_tag (word words at))

  -- the tree of a policy that is read stands from the beginning to the end of the words
  pub read-node : (tree : Tree) → read_policy table words ≡ passed tree → Node table words formula 0 0 0 tree (length words)
  unfolding read_policy
  read-node tree e =
      both-passed _ _ e λ _ p e₁.
      both-passed _ _ e₁ λ r q e₂.
      both-passed _ _ e₂ λ _ s e₃.
      let ends = eqb-true r.next (length words) (ask-passed _ Shape r.next s) in
      rw (← passed-same e₃, ← ends) (node-there _ formula 0 0 0 r q)

  -- a policy that is read is its tree's words, and the tree keeps the rules and the level limit
  pub read-encode :
      (tree : Tree) →
      read_policy table words ≡ passed tree →
      (encode tree ≡ words) × Formed tree table true 0 × (greatest tree formula 0 ≤ level_limit)
  unfolding is_formula
  read-encode tree e =
      let node = read-node tree e in
      (sym (node.stands.here ∙ rw (drop-length, append-nil)), node.formed, node.levels)

  -- a policy that is read has at least one word, and no more than the limit
  pub read_length : (tree : Tree) → read_policy table words ≡ passed tree → (1 ≤ length words) × (length words ≤ policy_limit)
  unfolding read_policy
  read_length tree e =
      both-passed _ _ e λ _ p e₁.
      let both = ask-passed _ PolicyLength 0 p in
      (leb-true _ _ (and_left _ _ both), leb-true _ _ (and_right (leb 1 (length words)) _ both))

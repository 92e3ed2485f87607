-- The reading of a policy's words: questions 2 to 6. A list of words is refused, or gives its tree.
use Rattle.std.specs.Prelude.{ℕ, zero, suc, ◌+◌, ◌*◌, Bool, true, false, cond, ◌&&◌, ◌||◌, List, map, length, take, drop, leb, eqb, pos}
use Rattle.model.specs.Words.{Words, word, value, at_least, within, below, equal, policy_limit, level_limit, scope_limit}
use Rattle.model.specs.Lists.{span, all}
use Rattle.model.specs.Answer.{Outcome, passed, refused, ask, ◌>>=◌}
use Rattle.model.specs.Table.{predicates, arity}
use Rattle.model.specs.Tag.{Tag, tag_of}
use Rattle.model.specs.Tree.{Term, constant, variable, Tree, Trees, plain, atom, compare, join, quantifier, some, nil, cons}
use Rattle.model.specs.Level.{Role, restriction, formula, operand, under, cost}
use Rattle.model.specs.declared.Refusal.TheVariants.{PolicyLength, Shape, Level, Predicate, Variable}

-- what was read, and the index of the word behind it
pub record Read (A : Type 0) : Type 0 where
  pub tree : A
  pub next : ℕ

unfoldable pub is_restriction : Role → Bool
is_restriction restriction = true
is_restriction formula = false
is_restriction (operand b) = false

unfoldable pub is_formula : Role → Bool
is_formula restriction = false
is_formula formula = true
is_formula (operand b) = true

-- where n terms stand, the first at an index
unfoldable pub places : ℕ → ℕ → List ℕ
places first n = map (λ i. first + 2 * i) (span 0 n)

-- one reading after another, n times
unfoldable pub repeat : ℕ → (ℕ → Outcome (Read Tree)) → ℕ → Outcome (Read Trees)
repeat zero one at = passed (record { tree = nil; next = at })
repeat (suc n) one at = do
  first ← one at
  rest ← repeat n one first.next
  passed (record { tree = cons first.tree rest.tree; next = rest.next })

-- what questions 3 and 6 ask of a node's own words
pub record Own : Type 0 where
  -- question 3: the tag is allowed there, counts and term kinds are in range; and how many words there should be
  pub shape : Bool
  pub size : ℕ
  -- question 6
  pub scope : Bool

module _ (words : Words) where
  -- the term at an index
  unfoldable pub term_at : ℕ → Term
  term_at i = cond (equal (word words i) (pos 0)) (constant (word words (i + 1))) (variable (value words (i + 1)))

  -- its kind is 0 or 1; it is no variable, or one of those in scope
  unfoldable pub good_kind : ℕ → Bool
  good_kind i = within 0 1 (word words i)

  unfoldable pub in_scope : ℕ → ℕ → Bool
  in_scope scope i = equal (word words i) (pos 0) || below scope (word words (i + 1))

  -- the own words of the node at an index, with so many variables in scope
  unfoldable pub own : Tag → Role → ℕ → ℕ → Own
  own (Tag.plain b) role scope at = record { shape = true; size = 1; scope = true }
  own (Tag.atom b) role scope at =
      record {
        shape = within 1 6 (word words (at + 2)) && all good_kind (places (at + 3) (value words (at + 2)));
        size = 3 + 2 * value words (at + 2);
        scope = all (in_scope scope) (places (at + 3) (value words (at + 2)));
      }
  own (Tag.compare b) role scope at =
      record { shape = all good_kind (places (at + 2) 2); size = 6; scope = all (in_scope scope) (places (at + 2) 2) }
  own (Tag.join b) role scope at = record { shape = at_least 2 (word words (at + 1)); size = 2; scope = true }
  own (Tag.quantifier b) role scope at =
      record {
        shape = is_formula role && within 1 4 (word words (at + 1)) && at_least 0 (word words (at + 2));
        size = 3 + value words (at + 1) * value words (at + 2);
        scope = leb (scope + value words (at + 1)) scope_limit;
      }
  own Tag.some role scope at = record { shape = is_restriction role; size = 1; scope = leb (scope + 1) scope_limit }
  own Tag.unused role scope at = record { shape = false; size = 1; scope = true }

  -- the tree of a node that passed, at its level; `read` reads a node below it
  unfoldable pub build : (Role → ℕ → ℕ → ℕ → Outcome (Read Tree)) → Tag → Role → ℕ → ℕ → ℕ → Outcome (Read Tree)
  build read (Tag.plain b) role level scope at = passed (record { tree = plain b; next = at + 1 })
  build read (Tag.atom b) role level scope at =
      let n = value words (at + 2) in
      passed (record { tree = atom b (value words (at + 1)) (map term_at (places (at + 3) n)); next = at + 3 + 2 * n })
  build read (Tag.compare b) role level scope at =
      passed (record { tree = compare b (word words (at + 1)) (term_at (at + 2)) (term_at (at + 4)); next = at + 6 })
  build read (Tag.join b) role level scope at = do
    children ← repeat (value words (at + 1)) (read (under role b) level scope) (at + 2)
    passed (record { tree = join b children.tree; next = children.next })
  build read (Tag.quantifier b) role level scope at = do
    let v = value words (at + 1)
    let m = value words (at + 2)
    let excluded = map (λ i. take v (drop (at + 3 + v * i) words)) (span 0 m)
    c ← read restriction level (scope + v) (at + 3 + v * m)
    f ← read formula level (scope + v) c.next
    passed (record { tree = quantifier b v excluded c.tree f.tree; next = f.next })
  build read Tag.some role level scope at = do
    c ← read restriction level (scope + 1) (at + 1)
    passed (record { tree = some c.tree; next = c.next })
  build read Tag.unused role level scope at = refused Shape at

module _ (table words : Words) where
  -- question 5: in the own words of an atom, its predicate exists, and the number of its terms is the predicate's arity
  unfoldable pub good_predicate : Tag → ℕ → Bool
  good_predicate (Tag.plain b) at = true
  good_predicate (Tag.atom b) at =
      below (predicates table) (word words (at + 1)) && eqb (arity table (value words (at + 1))) (value words (at + 2))
  good_predicate (Tag.compare b) at = true
  good_predicate (Tag.join b) at = true
  good_predicate (Tag.quantifier b) at = true
  good_predicate Tag.some at = true
  good_predicate Tag.unused at = true

  -- questions 3, 4, 5 and 6 at one node, which stands under a node at the level `above`
  unfoldable pub questions : Tag → Role → ℕ → ℕ → ℕ → Outcome (Unit {0})
  questions tag role above scope at = do
    let node = own words tag role scope at
    _ ← ask (node.shape && leb (at + node.size) (length words)) Shape at
    _ ← ask (leb (above + cost role tag) level_limit) Level at
    _ ← ask (good_predicate tag at) Predicate at
    ask node.scope Variable at

  -- the node at an index: its questions, then the nodes below it. A node lowers `depth` by one and costs at least one
  -- level, so that question 4 refuses before a depth of 65 is spent
  unfoldable pub read_node : ℕ → Role → ℕ → ℕ → ℕ → Outcome (Read Tree)
  read_node zero role above scope at = refused Level at
  read_node (suc depth) role above scope at = do
    let tag = tag_of (word words at)
    _ ← questions tag role above scope at
    build words (read_node depth) tag role (above + cost role tag) scope at

  -- question 2, then 3 to 6 at each node, then 3 for words behind the tree
  unfoldable pub read_policy : Outcome Tree
  read_policy = do
    _ ← ask (leb 1 (length words) && leb (length words) policy_limit) PolicyLength 0
    policy ← read_node (level_limit + 1) formula 0 0 0
    _ ← ask (eqb policy.next (length words)) Shape policy.next
    passed policy.tree

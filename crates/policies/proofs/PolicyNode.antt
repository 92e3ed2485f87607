-- What a walk tells of one node, by its tag, from what it is told of the nodes below.
use Prim.Native.Nat.{ℕ, zero, suc, ◌+◌, ◌*◌, ◌≤◌, ◌<◌}
use native.Mathlib.Omega.{arith}
use native.Mathlib.Nat.{add_assoc}
use mathlib.Core.Path.{◌≡◌, refl, sym, ap, ◌∙◌}
use mathlib.Core.Bool.{Bool, true, false≢true}
use mathlib.Core.List.{List}
use lib.IntN.{ℤ}
use lib.ListN.{length}
use borrow.Author.Tests.{leb-true}
use Rattle.model.specs.declared.Refusal.{Refusal}
use Rattle.model.specs.Words.{Words, word, value, level_limit, scope_limit}
use Rattle.model.specs.Answer.{Outcome, passed, refused, ◌>>=◌, refused_at}
use Rattle.model.specs.Tag.{Tag, tag_of}
use Rattle.model.specs.Tree.{Tree, Trees, join, quantifier, some}
use Rattle.model.specs.Level.{Role, restriction, under, quantifier_cost, cost, greatest}
use Rattle.model.specs.Reading as R
use Rattle.model.specs.Reading.{own, questions, build, read_node}
use Rattle.laws.specs.Reading.Nodes.{Reader, Asked, asked}
use Rattle.laws.specs.Reading.Back.{cost-one}
use Rattle.tables.specs.Checked.{outcome}
use Rattle.policies.specs.Policy.{Told, walked, told, told_all, told_body, told_both, NodeTold, NodesTold, BothTold}
use Rattle.std.specs.Prelude.{Result, Ok, Err}
use Rattle.model.specs.declared.Refused.{Refused}
use Rattle.policies.proofs.PolicyRead.{greatest_all-least}

-- the node itself, with what was read of the nodes below it
module _ (role : Role) (above : ℕ) where
  join-levels :
      (b : Bool) (o : Outcome (R.Read Trees)) →
      told_all (under role b) (above + 1) o
      ≡ told role above (o >>= λ ts. passed (record { tree = join b ts.tree; next = ts.next }))
  unfolding told told_all greatest ◌>>=◌
  join-levels b (refused q p) = refl
  join-levels b (passed ts) =
      ap (walked ts.next) (let least = greatest_all-least ts.tree (under role b) (above + 1) in omega arith)

  some-levels :
      (o : Outcome (R.Read Tree)) →
      told restriction (above + 1) o ≡ told role above (o >>= λ c. passed (record { tree = some c.tree; next = c.next }))
  unfolding told greatest ◌>>=◌
  some-levels (refused q p) = refl
  some-levels (passed c) = refl

  quantifier-levels :
      (b : Bool) (v : ℕ) (excluded : List (List ℤ)) (o : Outcome (R.Read Tree)) (body : ℕ → Outcome (R.Read Tree)) →
      told_both (above + quantifier_cost role b) o body
      ≡ told role above (
      o >>= λ c.
      body c.next >>= λ f.
      passed (record { tree = quantifier b v excluded c.tree f.tree; next = f.next })
      )
  unfolding told told_both told_body greatest ◌>>=◌
  quantifier-levels b v excluded (refused q p) body = refl
  quantifier-levels b v excluded (passed c) body = go (body c.next)
    where
      go :
          (o : Outcome (R.Read Tree)) →
          told_body (above + quantifier_cost role b) (greatest c.tree restriction (above + quantifier_cost role b)) o
          ≡ told role above (o >>= λ f. passed (record { tree = quantifier b v excluded c.tree f.tree; next = f.next }))
      go (refused q p) = refl
      go (passed f) = refl

-- the tags of nodes with no node below them
abbrev pub Leaf : (tag : Tag) → Type 0
Leaf (Tag.plain b) = Unit {0}
Leaf (Tag.atom b) = Unit {0}
Leaf (Tag.compare b) = Unit {0}
Leaf (Tag.join b) = ⊥
Leaf (Tag.quantifier b) = ⊥
Leaf Tag.some = ⊥
Leaf Tag.unused = Unit {0}

module _ (words : Words) (read : Reader) (role : Role) (above scope at : ℕ) where
  leaf-levels :
      (tag : Tag) →
      Leaf tag →
      (own words tag role scope at).shape ≡ true →
      walked (at + (own words tag role scope at).size) (above + cost role tag)
      ≡ told role above (build words read tag role (above + cost role tag) scope at)
  unfolding told build own cost greatest
  leaf-levels (Tag.plain b) l e = refl
  leaf-levels (Tag.atom b) l e = rw (add_assoc at 3 (2 * value words (at + 2)))
  leaf-levels (Tag.compare b) l e = refl
  leaf-levels (Tag.join b) l e = absurd l
  leaf-levels (Tag.quantifier b) l e = absurd l
  leaf-levels Tag.some l e = absurd l
  leaf-levels Tag.unused l e = absurd (false≢true e)

-- a depth that is not spent before the level limit is not zero
tells :
    (table words : Words) (role : Role) (above scope at : ℕ) →
    above ≤ level_limit →
    {r : Told} →
    ((depth : ℕ) → level_limit < suc depth + above → r ≡ told role above (read_node table words (suc depth) role above scope at)) →
    NodeTold table words role above scope at r
tells table words role above scope at h next zero k = absurd (omega arith)
tells table words role above scope at h next (suc depth) k = next depth k

-- a node whose questions are refused
pub refused-tells :
    (table words : Words) (role : Role) (above scope at : ℕ) →
    above ≤ level_limit →
    (tag : Tag) →
    tag ≡ tag_of (word words at) →
    {answer : Result (Unit {0}) Refused} {q : Refusal} {p : ℕ} →
    answer ≡ Err (refused_at q p) →
    outcome answer ≡ questions table words tag role above scope at →
    NodeTold table words role above scope at (Err (refused_at q p))
unfolding told read_node ◌>>=◌
refused-tells table words role above scope at h tag known e asks =
    tells table words role above scope at h (λ depth k. rw (← known, ← asks, e))

-- a node whose questions passed: its tag, its level, and the index behind its own words
pub record Entered (table words : Words) (role : Role) (above scope at : ℕ) (tag : Tag) (level next : ℕ) : Type 0 where
  pub low : above ≤ level_limit
  pub known : tag ≡ tag_of (word words at)
  pub yes : passed tt ≡ questions table words tag role above scope at
  pub deep : level ≡ above + cost role tag
  pub first : next ≡ at + (own words tag role scope at).size

-- from what the calls before promise
pub entered :
    {table words : Words} {role : Role} {above scope at : ℕ} {tag : Tag} {spent size : ℕ} {answer : Result (Unit {0}) Refused} →
    above ≤ level_limit →
    tag ≡ tag_of (word words at) →
    answer ≡ Ok tt →
    outcome answer ≡ questions table words tag role above scope at →
    spent ≡ cost role tag →
    ((role : Role) (scope : ℕ) → size ≡ (own words tag role scope at).size) →
    Entered table words role above scope at tag (above + spent) (at + size)
entered {role = role} {above = above} {scope = scope} {at = at} low known was asks costs sized = record {
  low = low;
  known = known;
  yes = ap outcome (sym was) ∙ asks;
  deep = ap (λ (n : ℕ). above + n) costs;
  first = ap (λ (n : ℕ). at + n) (sized role scope);
}

module _ {table words : Words} {role : Role} {above scope at : ℕ} {tag : Tag} {level next : ℕ}
    (node : Entered table words role above scope at tag level next) where
  pub answers : Asked table words role above scope at tag
  answers = asked table words role above scope at tag (sym node.yes)

  -- the nodes below are within the limits, and one level down at least
  pub next_fits : next ≤ length words
  next_fits = omega (arith, node.first, answers.fits)

  pub level-fits : level ≤ level_limit
  level-fits = omega (arith, node.deep, answers.level)

  pub level_down : above + 1 ≤ level
  level_down = omega (arith, node.deep, cost-one role tag)

  pub quantifier-range : {b : Bool} → tag ≡ Tag.quantifier b → scope + value words (at + 1) ≤ scope_limit
  unfolding own
  quantifier-range e = leb-true _ _ (rw e at answers.range)

  pub some-range : tag ≡ Tag.some → scope + 1 ≤ scope_limit
  unfolding own
  some-range e = leb-true _ _ (rw e at answers.range)

  -- what the reading of the nodes below tells, the node does
  built :
      {r : Told} →
      ((depth : ℕ) → level_limit < depth + level →
      r ≡ told role above (build words (read_node table words depth) tag role (above + cost role tag) scope at)) →
      NodeTold table words role above scope at r
  unfolding read_node ◌>>=◌
  built h =
      tells table words role above scope at node.low λ depth k.
      h depth (omega (arith, level_down)) ∙ rw (← node.known, ← node.yes)

  pub join-tells :
      {b : Bool} →
      tag ≡ Tag.join b →
      {below : Role} {n : ℕ} {r : Told} →
      below ≡ under role b →
      n ≡ value words (at + 1) →
      NodesTold table words below level scope n next r →
      NodeTold table words role above scope at r
  unfolding build own cost
  join-tells {b} e role-below count h =
      built λ depth k.
      h depth k
      ∙ rw (role-below, count, node.first, node.deep, e) (join-levels role above b _)

  pub quantifier-tells :
      {b : Bool} →
      tag ≡ Tag.quantifier b →
      {inner : ℕ} {r : Told} →
      inner ≡ scope + value words (at + 1) →
      BothTold table words level inner next r →
      NodeTold table words role above scope at r
  unfolding build own cost
  quantifier-tells {b} e inside h =
      built λ depth k.
      h depth k
      ∙ rw (inside, node.first, node.deep, e, add_assoc at 3 (value words (at + 1) * value words (at + 2)))
      (quantifier-levels role above b _ _ _ _)

  pub some-tells :
      tag ≡ Tag.some →
      {r : Told} →
      NodeTold table words restriction level (scope + 1) next r →
      NodeTold table words role above scope at r
  unfolding build own cost
  some-tells e h = built λ depth k. h depth k ∙ rw (node.first, node.deep, e) (some-levels role above _)

  pub leaf-tells : Leaf tag → NodeTold table words role above scope at (walked next level)
  leaf-tells l =
      built λ depth k.
      rw (node.first, node.deep)
      (leaf-levels words (read_node table words depth) role above scope at tag l answers.shape)

-- A formula that stands at an index: its level, and its own words.
use Prim.Native.Nat.{ℕ, ◌+◌, ◌≤◌}
use native.Mathlib.Omega.{arith}
use mathlib.Core.Path.{◌≡◌, refl, sym, ap, ◌∙◌, subst}
use mathlib.Core.Bool.{true}
use lib.ListN.{length}
use lib.IntN.{nat_abs}
use Rattle.model.specs.Words.{Words, word, value, level_limit}
use Rattle.model.specs.Tag.{Tag, tag_of}
use Rattle.model.specs.Tree.{Tree, plain, atom, compare, join, quantifier, some}
use Rattle.model.specs.Level.{Role, restriction, formula, quantifier_cost, cost, greatest}
use Rattle.model.specs.Reading.{is_formula, own}
use Rattle.laws.specs.Level.{greatest-least}
use Rattle.laws.specs.Reading.Nodes.{Node}
use Rattle.laws.specs.Reading.Parts.{root, root_tag, plain-parts, atom-parts, compare-parts, join-parts, quantifier-parts, some-parts}
use Rattle.laws.specs.Reading.Back.{cost-one}
use Rattle.policies.specs.Standing.{Here}

-- a quantifier's body is a formula
pub formula-kind : is_formula formula ≡ true
unfolding is_formula
formula-kind = refl

-- a tree's root is within the level limit
root-level : (tree : Tree) (role : Role) (above : ℕ) → above + cost role (root tree) ≤ greatest tree role above
unfolding root cost greatest
root-level (plain b) role above = omega arith
root-level (atom b p ts) role above = omega arith
root-level (compare b d x y) role above = omega arith
root-level (join b ts) role above = omega arith
root-level (quantifier b v excluded c f) role above =
    let least = greatest-least c restriction (above + quantifier_cost role b) in omega arith
root-level (some c) role above = let least = greatest-least c restriction (above + 1) in omega arith

module _ (table words : Words) (role : Role) (above scope at : ℕ) where
  -- its own words are there: how many they are depends on its tag and the words alone
  root-fits :
      (tree : Tree) (end : ℕ) → Node table words role above scope at tree end →
      (kind : Role) (free : ℕ) → at + (own words (root tree) kind free at).size ≤ length words
  unfolding root own value
  root-fits (plain b) end node kind free = omega (arith, plain-parts table words role above scope at end b node, node.stands.fits)
  root-fits (atom b p ts) end node kind free =
      let a = atom-parts table words role above scope at end b p ts node in
      omega (arith, a.ends, node.stands.fits, ap nat_abs a.number)
  root-fits (compare b d x y) end node kind free =
      let a = compare-parts table words role above scope at end b d x y node in omega (arith, a.ends, node.stands.fits)
  root-fits (join b ts) end node kind free =
      let a = join-parts table words role above scope at end b ts node in
      omega (arith, a.children.stands.ends, a.children.stands.fits)
  root-fits (quantifier b v excluded c f) end node kind free =
      let a = quantifier-parts table words role above scope at end b v excluded c f node in
      rw (a.variables, a.number) (omega (arith, a.restricts.stands.fits))
  root-fits (some c) end node kind free =
      let a = some-parts table words role above scope at end c node in
      omega (arith, a.stands.ends, a.stands.fits)

-- a formula at an index: its tag, its level, and the index behind its own words
pub record Stood (table words : Words) (role : Role) (above scope at : ℕ) (tag : Tag) (level next : ℕ) : Type 0 where
  pub kind : is_formula role ≡ true
  pub here : Here table words role above scope at
  pub known : tag ≡ tag_of (word words at)
  pub deep : level ≡ above + cost role tag
  pub first : next ≡ at + (own words tag role scope at).size

-- from what the calls before promise
pub stood :
    {table words : Words} {role : Role} {above scope at : ℕ} {tag : Tag} {spent size : ℕ} →
    is_formula role ≡ true →
    Here table words role above scope at →
    tag ≡ tag_of (word words at) →
    spent ≡ cost role tag →
    ((role : Role) (scope : ℕ) → size ≡ (own words tag role scope at).size) →
    Stood table words role above scope at tag (above + spent) (at + size)
stood {role = role} {above = above} {scope = scope} {at = at} kind here known costs sized = record {
  kind = kind;
  here = here;
  known = known;
  deep = ap (λ (n : ℕ). above + n) costs;
  first = ap (λ (n : ℕ). at + n) (sized role scope);
}

module _ (table words : Words) (role : Role) (above scope at : ℕ) (here : Here table words role above scope at) (tag : Tag)
    (known : tag ≡ tag_of (word words at)) where
  rooted : tag ≡ root here.0
  rooted = known ∙ root_tag table words role above scope at here.1 here.0 here.2

  pub level-fits : above + cost role tag ≤ level_limit
  level-fits =
      subst (λ (t : Tag). above + cost role t ≤ level_limit) (sym rooted)
      (omega (arith, root-level here.0 role above, here.2.levels))

  pub own-fits : (kind : Role) (free : ℕ) → at + (own words tag kind free at).size ≤ length words
  own-fits kind free =
      subst (λ (t : Tag). at + (own words t kind free at).size ≤ length words) (sym rooted)
      (root-fits table words role above scope at here.0 here.1 here.2 kind free)

module _ {table words : Words} {role : Role} {above scope at : ℕ} {tag : Tag} {level next : ℕ}
    (node : Stood table words role above scope at tag level next) where
  pub next_in : next ≤ length words
  next_in = omega (arith, node.first, own-fits table words role above scope at node.here tag node.known role scope)

  pub level_in : level ≤ level_limit
  level_in = omega (arith, node.deep, level-fits table words role above scope at node.here tag node.known)

  pub level_down : above + 1 ≤ level
  level_down = omega (arith, node.deep, cost-one role tag)

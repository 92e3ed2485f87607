-- Levels: a tree that moves up, or a join that takes a join's children in its place, reaches no deeper.
-- A node's cost depends on its role by at most one, and the join that a tree loses above it cost one.
use Rattle.std.specs.Prelude.{ℕ, ◌+◌, ◌≤◌, ◌≡◌, refl, ◌⊎◌, Bool, true, false}
use native.Mathlib.Omega.{arith}
use Rattle.std.proofs.Common.{sym, subst, inl, inr}
use Rattle.model.specs.Tree.{Tree, Trees, plain, atom, compare, join, quantifier, some, nil, cons}
use Rattle.model.specs.Level.{Role, restriction, formula, operand, under, quantifier_cost, greatest, greatest_all}
use Rattle.model.specs.Joining.{parts, joined}
use Rattle.laws.specs.Joining.{All, parts_all_lem, joined-all}

-- lower above, no deeper below
mutual
  unfolding greatest

  pub greatest_mono : (t : Tree) (role : Role) (a b : ℕ) → a ≤ b → greatest t role a ≤ greatest t role b
  greatest_mono (plain x) role a b h = omega arith
  greatest_mono (atom x p ts) role a b h = omega arith
  greatest_mono (compare x d l r) role a b h = omega arith
  greatest_mono (join x ts) role a b h =
      let below = greatest_all_mono ts (under role x) (a + 1) (b + 1) (omega arith) in omega arith
  greatest_mono (quantifier x v excluded c f) role a b h =
      let q = quantifier_cost role x in
      let left = greatest_mono c restriction (a + q) (b + q) (omega arith) in
      let right = greatest_mono f formula (a + q) (b + q) (omega arith) in
      omega arith
  greatest_mono (some c) role a b h = greatest_mono c restriction (a + 1) (b + 1) (omega arith)

  pub greatest_all_mono : (ts : Trees) (role : Role) (a b : ℕ) → a ≤ b → greatest_all ts role a ≤ greatest_all ts role b
  greatest_all_mono nil role a b h = h
  greatest_all_mono (cons t ts) role a b h =
      let first = greatest_mono t role a b h in let rest = greatest_all_mono ts role a b h in omega arith

-- a tree reaches at least one level below the node above it
pub greatest-least : (t : Tree) (role : Role) (above : ℕ) → above + 1 ≤ greatest t role above
unfolding greatest
greatest-least (plain x) role above = omega arith
greatest-least (atom x p ts) role above = omega arith
greatest-least (compare x d l r) role above = omega arith
greatest-least (join x ts) role above = omega arith
greatest-least (quantifier x v excluded c f) role above =
    let left = greatest-least c restriction (above + quantifier_cost role x) in omega arith
greatest-least (some c) role above = let below = greatest-least c restriction (above + 1) in omega arith

-- the roles of formulas
abbrev pub Formal : (role : Role) → Type 0
Formal restriction = ⊥
Formal formula = Unit {0}
Formal (operand b) = Unit {0}

pub under_formal : (role : Role) (b : Bool) → Formal role → under role b ≡ operand b
unfolding under
under_formal restriction b h = absurd h
under_formal formula b h = refl
under_formal (operand a) b h = refl

-- a quantifier costs 1 or 2
cost-least : (role : Role) (b : Bool) → 1 ≤ quantifier_cost role b
unfolding quantifier_cost
cost-least restriction b = omega arith
cost-least formula b = omega arith
cost-least (operand true) true = omega arith
cost-least (operand true) false = omega arith
cost-least (operand false) true = omega arith
cost-least (operand false) false = omega arith

cost-most : (role : Role) (b : Bool) → quantifier_cost role b ≤ 2
unfolding quantifier_cost
cost-most restriction b = omega arith
cost-most formula b = omega arith
cost-most (operand true) true = omega arith
cost-most (operand true) false = omega arith
cost-most (operand false) true = omega arith
cost-most (operand false) false = omega arith

-- a formula that moves up by one, in whatever role
pub greatest_up :
    (t : Tree) (role other : Role) → Formal role → Formal other → (a b : ℕ) → a + 1 ≤ b → greatest t role a ≤ greatest t other b
unfolding greatest
greatest_up (plain x) role other p q a b h = omega arith
greatest_up (atom x p' ts) role other p q a b h = omega arith
greatest_up (compare x d l r) role other p q a b h = omega arith
greatest_up (join x ts) role other p q a b h =
    rw (under_formal role x p, under_formal other x q)
    (let below = greatest_all_mono ts (operand x) (a + 1) (b + 1) (omega arith) in omega arith)
greatest_up (quantifier x v excluded c f) role other p q a b h =
    let most = cost-most role x in
    let least = cost-least other x in
    let left = greatest_mono c restriction (a + quantifier_cost role x) (b + quantifier_cost other x) (omega arith) in
    let right = greatest_mono f formula (a + quantifier_cost role x) (b + quantifier_cost other x) (omega arith) in
    omega arith
greatest_up (some c) role other p q a b h = greatest_mono c restriction (a + 1) (b + 1) (omega arith)

-- each tree of a list reaches no deeper than the list
greatest_all-all : (ts : Trees) (role : Role) (a n : ℕ) → greatest_all ts role a ≤ n → All (λ t. greatest t role a ≤ n) ts
unfolding greatest
greatest_all-all nil role a n h = tt
greatest_all-all (cons t ts) role a n h = (omega arith, greatest_all-all ts role a n (omega arith))

all-greatest_all : (ts : Trees) (role : Role) (a n : ℕ) → a ≤ n → All (λ t. greatest t role a ≤ n) ts → greatest_all ts role a ≤ n
unfolding greatest
all-greatest_all nil role a n h k = h
all-greatest_all (cons t ts) role a n h k =
    let rest = all-greatest_all ts role a n h k.1 in let first = k.0 in omega arith

-- a residual in a role, under a node at the level `above`, keeps to the level n: as an operand it is its parts that count,
-- since the join above takes them in its place
unfoldable pub Keeps : ℕ → Role → ℕ → Tree → Type 0
Keeps n restriction above t = Unit {0}
Keeps n formula above t = greatest t formula above ≤ n
Keeps n (operand b) above t = All (λ u. greatest u (operand b) above ≤ n) (parts b t)

-- the children of a join that moves out from above them
children-keep :
    (n : ℕ) (b : Bool) (above : ℕ) (ts : Trees) →
    greatest (join b ts) (operand b) above ≤ n →
    All (λ u. greatest u (operand b) above ≤ n) ts
unfolding greatest under
children-keep n b above ts h =
    greatest_all-all ts (operand b) above n
    (let up = greatest_all_mono ts (operand b) above (above + 1) (omega arith) in omega arith)

parts-keep :
    (n : ℕ) (b : Bool) (above : ℕ) (t : Tree) →
    greatest t (operand b) above ≤ n →
    All (λ u. greatest u (operand b) above ≤ n) (parts b t)
parts-keep n b above t h = parts_all_lem (λ u. greatest u (operand b) above ≤ n) b (children-keep n b above) t h

-- a residual that keeps to n as a body keeps to it as an operand one level up
pub up_keeps :
    (n : ℕ) (b : Bool) (above a : ℕ) → a + 1 ≤ above → (t : Tree) → greatest t formula above ≤ n → All (λ u. greatest u (operand b) a ≤ n) (parts b t)
up_keeps n b above a le t h =
    parts-keep n b a t (let up = greatest_up t (operand b) formula tt tt a above le in omega arith)

-- a tree that keeps to n as it stands
pub tree_keeps : (n : ℕ) (role : Role) (above : ℕ) → Formal role → (t : Tree) → greatest t role above ≤ n → Keeps n role above t
unfolding Keeps
tree_keeps n restriction above f t h = tt
tree_keeps n formula above f t h = h
tree_keeps n (operand b) above f t h = parts-keep n b above t h

same_parts : (b : Bool) (ts : Trees) → parts b (join b ts) ≡ ts
unfolding parts
same_parts true ts = refl
same_parts false ts = refl

-- where the parts of a join by the rule stand: one level below its own place; or, where it is itself under a join of its
-- kind, which takes its parts, at its own place
abbrev pub Stand : (role : Role) (b : Bool) (above a : ℕ) → Type 0
Stand role b above a = (a ≡ above + 1) ⊎ ((role ≡ operand b) × (a ≡ above))

plain-greatest : (n : ℕ) (role : Role) (above : ℕ) (x : Bool) → above + 1 ≤ n → greatest (plain x) role above ≤ n
unfolding greatest
plain-greatest n role above x h = h

-- a quantifier's parts stand one level above its body
pub stand : (role : Role) (b : Bool) (above : ℕ) → Formal role → (a : ℕ) × (a + 1 ≡ above + quantifier_cost role b) × Stand role b above a
unfolding quantifier_cost
stand restriction b above f = absurd f
stand formula b above f = (above + 1, omega arith, inl refl)
stand (operand true) true above f = (above, refl, inr (refl, refl))
stand (operand true) false above f = (above + 1, omega arith, inl refl)
stand (operand false) true above f = (above + 1, omega arith, inl refl)
stand (operand false) false above f = (above, refl, inr (refl, refl))

pub own-cost : (b : Bool) → quantifier_cost (operand b) b ≡ 1
unfolding quantifier_cost
own-cost true = refl
own-cost false = refl

operand-not-formula : (b : Bool) → formula ≡ operand b → ⊥
operand-not-formula b e = let z : ◌≡◌ {A = ℕ} 0 1 = cc in omega arith

operand_injective : (x y : Bool) → operand x ≡ operand y → x ≡ y
operand_injective x y e = cc

module _ (n : ℕ) (b : Bool) (above a : ℕ) (room : above + 1 ≤ n) where
  single_keeps : (role : Role) → Formal role → Stand role b above a → (t : Tree) → greatest t (operand b) a ≤ n → Keeps n role above t
  unfolding Keeps
  single_keeps restriction f st t h = tt
  single_keeps formula f (inl e) t h =
      let up = greatest_up t formula (operand b) tt tt above a (omega arith) in omega arith
  single_keeps formula f (inr e) t h = absurd (operand-not-formula b e.0)
  single_keeps (operand y) f (inl e) t h =
      parts-keep n y above t
      (let up = greatest_up t (operand y) (operand b) tt tt above a (omega arith) in omega arith)
  single_keeps (operand y) f (inr e) t h =
      parts-keep n y above t (subst (λ (r : Role). greatest t r above ≤ n) (sym e.0) (rw e.1 at h))

  several_keeps :
      (role : Role) →
      Formal role →
      Stand role b above a →
      (ts : Trees) →
      All (λ u. greatest u (operand b) a ≤ n) ts →
      Keeps n role above (join b ts)
  unfolding Keeps greatest under
  several_keeps restriction f st ts h = tt
  several_keeps formula f (inl e) ts h =
      let below = all-greatest_all ts (operand b) (above + 1) n room (rw e at h) in omega arith
  several_keeps formula f (inr e) ts h = absurd (operand-not-formula b e.0)
  several_keeps (operand y) f (inl e) ts h = parts-keep n y above (join b ts)
      (let below = all-greatest_all ts (operand b) (above + 1) n room (rw e at h) in omega arith)
  several_keeps (operand y) f (inr e) ts h =
      let y≡b : y ≡ b = operand_injective y b e.0 in
      rw (y≡b, same_parts b ts) (rw e.1 at h)

  -- the join by the rule, in its role
  pub joined_keeps :
      (role : Role) →
      Formal role →
      Stand role b above a →
      (ts : Trees) →
      All (λ t. All (λ u. greatest u (operand b) a ≤ n) (parts b t)) ts →
      Keeps n role above (joined b ts)
  joined_keeps role f st =
      joined-all (Keeps n role above) (λ u. greatest u (operand b) a ≤ n) b
      (λ x. tree_keeps n role above f (plain x) (plain-greatest n role above x room))
      (single_keeps role f st)
      (λ t u ts h. several_keeps role f st (cons t (cons u ts)) h)

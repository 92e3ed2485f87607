-- What the code's walk says, of what model reads: the index behind the nodes and their greatest level, or the refusal.
use Rattle.std.specs.Prelude.{ℕ, ◌+◌, ◌<◌, max, ◌≡◌, length, Result, Ok, Err}
use Rattle.model.specs.Words.{Words, level_limit}
use Rattle.model.specs.Answer.{Outcome, passed, refused, refused_at}
use Rattle.model.specs.Tree.{Tree, Trees}
use Rattle.model.specs.Level.{Role, restriction, formula, greatest, greatest_all}
use Rattle.model.specs.Reading as R
use Rattle.model.specs.Reading.{repeat, read_node}
use Rattle.policies.specs.declared.policy.Walked.{Walked}
use Rattle.model.specs.declared.Refused.{Refused}
use Rattle.model.specs.declared.Refusal.{Refusal}

-- nodes read, or a refusal
abbrev pub Told : Type 0
Told = Result Walked Refused

abbrev pub walked : ℕ → ℕ → Told
walked next level = Ok (record { next = next; level = level })

-- nodes read, or a refusal with the place where it lies apart
abbrev pub placed : ℕ → Result Walked Refusal → Told
placed place (Ok w) = Ok w
placed place (Err q) = Err (refused_at q place)

-- a node in a role, under a node at the level `above`
unfoldable pub told : Role → ℕ → Outcome (R.Read Tree) → Told
told role above (refused q p) = Err (refused_at q p)
told role above (passed r) = walked r.next (greatest r.tree role above)

-- nodes one behind another, each in this role
unfoldable pub told_all : Role → ℕ → Outcome (R.Read Trees) → Told
told_all role above (refused q p) = Err (refused_at q p)
told_all role above (passed r) = walked r.next (greatest_all r.tree role above)

-- a body behind a restriction whose greatest level is `deepest`, both under a quantifier at a level
unfoldable pub told_body : ℕ → ℕ → Outcome (R.Read Tree) → Told
told_body level deepest (refused q p) = Err (refused_at q p)
told_body level deepest (passed f) = walked f.next (max deepest (greatest f.tree formula level))

-- a restriction, and the body at the index behind it
unfoldable pub told_both : ℕ → Outcome (R.Read Tree) → (ℕ → Outcome (R.Read Tree)) → Told
told_both level (refused q p) body = Err (refused_at q p)
told_both level (passed c) body = told_body level (greatest c.tree restriction level) (body c.next)

-- a whole policy
unfoldable pub told_policy : Words → Outcome Tree → Told
told_policy policy (refused q p) = Err (refused_at q p)
told_policy policy (passed t) = walked (length policy) (greatest t formula 0)

-- r is what is told of the node at an index, read at any depth that is not spent before the level limit
abbrev pub NodeTold : (table words : Words) (role : Role) (above scope at : ℕ) (r : Told) → Type 0
NodeTold table words role above scope at r =
    (depth : ℕ) → level_limit < depth + above → r ≡ told role above (read_node table words depth role above scope at)

-- the same of n nodes one behind another
abbrev pub NodesTold : (table words : Words) (role : Role) (above scope n at : ℕ) (r : Told) → Type 0
NodesTold table words role above scope n at r =
    (depth : ℕ) → level_limit < depth + above → r ≡ told_all role above (repeat n (read_node table words depth role above scope) at)

-- the same of the restriction and the body of a quantifier at a level
abbrev pub BothTold : (table words : Words) (level scope at : ℕ) (r : Told) → Type 0
BothTold table words level scope at r =
    (depth : ℕ) → level_limit < depth + level →
    r ≡ told_both level (read_node table words depth restriction level scope at) (read_node table words depth formula level scope)

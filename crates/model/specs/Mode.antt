-- The mode rule, question 7: which variables a restriction binds. Places are those of the nodes in the policy's words.
use Rattle.std.specs.Prelude.{ℕ, suc, ◌+◌, ◌*◌, Bool, true, false, not, ◌&&◌, ◌||◌, List, [], ◌∷◌, length, ltb, eqb}
use Rattle.model.specs.Words.{Words}
use Rattle.model.specs.Lists.{span, all, any}
use Rattle.model.specs.Answer.{Outcome, passed, ask, ◌>>=◌}
use Rattle.model.specs.Table.{input}
use Rattle.model.specs.Tree.{Term, constant, variable, Tree, Trees, plain, atom, compare, join, quantifier, some, nil, cons, encode}
use Rattle.model.specs.declared.Refusal.TheVariants.{Mode}

-- a set of variables
abbrev pub Variables : Type 0
Variables = ℕ → Bool

unfoldable pub size : Tree → ℕ
size tree = length (encode tree)

-- a term is no variable, or a bound one
unfoldable pub is_bound : Variables → Term → Bool
is_bound bound (constant k) = true
is_bound bound (variable x) = bound x

unfoldable pub is_variable : ℕ → Term → Bool
is_variable x (constant k) = false
is_variable x (variable y) = eqb x y

-- of an atom's terms, the first being argument i, those at input positions are bound
unfoldable pub inputs_bound : Words → ℕ → Variables → ℕ → List Term → Bool
inputs_bound table p bound i [] = true
inputs_bound table p bound i (t ∷ ts) = (not (input table p i) || is_bound bound t) && inputs_bound table p bound (suc i) ts

-- the variables bound after a restriction, from those bound before it; `next` is the next free variable number.
-- The last case stands for no restriction
unfoldable mutual
  pub bindings : Tree → Words → Variables → ℕ → ℕ → Outcome Variables
  bindings (plain b) table bound next at = passed bound
  bindings (atom true p ts) table bound next at = do
    _ ← ask (inputs_bound table p bound 0 ts) Mode at
    passed (λ x. bound x || any (is_variable x) ts)
  bindings (atom false p ts) table bound next at = do
    _ ← ask (all (is_bound bound) ts) Mode at
    passed bound
  bindings (compare b d x y) table bound next at = do
    _ ← ask (is_bound bound x && is_bound bound y) Mode at
    passed bound
  bindings (join true ts) table bound next at = bindings_all ts table bound next (at + 2)
  bindings (join false ts) table bound next at = bindings_any ts table bound next (at + 2)
  bindings (some c) table bound next at = do
    inner ← bindings c table bound (next + 1) (at + 1)
    _ ← ask (inner next) Mode at
    passed (λ x. inner x && not (eqb x next))
  bindings (quantifier b v excluded c f) table bound next at = passed bound

  -- from left to right
  pub bindings_all : Trees → Words → Variables → ℕ → ℕ → Outcome Variables
  bindings_all nil table bound next at = passed bound
  bindings_all (cons t ts) table bound next at = do
    first ← bindings t table bound next at
    bindings_all ts table first next (at + size t)

  -- each branch from the same set; the variables bound by all of them
  pub bindings_any : Trees → Words → Variables → ℕ → ℕ → Outcome Variables
  bindings_any nil table bound next at = passed (λ x. true)
  bindings_any (cons t ts) table bound next at = do
    first ← bindings t table bound next at
    rest ← bindings_any ts table bound next (at + size t)
    passed (λ x. first x && rest x)

-- question 7 at each quantifier of a formula with so many variables in scope: its restriction is handed the outer
-- variables and must bind all of its own; then its body
unfoldable mutual
  pub ask_modes : Tree → Words → ℕ → ℕ → Outcome (Unit {0})
  ask_modes (plain b) table scope at = passed tt
  ask_modes (atom b p ts) table scope at = passed tt
  ask_modes (compare b d x y) table scope at = passed tt
  ask_modes (join b ts) table scope at = ask_modes_all ts table scope (at + 2)
  ask_modes (quantifier b v excluded c f) table scope at = do
    let start = at + 3 + v * length excluded
    bound ← bindings c table (λ x. ltb x scope) (scope + v) start
    _ ← ask (all bound (span scope v)) Mode at
    ask_modes f table (scope + v) (start + size c)
  ask_modes (some c) table scope at = passed tt

  pub ask_modes_all : Trees → Words → ℕ → ℕ → Outcome (Unit {0})
  ask_modes_all nil table scope at = passed tt
  ask_modes_all (cons t ts) table scope at = do
    _ ← ask_modes t table scope at
    ask_modes_all ts table scope (at + size t)

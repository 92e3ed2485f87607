-- The rules that a policy's tree satisfies, said of the tree alone, with no words and no places.
use Rattle.std.specs.Prelude.{ℕ, ◌+◌, ◌≤◌, ◌<◌, ◌≡◌, Bool, true, false, List, [], ◌∷◌, length, ℤ}
use Rattle.model.specs.Words.{Words, level_limit, scope_limit}
use Rattle.model.specs.Answer.{passed}
use Rattle.model.specs.Table.{predicates, arity}
use Rattle.model.specs.Tree.{Term, constant, variable, Tree, Trees, plain, atom, compare, join, quantifier, some, nil, cons, count}
use Rattle.model.specs.Level.{formula, greatest}
use Rattle.model.specs.Mode.{ask_modes}

-- a term is no variable, or one of the first `scope` ones
unfoldable pub InScope : ℕ → Term → Type 0
InScope scope (constant k) = Unit {0}
InScope scope (variable x) = x < scope

unfoldable pub AllInScope : ℕ → List Term → Type 0
AllInScope scope [] = Unit {0}
AllInScope scope (t ∷ ts) = InScope scope t × AllInScope scope ts

-- tuples of v numbers
unfoldable pub AllOfLength : ℕ → List (List ℤ) → Type 0
AllOfLength v [] = Unit {0}
AllOfLength v (τ ∷ τs) = (length τ ≡ v) × AllOfLength v τs

-- questions 3, 5 and 6: a formula (true) or restriction with `scope` variables in scope
unfoldable mutual
  pub Formed : Tree → Words → Bool → ℕ → Type 0
  Formed (plain b) table kind scope = Unit {0}
  Formed (atom b p ts) table kind scope =
      (p < predicates table) × (arity table p ≡ length ts) × (1 ≤ length ts) × (length ts ≤ 6) × AllInScope scope ts
  Formed (compare b d x y) table kind scope = InScope scope x × InScope scope y
  Formed (join b ts) table kind scope = (2 ≤ count ts) × FormedAll ts table kind scope
  Formed (quantifier b v excluded c f) table kind scope =
      (kind ≡ true)
      × (1 ≤ v)
      × (v ≤ 4)
      × AllOfLength v excluded
      × (scope + v ≤ scope_limit)
      × Formed c table false (scope + v)
      × Formed f table true (scope + v)
  Formed (some c) table kind scope = (kind ≡ false) × (scope + 1 ≤ scope_limit) × Formed c table false (scope + 1)

  pub FormedAll : Trees → Words → Bool → ℕ → Type 0
  FormedAll nil table kind scope = Unit {0}
  FormedAll (cons t ts) table kind scope = Formed t table kind scope × FormedAll ts table kind scope

-- questions 3 to 7 of a policy's tree
pub record Rules (table : Words) (tree : Tree) : Type 0 where
  pub formed : Formed tree table true 0
  pub levels : greatest tree formula 0 ≤ level_limit
  pub modes : ask_modes tree table 0 0 ≡ passed tt

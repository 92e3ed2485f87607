-- Environments, the listing of a restriction, and the entries of its lists.
use Rattle.std.specs.Prelude.{ℕ, ◌+◌, Bool, true, false, not, cond, ◌&&◌, List, [], ◌∷◌, ◌++◌, map, length, get_or, ltb, eqb, ℤ, pos}
use Rattle.model.specs.Words.{Words, word, same, equal}
use Rattle.model.specs.Lists.{keep, gather}
use Rattle.model.specs.Log.{Value, known, unknown, arguments, says_true, value_in}
use Rattle.model.specs.Tree.{Term, constant, variable, Tree, Trees, plain, atom, compare, join, quantifier, some, nil, cons}
use Rattle.model.specs.Truth.{sum_at_most}

-- what an environment has for a variable: a number, or nothing
pub data Slot : Type 0 where
  bound : ℤ → Slot
  free : Slot

-- an environment has a slot for each variable
abbrev pub Environment : Type 0
Environment = ℕ → Slot

-- only the outer variables are bound, to the numbers ρ; with none of them, this is the empty environment
unfoldable pub outer : List ℤ → Environment
outer ρ x = cond (ltb x (length ρ)) (bound (get_or ρ x (pos 0))) free

-- the environment with one variable more bound; with one variable dropped
unfoldable pub bind : Environment → ℕ → ℤ → Environment
bind e x k y = cond (eqb y x) (bound k) (e y)

unfoldable pub release : Environment → ℕ → Environment
release e x y = cond (eqb y x) free (e y)

-- a number for what is bound
unfoldable pub number_in : Slot → ℤ
number_in (bound k) = k
number_in free = pos 0

-- what an environment has for a term
unfoldable pub look : Environment → Term → Slot
look e (constant k) = bound k
look e (variable x) = e x

unfoldable pub numbers_in : Environment → List Term → List ℤ
numbers_in e ts = map (λ t. number_in (look e t)) ts

-- a term meets an argument: the environments that come of it, one or none
unfoldable pub meet : Slot → Term → ℤ → Environment → List Environment
meet (bound k) t a e = cond (equal k a) (e ∷ []) []
meet free (variable x) a e = bind e x a ∷ []
meet free (constant k) a e = []

-- terms meet arguments, from left to right
unfoldable pub fit : List Term → List ℤ → Environment → List Environment
fit [] arguments e = e ∷ []
fit (t ∷ ts) [] e = []
fit (t ∷ ts) (a ∷ arguments) e = gather (fit ts arguments) (meet (look e t) t a e)

-- the environments that the true rows of a predicate make of one environment, in row order
unfoldable pub matches : List Words → ℕ → List Term → Environment → List Environment
matches rows p ts e = gather (λ row. cond (says_true row && equal (word row 0) (pos p)) (fit ts (arguments row) e) []) rows

-- a ground atom is known to be false
unfoldable pub is_false : Value → Bool
is_false (known b) = not b
is_false unknown = false

module _ (table : Words) (rows : List Words) where
  -- the list that a restriction node makes of the list handed to it; `next` is the next free variable number.
  -- The last case stands for no restriction
  unfoldable mutual
    pub list : Tree → ℕ → List Environment → List Environment
    list (plain b) next es = cond b es []
    list (atom true p ts) next es = gather (matches rows p ts) es
    list (atom false p ts) next es = keep (λ e. is_false (value_in table rows p (numbers_in e ts))) es
    list (compare b d x y) next es = keep (λ e. same b (sum_at_most d (number_in (look e x)) (number_in (look e y)))) es
    list (join true ts) next es = list_all ts next es
    list (join false ts) next es = list_any ts next es
    list (some c) next es = map (λ e. release e next) (list c (next + 1) es)
    list (quantifier b v excluded c f) next es = []

    -- each child's list is handed to the next one
    pub list_all : Trees → ℕ → List Environment → List Environment
    list_all nil next es = es
    list_all (cons t ts) next es = list_all ts next (list t next es)

    -- the same list is handed to each branch, and the branches' lists are joined
    pub list_any : Trees → ℕ → List Environment → List Environment
    list_any nil next es = []
    list_any (cons t ts) next es = list t next es ++ list_any ts next es

  -- the number of entries in the lists of a restriction node and of the nodes below it
  unfoldable mutual
    pub entries : Tree → ℕ → List Environment → ℕ
    entries (plain b) next es = length (list (plain b) next es)
    entries (atom b p ts) next es = length (list (atom b p ts) next es)
    entries (compare b d x y) next es = length (list (compare b d x y) next es)
    entries (join true ts) next es = entries_all ts next es + length (list (join true ts) next es)
    entries (join false ts) next es = entries_any ts next es + length (list (join false ts) next es)
    entries (some c) next es = entries c (next + 1) es + length (list (some c) next es)
    entries (quantifier b v excluded c f) next es = 0

    pub entries_all : Trees → ℕ → List Environment → ℕ
    entries_all nil next es = 0
    entries_all (cons t ts) next es = entries t next es + entries_all ts next (list t next es)

    pub entries_any : Trees → ℕ → List Environment → ℕ
    entries_any nil next es = 0
    entries_any (cons t ts) next es = entries t next es + entries_any ts next es

-- What the code's sets of variables and its walks say, as those of model.
use Rattle.std.specs.Prelude.{ℕ, ◌+◌, ◌≡◌, Bool, false, ◌||◌, List, replicate, refl, get_or, ltb, Result, Ok, Err}
use Rattle.std.specs.Result.{IfOk}
use Rattle.model.specs.Words.{Words}
use Rattle.model.specs.declared.Refusal.TheVariants.{Mode}
use Rattle.model.specs.Answer.{Outcome, passed, refused, ask, ◌>>=◌, refused_at}
use Rattle.model.specs.Level.{Role, restriction, formula}
use Rattle.model.specs.Lists.{span, all, any}
use Rattle.model.specs.Tree.{Term, Tree, Trees, count}
use Rattle.model.specs.Mode.{Variables, is_variable, size, bindings, bindings_all, bindings_any, ask_modes, ask_modes_all}
use Rattle.laws.specs.Reading.Nodes.{Node, Nodes}
use Rattle.model.specs.declared.Refused.{Refused}
use Rattle.modes.specs.declared.marks.Marks.{Marks}
use Rattle.modes.specs.declared.mode.Bound.{Bound}

-- the variables whose marks are set
abbrev pub marked : (marks : List Bool) → Variables
marked marks = λ x. get_or marks x false

abbrev pub set_of : (set : Marks) → Variables
set_of set = marked set.marks

-- no variable
abbrev pub none : Marks
none = record { marks = replicate 16 false; sixteen = refl }

-- a set with the variables among terms
unfoldable pub with_terms : Variables → List Term → Variables
with_terms bound ts = λ x. bound x || any (is_variable x) ts

-- what a walk of a restriction says: the outcome of the mode rule
abbrev pub told : (r : Result Bound Refused) → Outcome Variables
told (Ok b) = passed (set_of b.set)
told (Err e) = refused e.0 e.1

-- a walk came to what the mode rule says; and, if it passed, to the index behind
pub record Came (o : Outcome Variables) (next : ℕ) (r : Result Bound Refused) : Type 0 where
  pub outcome : told r ≡ o
  pub stands : IfOk r (λ b. b.next ≡ next)

abbrev pub Binds : (c : Tree) (table : Words) (b : Variables) (scope at next : ℕ) (r : Result Bound Refused) → Type 0
Binds c table b scope at next r = Came (bindings c table b scope at) next r

abbrev pub BindsAll : (ts : Trees) (table : Words) (b : Variables) (scope at next : ℕ) (r : Result Bound Refused) → Type 0
BindsAll ts table b scope at next r = Came (bindings_all ts table b scope at) next r

abbrev pub BindsAny : (ts : Trees) (table : Words) (b : Variables) (scope at next : ℕ) (r : Result Bound Refused) → Type 0
BindsAny ts table b scope at next r = Came (bindings_any ts table b scope at) next r

-- what a walk of formulas says: that the mode rule passed, and the index behind them; or where it was refused
unfoldable pub told_modes : Outcome (Unit {0}) → ℕ → Result ℕ Refused
told_modes (passed u) next = Ok next
told_modes (refused q p) next = Err (refused_at q p)

-- r is what the mode rule says of the formula at an index
abbrev pub Asks : (table words : Words) (role : Role) (above scope at : ℕ) (r : Result ℕ Refused) → Type 0
Asks table words role above scope at r =
    (tree : Tree) (next : ℕ) →
    Node table words role above scope at tree next →
    r ≡ told_modes (ask_modes tree table scope at) next

-- the same of n formulas one behind another
abbrev pub AsksAll : (table words : Words) (role : Role) (above scope n at : ℕ) (r : Result ℕ Refused) → Type 0
AsksAll table words role above scope n at r =
    (ts : Trees) (next : ℕ) →
    Nodes table words role above scope at ts next →
    count ts ≡ n →
    r ≡ told_modes (ask_modes_all ts table scope at) next

-- the mode rule at a quantifier of v variables at an index, whose restriction stands at `first`
unfoldable pub ask_both : Tree → Tree → Words → ℕ → ℕ → ℕ → ℕ → Outcome (Unit {0})
ask_both c f table scope v at first = do
  bound ← bindings c table (λ x. ltb x scope) (scope + v) first
  _ ← ask (all bound (span scope v)) Mode at
  ask_modes f table (scope + v) (first + size c)

-- a restriction stands at an index, and a formula behind it
pub record Both (table words : Words) (level scope first : ℕ) (c f : Tree) (next : ℕ) : Type 0 where
  pub restricts : Node table words restriction level scope first c (first + size c)
  pub body : Node table words formula level scope (first + size c) f next

abbrev pub HereBoth : (table words : Words) (level scope first : ℕ) → Type 0
HereBoth table words level scope first = (c : Tree) × (f : Tree) × (next : ℕ) × Both table words level scope first c f next

-- r is what the mode rule says of the quantifier at a level with these two
abbrev pub AsksBoth : (table words : Words) (level scope v at first : ℕ) (r : Result ℕ Refused) → Type 0
AsksBoth table words level scope v at first r =
    (c f : Tree) (next : ℕ) →
    Both table words level (scope + v) first c f next →
    r ≡ told_modes (ask_both c f table scope v at first) next

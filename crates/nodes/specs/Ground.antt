-- The code's environment that binds the outer variables alone, and what is asked and said of ground atoms and comparisons.
use Rattle.std.specs.Prelude.{ℕ, ◌≤◌, ◌≡◌, Bool, List, length, ℤ}
use Rattle.model.specs.Words.{Words, same, scope_limit}
use Rattle.model.specs.Tree.{Term, atom, compare}
use Rattle.model.specs.Level.{Role}
use Rattle.model.specs.Log.{rows}
use Rattle.model.specs.Truth.{number_of, sum_at_most}
use Rattle.model.specs.Listing.{outer}
use Rattle.model.specs.Putting.{put}
use Rattle.model.specs.Reduction.{reduce}
use Rattle.laws.specs.Reading.Nodes.{Node}
use Rattle.trees.specs.Grown.{Grown}
use Rattle.environments.specs.declared.environment.Environment.{Environment as Held}
use Rattle.environments.specs.Environment.{Holds}
use Rattle.joining.specs.declared.answer.Reduced.{Reduced}
use Rattle.joining.specs.declared.answer.Reduced.TheVariants.{Plain}
use Rattle.joining.specs.Answer.{Answers}

-- the code's environment binds exactly the outer variables, so many, to the numbers ρ
abbrev pub Outer : (held : Held) (scope : ℕ) (ρ : List ℤ) → Type 0
Outer held scope ρ = Holds held (outer ρ) × (length ρ ≡ scope)

-- an atom or its dual stands at an index in some role; its words stand there; a comparison, with sixteen variables or fewer in scope
abbrev pub HereLiteral : (table words : Words) (scope : ℕ) (b : Bool) (at : ℕ) → Type 0
HereLiteral table words scope b at =
    (role : Role) × (above : ℕ) × (p : ℕ) × (ts : List Term) × (next : ℕ) × Node table words role above scope at (atom b p ts) next

abbrev pub GrownAtom : (words : Words) (at : ℕ) → Type 0
GrownAtom words at = (b : Bool) × (p : ℕ) × (ts : List Term) × (next : ℕ) × Grown words at (atom b p ts) next

abbrev pub HereCompare : (words : Words) (b : Bool) (at : ℕ) → Type 0
HereCompare words b at =
    (table : Words) × (role : Role) × (above : ℕ) × (scope : ℕ) × (scope ≤ scope_limit)
    × (d : ℤ) × (x : Term) × (y : Term) × (next : ℕ) × Node table words role above scope at (compare b d x y) next

-- r says that the atom at an index stays
abbrev pub Stays : (words : Words) (held : Held) (scope at : ℕ) (before after : Words) (r : Reduced) → Type 0
Stays words held scope at before after r =
    (ρ : List ℤ) →
    Outer held scope ρ →
    (b : Bool) (p : ℕ) (ts : List Term) (next : ℕ) →
    Grown words at (atom b p ts) next →
    (places : ℕ) →
    Answers places 0 (put (atom b p ts) ρ) before after r

-- r is the reduction of the atom at an index
abbrev pub ReducesAtom :
    (table words log : Words) (held : Held) (scope : ℕ) (b : Bool) (at : ℕ) (before after : Words) (r : Reduced) → Type 0
ReducesAtom table words log held scope b at before after r =
    (ρ : List ℤ) →
    Outer held scope ρ →
    (role : Role) (above p : ℕ) (ts : List Term) (next : ℕ) →
    Node table words role above scope at (atom b p ts) next →
    (places : ℕ) →
    Answers places 0 (reduce table (rows log) (atom b p ts) ρ) before after r

-- r is the reduction of the comparison at an index
abbrev pub ReducesCompare : (words : Words) (held : Held) (b : Bool) (at : ℕ) (r : Reduced) → Type 0
ReducesCompare words held b at r =
    (ρ : List ℤ) (scope : ℕ) →
    Outer held scope ρ →
    (table : Words) (role : Role) (above : ℕ) (d : ℤ) (x y : Term) (next : ℕ) →
    Node table words role above scope at (compare b d x y) next →
    r ≡ Plain (same b (sum_at_most d (number_of ρ x) (number_of ρ y)))

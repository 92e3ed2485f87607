-- The value of a ground atom, its variables having the numbers of an environment.
use Rattle.std.specs.Prelude.{ℕ, ◌≡◌, Bool, List, Option}
use Rattle.model.specs.Words.{Words}
use Rattle.model.specs.Tree.{Term, atom}
use Rattle.model.specs.Level.{Role}
use Rattle.model.specs.Log.{rows, value_in}
use Rattle.model.specs.Listing.{Environment, numbers_in}
use Rattle.laws.specs.Reading.Nodes.{Node}
use Rattle.logs.specs.Value.{as_value}
use Rattle.environments.specs.declared.environment.Environment.{Environment as Held}
use Rattle.environments.specs.Environment.{Holds}

-- r is the value of the atom at an index
abbrev pub Values : (table words log : Words) (held : Held) (at : ℕ) (r : Option Bool) → Type 0
Values table words log held at r =
    (e : Environment) →
    Holds held e →
    (role : Role) (above scope : ℕ) (b : Bool) (p : ℕ) (ts : List Term) (next : ℕ) →
    Node table words role above scope at (atom b p ts) next →
    as_value r ≡ value_in table (rows log) p (numbers_in e ts)

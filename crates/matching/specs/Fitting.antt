-- What the matching of a row says.
use Rattle.std.specs.Prelude.{◌≡◌, List, [], ◌∷◌, Option, Some, None}
use Rattle.model.specs.Listing.{Environment}
use Rattle.environments.specs.declared.environment.Environment.{Environment as Held}
use Rattle.environments.specs.Environment.{Holds}

-- of the environments that a row makes, one or none: it fits if there is one, and has that one
abbrev pub Fitted : (made : List Environment) (r : Option Held) → Type 0
Fitted made (Some held) = (f : Environment) × (made ≡ f ∷ []) × Holds held f
Fitted made None = made ≡ []

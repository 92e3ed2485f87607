-- The values of atoms in the code.
use Rattle.std.specs.Prelude.{Bool, Option, Some, None}
use Rattle.model.specs.Log.{Value, known, unknown}

-- the code's values, as those of model: what the log knows of an atom, if anything
abbrev pub as_value : Option Bool → Value
as_value (Some b) = known b
as_value None = unknown

-- What is asked of the words of a restriction.
use Rattle.std.specs.Prelude.{ℕ, ◌≤◌}
use Rattle.model.specs.Words.{Words, scope_limit}
use Rattle.model.specs.Level.{restriction}
use Rattle.policies.specs.Standing.{Here}

-- a restriction stands at an index
abbrev pub HereRestriction : (table words : Words) (at : ℕ) → Type 0
HereRestriction table words at = (above : ℕ) × (scope : ℕ) × (scope ≤ scope_limit) × Here table words restriction above scope at

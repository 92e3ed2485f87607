-- The search for an atom's row.
use Rattle.std.specs.Prelude.{ℕ, cond, List, [], ◌∷◌, ℤ, Option, Some, None}
use Rattle.model.specs.Words.{Words}
use Rattle.model.specs.Log.{row_at, holds}

-- the first of the given rows that holds the atom of a predicate at numbers; none, if no row does
unfoldable pub first_row : Words → ℕ → List ℤ → List ℕ → Option ℕ
first_row log p ns [] = None
first_row log p ns (r ∷ rs) = cond (holds p ns (row_at log r)) (Some r) (first_row log p ns rs)

-- `chains::search::search` meets its contract. The outer invariant: the rows passed don't hold the atom, so the search comes to
-- that through what is left of the chain. The inner one: the row has the predicate, and holds the atom if its arguments from
-- i on are the atom's. The measure is the link, which falls along a chain.
use Prim.Native.Nat.{ℕ, ◌+◌, ◌*◌}
use mathlib.Core.Path.{◌≡◌}
use Rattle.model.specs.Log.{row_at, holds}
use Rattle.chains.proofs.Rows.{Rest}
use Rattle.chains.proofs.Searches.{Searching}
use Rattle.chains.proofs.search.search.Given as goal

abbrev pub invariant-loop-i : goal.invariant-loop-i
invariant-loop-i l = holds l.predicate l.arguments (row_at l.log l.row) ≡ Rest l.log (8 * l.row + 2) l.arguments l.i

abbrev pub invariant-rows : goal.invariant-rows
invariant-rows l = (from : ℕ) × Searching l.log l.predicate l.arguments l.start l.rows from l.link

abbrev pub decreases-rows : goal.decreases-rows
decreases-rows l = l.link

-- Chains of rows by a key: what the links of chained rows are.
use Rattle.std.specs.Prelude.{ℕ, ◌+◌, ◌-◌, ◌≤◌, ◌<◌, ◌≡◌, List, [], ◌∷◌, length, get_or, eqb}
use Rattle.model.specs.Lists.{span, keep}

-- the rows of a key from row i to the last, ascending, and no others
unfoldable pub chain : (ℕ → ℕ) → ℕ → ℕ → ℕ → List ℕ
chain key k i rows = keep (λ r. eqb (key r) k) (span i (rows - i))

-- the link to the first of some rows: how many rows there are from it to the end; 0, if there is none
unfoldable pub link : ℕ → List ℕ → ℕ
link rows [] = 0
link rows (r ∷ rs) = rows - r

-- a key links to the first of its rows, and a row to the next one of its key
pub record Chained (key : ℕ → ℕ) (keys rows : ℕ) (links : List ℕ) : Type 0 where
  pub within : keys + rows ≤ length links
  pub heads : (k : ℕ) → k < keys → get_or links k 0 ≡ link rows (chain key k 0 rows)
  pub nexts : (r : ℕ) → r < rows → get_or links (keys + r) 0 ≡ link rows (chain key (key r) (r + 1) rows)

-- links that can be filled: there is one for each key, still 0, and one for each row
pub record Empty (keys rows : ℕ) (links : List ℕ) : Type 0 where
  pub within : keys + rows ≤ length links
  pub none : (k : ℕ) → k < keys → get_or links k 0 ≡ 0

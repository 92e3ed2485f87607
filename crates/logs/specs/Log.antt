-- Parts of questions 9 and 10 at a row of a log, and what a check of a log leaves.
use Rattle.std.specs.Prelude.{ℕ, Bool, not, ◌≡◌, List, drop, pos}
use Rattle.model.specs.Words.{Words, equal}
use Rattle.model.specs.Lists.{span, all, any}
use Rattle.model.specs.Answer.{Outcome, ask, in_turn, ◌>>=◌}
use Rattle.model.specs.declared.Refusal.TheVariants.{Row, Repeat}
use Rattle.model.specs.Log.{row_count, row_at, arguments, good_row, same_atom, ask_log}
use Rattle.std.specs.Prelude.{Result, Ok}
use Rattle.model.specs.declared.Refused.{Refused}
use Rattle.tables.specs.Checked.{outcome}
use Rattle.chains.specs.Chain.{Chained}
use Rattle.chains.specs.Key.{row_key, atom_keys}

-- the arguments of a row from the n-th on are 0
unfoldable pub unused_from : Words → ℕ → Bool
unused_from row n = all (λ a. equal a (pos 0)) (drop n (arguments row))

-- an earlier row holds the atom of a row
unfoldable pub repeats_at : Words → ℕ → Bool
repeats_at log row = any (λ earlier. same_atom (row_at log row) (row_at log earlier)) (span 0 row)

-- questions 9 and 10 at each row in turn
unfoldable pub ask_rows : Words → Words → Outcome (Unit {0})
ask_rows table log =
    in_turn (λ r. ask (good_row table (row_at log r)) Row r >>= λ _. ask (not (repeats_at log r)) Repeat r) (span 0 (row_count log))

-- what a check of a log leaves: what came of questions 8, 9 and 10; and, if they passed, the rows chained by their atoms
pub record Checks (table log : Words) (links : List ℕ) (r : Result (Unit {0}) Refused) : Type 0 where
  pub asked : outcome r ≡ ask_log table log
  pub chained : r ≡ Ok tt → Chained (row_key log) atom_keys (row_count log) links

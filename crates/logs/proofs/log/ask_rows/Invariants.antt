-- `logs::log::ask_rows` meets its contract. The loop's invariant: the rows passed are good and no row repeats, so the
-- questions come to those at the rows left. The measure is their number.
use Prim.Native.Nat.{ℕ, ◌-◌, ◌≤◌}
use mathlib.Core.Path.{◌≡◌}
use mathlib.Core.Bool.{not}
use Rattle.model.specs.declared.Refusal.TheVariants.{Row, Repeat}
use Rattle.model.specs.Words.{Words}
use Rattle.model.specs.Lists.{span}
use Rattle.model.specs.Answer.{Outcome, ask, in_turn, ◌>>=◌}
use Rattle.model.specs.Log.{row_at, good_row}
use Rattle.logs.specs.Log.{ask_rows, repeats_at}
use Rattle.logs.proofs.log.ask_rows.Given as goal

-- questions 9 and 10 at a row
unfoldable pub row-questions : Words → Words → ℕ → Outcome (Unit {0})
row-questions table log r = do
  _ ← ask (good_row table (row_at log r)) Row r
  ask (not (repeats_at log r)) Repeat r

abbrev pub invariant-loop-row : goal.invariant-loop-row
invariant-loop-row l = (l.row ≤ l.n) × (ask_rows l.table l.log ≡ in_turn (row-questions l.table l.log) (span l.row (l.n - l.row)))

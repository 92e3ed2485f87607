-- `tables::table::check_table` meets its contract. The loop's invariant: the records passed are good, so question 1 comes to
-- the questions at those left. The measure is their number.
use Prim.Native.Nat.{ℕ, ◌-◌, ◌≤◌}
use mathlib.Core.Path.{◌≡◌}
use Rattle.model.specs.declared.Refusal.TheVariants.{Table}
use Rattle.model.specs.Words.{Words}
use Rattle.model.specs.Lists.{span}
use Rattle.model.specs.Answer.{Outcome, ask, in_turn}
use Rattle.model.specs.Table.{good_record, ask_table}
use Rattle.tables.proofs.table.check_table.Given as goal

-- question 1 at one record
unfoldable pub record_question : Words → ℕ → Outcome (Unit {0})
record_question table p = ask (good_record table p) Table p

abbrev pub invariant-loop-p : goal.invariant-loop-p
invariant-loop-p l = (l.n ≤ 256) × (l.p ≤ l.n) × (ask_table l.table ≡ in_turn (record_question l.table) (span l.p (l.n - l.p)))

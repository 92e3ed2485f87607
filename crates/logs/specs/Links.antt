-- All links of a log in one slice, what the check of a log leaves in it, and the part of it that chains the true rows.
use Rattle.std.specs.Prelude.{◌≡◌, List, drop, ℕ, ◌-◌}
use Rattle.model.specs.Words.{Words}
use Rattle.model.specs.Log.{row_count, ask_log}
use Rattle.std.specs.Prelude.{Result, Ok}
use Rattle.model.specs.declared.Refused.{Refused}
use Rattle.tables.specs.Checked.{outcome}
use Rattle.chains.specs.Chain.{Chained}
use Rattle.chains.specs.Key.{row_key, atom_keys, true_key, predicate_keys, first_key, first_keys}

-- where the links by predicate begin, behind those by atom; and those by first argument, behind them
abbrev pub predicate_from : ℕ
predicate_from = 20480

abbrev pub first_from : ℕ
first_from = 24833

-- the links from an index on
unfoldable pub behind : ℕ → List ℕ → List ℕ
behind n links = drop n links

-- all links of a log, one kind behind another: its rows chained by atom, and its true rows by predicate, alone and with their first
-- argument
pub record Linked (log : Words) (links : List ℕ) : Type 0 where
  pub by_atom : Chained (row_key log) atom_keys (row_count log) links
  pub by_predicate : Chained (true_key log) predicate_keys (row_count log) (behind predicate_from links)
  pub by_first : Chained (first_key log) first_keys (row_count log) (behind first_from links)

-- the true rows of a log, chained by predicate, and behind those links by predicate and first argument
pub record TrueRows (log : Words) (links : List ℕ) : Type 0 where
  pub by_predicate : Chained (true_key log) predicate_keys (row_count log) links
  pub by_first : Chained (first_key log) first_keys (row_count log) (behind (first_from - predicate_from) links)

-- what came of questions 8, 9 and 10; and, if they passed, all links of the log
pub record Links (table log : Words) (links : List ℕ) (r : Result (Unit {0}) Refused) : Type 0 where
  pub asked : outcome r ≡ ask_log table log
  pub linked : r ≡ Ok tt → Linked log links

-- `log_texts::read` meets its contract, question by question.
use mathlib.Core.Path.{◌≡◌, sym, ap, ◌∙◌, subst}
use Prim.Native.Nat.{ℕ}
use lib.ListN.{length}
use Rattle.model.specs.Answer.{passed, answer}
use Rattle.model.specs.Log.{row_count}
use Rattle.model.specs.Table.{ask_table}
use Rattle.laws.specs.Answer.{passed_on}
use Rattle.tables.specs.Checked.{outcome}
use Rattle.csv_reading.specs.Rows.{Stand, RowsRead}
use Rattle.log_texts.specs.LogText.{settled_log}
use Rattle.log_texts.proofs.LogReading.{table-refused, text-refused, rows_settled}
use Rattle.log_texts.proofs.read.Goals as goal

pub invariant_of-table : goal.invariant_of-table
invariant_of-table c = record { accepted = sym c.check_table.ensures ∙ ap outcome c.in_ok-check_table.was }

pub settle_rows-requires : goal.settle_rows-requires
settle_rows-requires c =
    let a = c.args in
    subst (RowsRead a.table.now a.text.now c.read_rows.new.rows) c.in_ok-rows.was c.read_rows.ensures

pub returns-in_err-check_table : goal.returns-in_err-check_table
returns-in_err-check_table c =
    let a = c.args in
    rw (passed_on _ c.from_residual.ensures.1)
    (table-refused a.table.now a.text.now _ _ (sym c.check_table.ensures ∙ ap outcome c.in_err-check_table.was))

pub returns-in_err-rows : goal.returns-in_err-rows
returns-in_err-rows c =
    let a = c.args in
    rw (passed_on _ c.from_residual-in_err-rows.ensures.1)
    (text-refused a.table.now a.text.now _ _ (sym c.check_table.ensures ∙ ap outcome c.in_ok-check_table.was)
    (subst (RowsRead a.table.now a.text.now c.read_rows.new.rows) c.in_err-rows.was c.read_rows.ensures))

pub returns : goal.returns
returns c =
    let a = c.args in
    let after = c.read_rows.new.rows in
    let good-table : ask_table a.table.now ≡ passed tt = sym c.check_table.ensures ∙ ap outcome c.in_ok-check_table.was in
    let s : Stand a.table.now a.text.now after c.in_ok-rows.rows =
    subst (RowsRead a.table.now a.text.now after) c.in_ok-rows.was c.read_rows.ensures in
    rows_settled a.table.now a.text.now (length a.buffer.now) after c.in_ok-rows.rows _ c.read_rows.auto.rows good-table s
    (c.settle_rows.ensures s.log s.asked ∙ ap
    (λ (room : ℕ). answer row_count (settled_log a.table.now room s.log)) c.read_rows.auto.rows)

-- `logs::log::ask_rows` meets its contract. The loop's invariant: the rows passed are good and no row repeats, so the
-- questions come to those at the rows left. The measure is their number.
use Prim.Native.Nat.{ℕ, ◌+◌, ◌*◌, ◌-◌, ◌/◌}
use native.Mathlib.Nat.{sub-zero}
use native.Mathlib.Omega.{arith}
use mathlib.Core.Path.{◌≡◌, refl, sym, ap, ◌∙◌}
use mathlib.Core.Bool.{true, false}
use lib.ListN.{length, take, drop}
use Rattle.model.specs.declared.Refusal.TheVariants.{Row, Repeat}
use Rattle.model.specs.Words.{Words}
use Rattle.model.specs.Lists.{span}
use Rattle.model.specs.Answer.{passed, refused, ask, in_turn, ◌>>=◌}
use Rattle.model.specs.Log.{row_count, row_at, good_row}
use Rattle.laws.specs.Answer.{turn_step, turn_stop, turn_end}
use Rattle.logs.specs.Log.{ask_rows, repeats_at}
use Rattle.logs.proofs.Rows.{good-number}
use Rattle.logs.proofs.log.ask_rows.Invariants.{row-questions}
use Rattle.logs.proofs.log.ask_rows.Goals as goal

module _ (table log : Words) where
  rows_start : ask_rows table log ≡ in_turn (row-questions table log) (span 0 (length log / 8))
  unfolding ask_rows row_count row-questions
  rows_start = refl

  row_bad : (r : ℕ) → good_row table (row_at log r) ≡ false → row-questions table log r ≡ refused Row r
  unfolding row-questions ask ◌>>=◌
  row_bad r e = rw e

  row-repeats : (r : ℕ) → good_row table (row_at log r) ≡ true → repeats_at log r ≡ true → row-questions table log r ≡ refused Repeat r
  unfolding row-questions ask ◌>>=◌
  row-repeats r e f = rw (e, f)

  row-passed : (r : ℕ) → good_row table (row_at log r) ≡ true → repeats_at log r ≡ false → row-questions table log r ≡ passed tt
  unfolding row-questions ask ◌>>=◌
  row-passed r e f = rw (e, f)

pub loop-row-init : goal.loop-row-init
loop-row-init c =
    let a = c.args in (
      omega arith,
      rows_start a.table.now a.log.now ∙ ap
          (λ (m : ℕ). in_turn (row-questions a.table.now a.log.now) (span 0 m)) (sym (sub-zero _)),
    )

pub returns-then-not-good_row : goal.returns-then-not-good_row
unfolding row_at
returns-then-not-good_row c =
    let asked : let a = c.args in good_row a.table.now (row_at a.log.now c.loop-row.row) ≡ c.good_row.result = let a = c.args in
    let eight : (8 * c.loop-row.row + 8) - 8 * c.loop-row.row ≡ 8 = omega arith in
    sym
    (c.good_row.ensures ∙ ap (λ (n : ℕ). good_row a.table.now (take n (drop (8 * c.loop-row.row) a.log.now))) eight) in
    let a = c.args in
    sym
    (c.loop-row.invariant.1 ∙ turn_stop (row-questions a.table.now a.log.now) c.loop-row.row (length a.log.now / 8)
    c.loop-row-test.true
    (row_bad a.table.now a.log.now c.loop-row.row (asked ∙ c.if-not-good_row.true)))

pub repeats-requires : goal.repeats-requires
unfolding row_count row_at
repeats-requires c =
    let asked : let a = c.args in good_row a.table.now (row_at a.log.now c.loop-row.row) ≡ c.good_row.result = let a = c.args in
    let eight : (8 * c.loop-row.row + 8) - 8 * c.loop-row.row ≡ 8 = omega arith in
    sym
    (c.good_row.ensures ∙ ap (λ (n : ℕ). good_row a.table.now (take n (drop (8 * c.loop-row.row) a.log.now))) eight) in
    let is-good : let a = c.args in good_row a.table.now (row_at a.log.now c.loop-row.row) ≡ true = asked ∙ c.if-not-good_row.false in
    let a = c.args in (
      c.requires.0,
      c.requires.1,
      c.loop-row-test.true,
      good-number a.table.now a.log.now
          c.loop-row.row (is-good),
    )

pub returns-then-repeats : goal.returns-then-repeats
unfolding row_at
returns-then-repeats c =
    let asked : let a = c.args in good_row a.table.now (row_at a.log.now c.loop-row.row) ≡ c.good_row.result = let a = c.args in
    let eight : (8 * c.loop-row.row + 8) - 8 * c.loop-row.row ≡ 8 = omega arith in
    sym
    (c.good_row.ensures ∙ ap (λ (n : ℕ). good_row a.table.now (take n (drop (8 * c.loop-row.row) a.log.now))) eight) in
    let is-good : let a = c.args in good_row a.table.now (row_at a.log.now c.loop-row.row) ≡ true = asked ∙ c.if-not-good_row.false in
    let a = c.args in
    sym
    (c.loop-row.invariant.1 ∙ turn_stop (row-questions a.table.now a.log.now) c.loop-row.row (length a.log.now / 8)
    c.loop-row-test.true
    (row-repeats a.table.now a.log.now c.loop-row.row (is-good)
    (sym c.repeats.ensures ∙ c.if-repeats.true)))

pub loop-row-preserved : goal.loop-row-preserved
unfolding row_at
loop-row-preserved c =
    let asked : let a = c.args in good_row a.table.now (row_at a.log.now c.loop-row.row) ≡ c.good_row.result = let a = c.args in
    let eight : (8 * c.loop-row.row + 8) - 8 * c.loop-row.row ≡ 8 = omega arith in
    sym
    (c.good_row.ensures ∙ ap (λ (n : ℕ). good_row a.table.now (take n (drop (8 * c.loop-row.row) a.log.now))) eight) in
    let is-good : let a = c.args in good_row a.table.now (row_at a.log.now c.loop-row.row) ≡ true = asked ∙ c.if-not-good_row.false in
    let a = c.args in (
      omega arith,
      c.loop-row.invariant.1 ∙ turn_step (row-questions a.table.now a.log.now) c.loop-row.row
          (length a.log.now / 8) c.loop-row-test.true
          (row-passed a.table.now a.log.now c.loop-row.row (is-good)
          (sym c.repeats.ensures ∙ c.if-repeats.false)),
    )

pub returns : goal.returns
returns c =
    let a = c.args in
    sym
    (c.loop-row.invariant.1 ∙ turn_end (row-questions a.table.now a.log.now) c.loop-row.row (length a.log.now / 8)
    c.loop-row-test.false)

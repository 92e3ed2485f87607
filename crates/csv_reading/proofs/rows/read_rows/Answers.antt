-- `csv_reading::rows::read_rows` meets its contract. The loop's invariant: the records before this place are read, and their rows stand at
-- the front if they fit.
use native.Mathlib.Omega.{arith}
use mathlib.Core.Path.{◌≡◌, refl, ◌∙◌, subst}
use lib.ListN.{length}
use borrow.Author.Rules.{rules}
use Rattle.std.proofs.lemmas.Result.{err_from_is_err_and}
use Rattle.std.specs.Prelude.{Option}
use Rattle.model.specs.Words.{Words}
use Rattle.csv_reading.specs.Record.{Reads}
use Rattle.csv_reading.proofs.RowsLaws.{Gone, gone_none, gone_bad, gone_row, gone_none_more, read_bad, read-good}
use Rattle.csv_reading.proofs.rows.read_rows.Goals as goal
use Rattle.csv_reading.proofs.rows.read_rows.Goals.{in-Some, in-None}

pub loop-here-init : goal.loop-here-init
loop-here-init c = (gone_none c.args.table.words.now c.args.text.now c.args.rows.now c.new-here.result c.new-here.ensures.rest c.new-here.ensures.at, refl)

pub returns-in_err-row : goal.returns-in_err-row
returns-in_err-row c =
    let l = c.loop-here in
    let p = err_from_is_err_and c.from_residual.result c.from_residual.ensures.1 in
    rw (p.1, p.2) (gone_bad c.args.table.words.now c.args.text.now l.here l.count l.bad l.rows l.invariant.0 _ c.in_err-row.ensures)

pub loop-here-preserved : goal.loop-here-preserved
loop-here-preserved c =
    let l = c.loop-here in
    let t = c.args.table.words.now in
    let text = c.args.text.now in
    let m = c.match-branch-2 in
    let read = c.in_ok-row.ensures in (
      elim m.branch [
        | in-Some w ↦
            let long : length w.in-Some.row ≡ 8 = search rules in
            rw (w.rows-is, w.bad-is)
            (gone_row t text l.here l.count l.bad l.rows c.record.new.here w.in-Some.row w.place.new.rows l.invariant.0
            (subst (λ (r : Option Words). Reads t l.here r c.record.new.here) w.in-Some.is read) long w.place.auto.rows w.place.ensures)
        | in-None w ↦
            rw (w.rows-is, w.bad-is, w.or-bad.ensures)
            (gone_none_more t text l.here l.count l.bad l.rows c.record.new.here l.invariant.0
            (subst (λ (r : Option Words). Reads t l.here r c.record.new.here) w.in-None.is read))
      ],
      m.auto.rows ∙ l.invariant.1,
    )

pub returns-in-Some-bad : goal.returns-in-Some-bad
returns-in-Some-bad c =
    let l = c.loop-here in
    let none : length l.here.rest.now ≡ 0 = search rules in
    read_bad c.args.table.words.now c.args.text.now l.here l.count l.rows none _ _
    (subst (λ (b : Option _). Gone c.args.table.words.now c.args.text.now l.here l.count b l.rows) c.in-Some-bad.is l.invariant.0) (omega arith)

pub returns-in-None-bad : goal.returns-in-None-bad
returns-in-None-bad c =
    let l = c.loop-here in
    let none : length l.here.rest.now ≡ 0 = search rules in
    read-good c.args.table.words.now c.args.text.now l.here l.count l.rows none
    (subst (λ (b : Option _). Gone c.args.table.words.now c.args.text.now l.here l.count b l.rows) c.in-None-bad.is l.invariant.0)

-- `csv_reading::record::record` meets its contract. The loop's invariant: the fields read so far belong to the record, and their numbers
-- make the row.
use Rattle.std.proofs.lemmas.Result.{err_from_is_err_and}
use Rattle.csv_reading.proofs.RecordLaws.{held_none, held_more, held_bad, ended-comma, line_bad, line_none, line-some}
use Rattle.csv_reading.proofs.record.record.Goals as goal

pub loop-value-init : goal.loop-value-init
loop-value-init c = held_none c.args.here.now c.requires

pub returns-in_err-value : goal.returns-in_err-value
returns-in_err-value c =
    let l = c.loop-value in
    let p = err_from_is_err_and c.from_residual.result c.from_residual.ensures.1 in
    rw (p.1, p.2) (held_bad c.args.here.now l.here l.fields l.good l.row _ l.invariant c.in_err-value.ensures)

pub loop-value-preserved : goal.loop-value-preserved
loop-value-preserved c =
    let l = c.loop-value in
    let f = c.in_ok-value.field-0 in
    let put = c.put_field-good in
    let ended = held_more c.args.here.now l.here c.field_at.new.here l.fields l.good l.row f.value f.end put.new.row put.result l.invariant
    c.in_ok-value.ensures put.ensures put.auto.row c.in-Comma.is in
    ended-comma c.args.here.now l.here c.field_at.new.here _ _ _ ended

pub returns-then-not-good : goal.returns-then-not-good
returns-then-not-good c =
    let l = c.loop-value in
    let f = c.in_ok-value.field-0 in
    let put = c.put_field-good in
    let ended = held_more c.args.here.now l.here c.field_at.new.here l.fields l.good l.row f.value f.end put.new.row put.result l.invariant
    c.in_ok-value.ensures put.ensures put.auto.row c.in-Line.is in
    line_bad c.args.table.words.now c.args.here.now l.here c.field_at.new.here _ _ _ ended c.requires c.args.table.accepted c.if-not-good.true

pub returns-then-not-spells : goal.returns-then-not-spells
returns-then-not-spells c =
    let l = c.loop-value in
    let f = c.in_ok-value.field-0 in
    let put = c.put_field-good in
    let ended = held_more c.args.here.now l.here c.field_at.new.here l.fields l.good l.row f.value f.end put.new.row put.result l.invariant
    c.in_ok-value.ensures put.ensures put.auto.row c.in-Line.is in
    line_none c.args.table.words.now c.args.here.now l.here c.field_at.new.here _ _ _ ended c.requires c.if-not-good.false _ c.spells.ensures
    c.if-not-spells.true

pub returns-in-Line : goal.returns-in-Line
returns-in-Line c =
    let l = c.loop-value in
    let f = c.in_ok-value.field-0 in
    let put = c.put_field-good in
    let ended = held_more c.args.here.now l.here c.field_at.new.here l.fields l.good l.row f.value f.end put.new.row put.result l.invariant
    c.in_ok-value.ensures put.ensures put.auto.row c.in-Line.is in
    line-some c.args.table.words.now c.args.here.now l.here c.field_at.new.here _ _ _ ended c.requires c.if-not-good.false _ c.spells.ensures
    c.if-not-spells.false

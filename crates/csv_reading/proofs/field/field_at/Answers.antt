-- `csv_reading::field::field_at` meets its contract, from the number, the rest of the field and what stands behind it.
use mathlib.Core.Path.{◌≡◌, refl}
use mathlib.Core.Bool.{cond}
use lib.Dec.{eqb}
use borrow.Author.Tests.{eq-eqb, ne_eqb}
use Rattle.std.specs.Prelude.{None}
use Rattle.std.proofs.lemmas.Result.{err_from_is_err_and}
use Rattle.csv_reading.proofs.WholeFields.{contents, content_bad, whole, ending_bad}
use Rattle.csv_reading.proofs.field.field_at.Goals as goal
use Rattle.csv_reading.proofs.field.field_at.Goals.{then-more-eq0, else-more-eq0}

pub returns-in_err-more : goal.returns-in_err-more
returns-in_err-more c =
    let q = c.passes-quotes in
    let n = c.number_at-number in
    let p = err_from_is_err_and c.from_residual.result c.from_residual.ensures.1 in
    rw (p.1, p.2)
    (content_bad c.args.here.now q.new.here n.new.here c.content.new.here n.result 0 n.ensures q.result _ q.ensures c.in_err-more.ensures)

pub returns-in_err-end : goal.returns-in_err-end
returns-in_err-end c =
    let q = c.passes-quotes in
    let n = c.number_at-number in
    let m = c.content.new.here in
    let r = c.from_residual-in_err-end in
    let p = err_from_is_err_and r.result r.ensures.1 in
    rw (p.1, p.2)
    (ending_bad c.args.here.now m c.ending.new.here n.result c.in_ok-more.more
    (contents c.args.here.now q.new.here n.new.here m n.result _ n.ensures q.result q.ensures c.in_ok-more.ensures) _ c.in_err-end.ensures)

pub returns : goal.returns
returns c =
    let q = c.passes-quotes in
    let n = c.number_at-number in
    let m = c.content.new.here in
    let more = c.in_ok-more.more in
    let value : c.if-more-eq0.value ≡ cond (eqb more 0) n.result None =
    elim c.if-more-eq0.branch [
      | then-more-eq0 w ↦ rw (w.value-is, eq-eqb more 0 w.if-more-eq0.true) refl
      | else-more-eq0 w ↦ rw (w.value-is, ne_eqb more 0 w.if-more-eq0.false) refl
    ] in
    whole c.args.here.now m c.ending.new.here n.result more
    (contents c.args.here.now q.new.here n.new.here m n.result _ n.ensures q.result q.ensures c.in_ok-more.ensures) _ _ c.in_ok-end.ensures value

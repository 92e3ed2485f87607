-- `csv_reading::field::quoted` meets its contract. The loop's invariant: the bytes so far stand in quotes, so that the reading goes on there.
use Prim.Native.Nat.{◌+◌, ◌<◌}
use mathlib.Core.Path.{◌≡◌, refl, sym, ◌∙◌, subst}
use lib.ListN.{length, get_or}
use lib.Dec.{eqb}
use borrow.Author.Rules.{rules}
use borrow.Author.Tests.{eq-eqb, ne_eqb}
use Rattle.model.specs.declared.Refusal.TheVariants.{Csv}
use Rattle.model.specs.Answer.{refused}
use Rattle.model.specs.Bytes.{quote}
use Rattle.model.specs.CsvReading.{quoting}
use Rattle.text.specs.declared.cursor.Cursor.{Cursor}
use Rattle.csv_reading.specs.Field.{reading, Quoted}
use Rattle.text.proofs.PassingLaws.{stops-at}
use Rattle.csv_reading.proofs.FieldLaws.{quotes_none, quotes_more, quotes_double, quotes_close, quotes_bad, quotes_open}
use Rattle.csv_reading.proofs.field.quoted.Goals as goal

pub loop-i-init : goal.loop-i-init
loop-i-init c = (quotes_none c.args.here.now, refl)

pub returns-then-ne : goal.returns-then-ne
returns-then-ne c =
    let l = c.loop-i in
    let rest = l.here.rest.now in
    let other : l.i + 1 < length rest → get_or rest (l.i + 1) 0 ≡ 34 → ⊥ = search rules in
    subst (λ (h : Cursor). Quoted h c.pass.new.self l.i) l.invariant.1
    (quotes_close l.here l.i l.invariant.0 c.loop-i-test.true c.pass.new.self c.pass.ensures.rest c.pass.ensures.at (eq-eqb _ _ c.if-b-eq-QUOTE.true)
    (stops-at (λ b. eqb b quote) rest (l.i + 1) (λ h. ne_eqb _ quote (other h))))

pub loop-i-preserved-then-b-eq-QUOTE : goal.loop-i-preserved-then-b-eq-QUOTE
loop-i-preserved-then-b-eq-QUOTE c =
    let l = c.loop-i in
    let rest = l.here.rest.now in
    let there : l.i + 1 < length rest = search rules in
    let again : get_or rest (l.i + 1) 0 ≡ 34 = search rules in
    (quotes_double l.here l.i l.invariant.0 c.loop-i-test.true (eq-eqb _ _ c.if-b-eq-QUOTE.true) (eq-eqb _ _ again) there, l.invariant.1)

pub returns-then-not-quotable : goal.returns-then-not-quotable
returns-then-not-quotable c =
    let l = c.loop-i in
    subst (λ (h : Cursor). reading quoting h ≡ refused Csv (l.here.at + l.i)) l.invariant.1
    (quotes_bad l.here l.i l.invariant.0 c.loop-i-test.true (ne_eqb _ _ c.if-b-eq-QUOTE.false) (sym c.quotable.ensures ∙ c.if-not-quotable.true))

pub loop-i-preserved : goal.loop-i-preserved
loop-i-preserved c =
    let l = c.loop-i in
    (quotes_more l.here l.i l.invariant.0 c.loop-i-test.true (ne_eqb _ _ c.if-b-eq-QUOTE.false) (sym c.quotable.ensures ∙ c.if-not-quotable.false), l.invariant.1)

pub returns : goal.returns
returns c =
    let l = c.loop-i in
    subst (λ (h : Cursor). reading quoting h ≡ refused Csv (l.here.at + l.i)) l.invariant.1
    (quotes_open l.here l.i l.invariant.0 c.loop-i-test.false)

-- `text::reading::negative` meets its contract, from the digits passed.
use native.Mathlib.Omega.{arith}
use mathlib.Core.Path.{◌≡◌, sym, ap, ◌∙◌}
use mir.Syntax.{w32}
use mir.Val.{to_z, of_z}
use borrow.Author.Rules.{rules}
use Rattle.std.specs.Prelude.{Some}
use Rattle.text.proofs.ReadingLaws.{negative-none, negative-zero, negative-wide, negative-spelt, negative-at}
use Rattle.text.proofs.reading.negative.Goals as goal

pub returns-in_err-magnitude : goal.returns-in_err-magnitude
returns-in_err-magnitude c =
    let k = c.in_err-magnitude.ensures in
    negative-at c.args.here.now c.natural.new.here _ k _ (c.from_residual.ensures ∙ sym (negative-none k.bytes k.means))

pub returns-then-magnitude-lt1 : goal.returns-then-magnitude-lt1
returns-then-magnitude-lt1 c =
    let k = c.in_ok-magnitude.ensures in
    negative-at c.args.here.now c.natural.new.here _ k _ (sym (negative-zero k.bytes _ k.means.1 (omega (arith, c.if-magnitude-lt1.true))))

pub returns-then-magnitude-gt-GREATEST_BELOW : goal.returns-then-magnitude-gt-GREATEST_BELOW
returns-then-magnitude-gt-GREATEST_BELOW c =
    let k = c.in_ok-magnitude.ensures in
    negative-at c.args.here.now c.natural.new.here _ k _
    (sym (negative-wide k.bytes _ k.means.1 (omega (arith, c.if-magnitude-gt-GREATEST_BELOW.true))))

pub returns : goal.returns
returns c =
    let k = c.in_ok-magnitude.ensures in
    let back : to_z w32 (of_z w32 c.signed.result) ≡ c.signed.result = search rules in
    negative-at c.args.here.now c.natural.new.here _ k _
    (ap Some (back ∙ c.signed.ensures)
    ∙ negative-spelt k.bytes _ k.means.1 k.means.0 (omega (arith, c.if-magnitude-lt1.false)) (omega (arith, c.if-magnitude-gt-GREATEST_BELOW.false)))

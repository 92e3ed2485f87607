-- `text::reading::positive` meets its contract, from the digits passed.
use native.Mathlib.Omega.{arith}
use mathlib.Core.Path.{◌≡◌, sym, ap, ◌∙◌}
use mir.Syntax.{w32}
use mir.Val.{to_z, of_z}
use borrow.Author.Rules.{rules}
use Rattle.std.specs.Prelude.{Some}
use Rattle.text.proofs.ReadingLaws.{positive-none, positive-wide, positive-spelt, positive-at}
use Rattle.text.proofs.reading.positive.Goals as goal

pub returns-in_err-magnitude : goal.returns-in_err-magnitude
returns-in_err-magnitude c =
    let k = c.in_err-magnitude.ensures in
    positive-at c.args.here.now c.natural.new.here _ k _ c.requires (c.from_residual.ensures ∙ sym (positive-none k.bytes k.digits k.means))

pub returns-then-magnitude-gt-GREATEST : goal.returns-then-magnitude-gt-GREATEST
returns-then-magnitude-gt-GREATEST c =
    let k = c.in_ok-magnitude.ensures in
    positive-at c.args.here.now c.natural.new.here _ k _ c.requires
    (sym (positive-wide k.bytes k.digits _ k.means.1 (omega (arith, c.if-magnitude-gt-GREATEST.true))))

pub returns : goal.returns
returns c =
    let k = c.in_ok-magnitude.ensures in
    let back : to_z w32 (of_z w32 c.signed.result) ≡ c.signed.result = search rules in
    positive-at c.args.here.now c.natural.new.here _ k _ c.requires
    (ap Some (back ∙ c.signed.ensures) ∙ positive-spelt k.bytes k.digits _ k.means.1 k.means.0 (omega (arith, c.if-magnitude-gt-GREATEST.false)))

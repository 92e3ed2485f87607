-- `tptp_tokens::numbers::integer` meets its contract.
use mathlib.Core.Path.{◌≡◌, ◌∙◌}
use borrow.Author.Rules.{rules}
use Rattle.std.proofs.Common.{to_z, of_z, w32}
use Rattle.laws.specs.Answer.{passed_on}
use Rattle.tptp_tokens.proofs.NumberLaws.{integer-below, integer_bad, integer-above, integer-other}
use Rattle.tptp_tokens.proofs.numbers.integer.Goals as goal

pub returns-in_err-magnitude : goal.returns-in_err-magnitude
returns-in_err-magnitude c =
    let bad =
    integer_bad c.args.here.now c.skip.new.here c.skip.ensures (search rules) c.pass.new.self c.pass.ensures.rest c.pass.ensures.at _ _
    c.in_err-magnitude.ensures in
    rw (passed_on _ c.from_residual.ensures.1) bad

pub returns-then-eq : goal.returns-then-eq
returns-then-eq c =
    let back : to_z w32 (of_z w32 c.signed.result) ≡ c.signed.result = search rules in
    rw (back ∙ c.signed.ensures)
    (integer-below c.args.here.now c.skip.new.here c.skip.ensures (search rules) c.pass.new.self c.pass.ensures.rest c.pass.ensures.at
    c.magnitude.new.here c.in_ok-magnitude.field-0 c.in_ok-magnitude.ensures.0)

pub returns-in_err-natural : goal.returns-in_err-natural
returns-in_err-natural c =
    let bad = integer-other c.args.here.now c.skip.new.here c.skip.ensures (search rules) _ _ c.in_err-natural.ensures in
    rw (passed_on _ c.from_residual-in_err-natural.ensures.1) bad

pub returns : goal.returns
returns c =
    let back : to_z w32 (of_z w32 c.signed-2.result) ≡ c.signed-2.result = search rules in
    rw (back ∙ c.signed-2.ensures)
    (integer-above c.args.here.now c.skip.new.here c.skip.ensures (search rules) c.natural.new.here c.in_ok-natural.field-0
    c.in_ok-natural.ensures.0 c.in_ok-natural.ensures.1)

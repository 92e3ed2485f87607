-- `cases::given::announced` meets its contract.
use Rattle.std.proofs.Common.{◌∙◌, arith, rules}
use Rattle.cases.proofs.Lengths.{no_text, no_mark, some_length, great_length, no_length}
use Rattle.cases.proofs.given.announced.Goals as goal

pub returns-in_err-first-clause-length : goal.returns-in_err-first-clause-length
returns-in_err-first-clause-length c = c.from_residual.ensures ∙ no_text _ _ c.in_err-first.ensures.cases

pub returns-then-first-ne-MARK-clause-length : goal.returns-then-first-ne-MARK-clause-length
returns-then-first-ne-MARK-clause-length c = no_mark _ _ _ _ c.in_ok-first.ensures.cases.0 (search rules)

pub returns-in_default-clause-length : goal.returns-in_default-clause-length
returns-in_default-clause-length c =
    no_length _ _ _ _ c.in_ok-first.ensures.cases.0 c.if-first-ne-MARK.false _ _ c.new-here.ensures.rest c.new-here.ensures.at _ _ c.in_default.ensures

pub returns-then-room-n-clause-length : goal.returns-then-room-n-clause-length
returns-then-room-n-clause-length c =
    great_length _ _ _ _ c.in_ok-first.ensures.cases.0 c.if-first-ne-MARK.false _ _ c.new-here.ensures.rest c.new-here.ensures.at _ c.in-Ok.ensures.0.reads (omega (arith, c.if-room-n.true))

pub returns-clause-length : goal.returns-clause-length
returns-clause-length c =
    some_length _ _ _ _ c.in_ok-first.ensures.cases.0 c.if-first-ne-MARK.false _ _ c.new-here.ensures.rest c.new-here.ensures.at _ c.in-Ok.ensures.0.reads (omega (arith, c.if-room-n.false))

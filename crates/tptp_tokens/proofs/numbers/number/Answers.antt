-- `tptp_tokens::numbers::number` meets its contract.
use native.Mathlib.Omega.{arith}
use borrow.Author.Rules.{rules}
use Rattle.tptp_tokens.proofs.NumberLaws.{number-over, number-other, number-first}
use Rattle.tptp_tokens.proofs.numbers.number.Goals as goal

pub returns-in-Some : goal.returns-in-Some
returns-in-Some c =
    let a = c.args in
    number-first a.here.now a.least a.most c.in-Some.field-0.now (search rules) c.pass.new.self c.pass.ensures.rest c.pass.ensures.at
    c.if-least-b.true c.more_digits.new.here c.more_digits.result (omega arith) c.more_digits.ensures

pub returns-in_default : goal.returns-in_default
returns-in_default c =
    let a = c.args in number-other a.here.now a.least a.most c.in-Some.field-0.now (search rules) c.if-least-b.false

pub returns-in_default-2 : goal.returns-in_default-2
returns-in_default-2 c = number-over c.args.here.now c.args.least c.args.most (search rules)

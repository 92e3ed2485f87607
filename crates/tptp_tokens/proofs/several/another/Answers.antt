-- `tptp_tokens::several::another` meets its contract.
use native.Mathlib.Omega.{arith}
use borrow.Author.Rules.{rules}
use Rattle.tptp_tokens.proofs.UpTo.{another-over, another-here, another-other}
use Rattle.tptp_tokens.proofs.several.another.Goals as goal

pub returns-in-None : goal.returns-in-None
returns-in-None c = another-over c.args.c c.args.here.now c.skip.new.here c.skip.ensures (search rules)

pub returns-in-Some : goal.returns-in-Some
returns-in-Some c =
    let (r, l) =
    another-here c.args.c c.args.here.now c.skip.new.here c.skip.ensures c.in-Some.field-0.now (search rules) c.if-b-c.true
    c.pass.new.self _ (omega arith) c.pass.ensures.rest c.pass.ensures.at in
    (r, λ _. l)

pub returns-in-Some-2 : goal.returns-in-Some-2
returns-in-Some-2 c = (
  another-other c.args.c c.args.here.now c.skip.new.here c.skip.ensures c.in-Some.field-0.now (search rules) c.if-b-c.false,
  λ (e : _). cc,
)

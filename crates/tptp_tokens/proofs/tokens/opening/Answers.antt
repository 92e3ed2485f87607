-- `tptp_tokens::tokens::opening` meets its contract.
use borrow.Author.Rules.{rules}
use Rattle.tptp_tokens.proofs.TokenLaws.{opening-here, opening-level, opening-other}
use Rattle.tptp_tokens.proofs.tokens.opening.Goals as goal

pub returns-then-ne : goal.returns-then-ne
returns-then-ne c = opening-other c.args.here.now c.skip.new.here c.skip.ensures c.args.room (search rules)

pub returns-then-room-eq0 : goal.returns-then-room-eq0
returns-then-room-eq0 c =
    opening-level c.args.here.now c.skip.new.here c.skip.ensures c.args.room (search rules) c.if-room-eq0.true

pub returns : goal.returns
returns c =
    opening-here c.args.here.now c.skip.new.here c.skip.ensures c.pass.new.self c.pass.ensures.rest c.pass.ensures.at c.args.room
    (search rules) c.if-room-eq0.false

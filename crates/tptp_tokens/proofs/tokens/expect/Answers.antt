-- `tptp_tokens::tokens::expect` meets its contract.
use borrow.Author.Rules.{rules}
use Rattle.tptp_tokens.proofs.TokenLaws.{token-here, token-other}
use Rattle.tptp_tokens.proofs.tokens.expect.Goals as goal

pub returns-then-ne : goal.returns-then-ne
returns-then-ne c = token-other c.args.here.now c.skip.new.here c.skip.ensures c.args.c (search rules)

pub returns : goal.returns
returns c =
    token-here c.args.here.now c.skip.new.here c.skip.ensures c.pass.new.self c.pass.ensures.rest c.pass.ensures.at c.args.c
    (search rules)

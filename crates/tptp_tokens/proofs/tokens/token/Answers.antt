-- `tptp_tokens::tokens::token` meets its contract.
use Rattle.tptp_tokens.proofs.TokenLaws.{token_steps}
use Rattle.tptp_tokens.proofs.tokens.token.Goals as goal

pub returns : goal.returns
returns c =
    token_steps c.args.here.now c.skip.new.here c.skip.ensures c.args.word.now c.literal.new.here c.literal.result c.literal.ensures

-- `tptp_tokens::name::name` meets its contract.
use borrow.Author.Rules.{rules}
use Rattle.model.specs.Bytes.{small}
use Rattle.tptp_tokens.proofs.NameLaws.{name-other, name-here}
use Rattle.tptp_tokens.proofs.name.name.Goals as goal

pub returns-then-not-is_some_and : goal.returns-then-not-is_some_and
unfolding small
returns-then-not-is_some_and c = name-other c.args.here.now c.skip.new.here c.skip.ensures (λ b h. search rules)

pub returns : goal.returns
unfolding small
returns c =
    name-here c.args.here.now c.skip.new.here c.skip.ensures c.word_bytes.new.here (search rules) (search rules) c.word_bytes.ensures

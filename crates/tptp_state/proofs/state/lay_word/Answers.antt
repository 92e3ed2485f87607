-- `tptp_state::state::lay_word` meets its contract: past the end nothing is laid.
use Rattle.model.specs.Words.{word}
use borrow.Author.Rules.{rules}
use Rattle.tptp_state.proofs.state.lay_word.Goals as goal

pub returns-then-w-out : goal.returns-then-w-out
unfolding word
returns-then-w-out c = search rules

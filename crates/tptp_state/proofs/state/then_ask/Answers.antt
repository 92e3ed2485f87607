-- `tptp_state::state::then_ask` meets its contract.
use Rattle.model.specs.Answer.{ask, ◌>>=◌}
use Rattle.laws.specs.Answer.{passed_on}
use Rattle.tptp_state.proofs.state.then_ask.Goals as goal

pub returns-in_err-before : goal.returns-in_err-before
unfolding ◌>>=◌
returns-in_err-before c = rw (passed_on _ c.from_residual.ensures.1, c.in_err-before.was)

pub returns-then-passes : goal.returns-then-passes
unfolding ask ◌>>=◌
returns-then-passes c = rw (c.in_ok-before.was, c.if-passes.true)

pub returns : goal.returns
unfolding ask ◌>>=◌
returns c = rw (c.in_ok-before.was, c.if-passes.false)

-- `tptp_binders::binder::declared` meets its contract.
use Rattle.model.specs.Bytes.{bytes}
use Rattle.model.specs.TptpReading.{declaration, token, onwards, ◌>>=◌}
use Rattle.laws.specs.Answer.{passed_on}
use Rattle.tptp_tokens.proofs.MovedLaws.{further}
use Rattle.tptp_tokens.proofs.BehindLaws.{steps_from}
use Rattle.tptp_binders.proofs.binder.declared.Goals as goal

pub returns-in_err-variable : goal.returns-in_err-variable
unfolding declaration ◌>>=◌ onwards
returns-in_err-variable c = rw (passed_on _ c.from_residual.ensures.1) (rw c.in_err-variable.ensures)

pub returns-in_err-expect : goal.returns-in_err-expect
unfolding declaration bytes ◌>>=◌ onwards
returns-in_err-expect c =
    rw (passed_on _ c.from_residual-in_err-expect.ensures.1) (rw (c.in_ok-variable.ensures.reads, c.in_err-expect.ensures))

pub returns : goal.returns
unfolding declaration bytes ◌>>=◌ onwards
returns c =
    let name = c.in_ok-variable.ensures in
    let colon = c.in_ok-expect.ensures in
    steps_from c.args.here.now c.expect.new.here c.token.new.here (further _ _ _ name.moved colon.moved) (declaration c.args.x)
    (token (bytes "$int")) (rw (name.reads, colon.reads)) c.token.result c.token.ensures

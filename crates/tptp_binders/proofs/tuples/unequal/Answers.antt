-- `tptp_binders::tuples::unequal` meets its contract.
use Rattle.model.specs.Bytes.{bytes}
use Rattle.model.specs.TptpReading.{unequal, integer, onwards, ◌>>=◌}
use Rattle.laws.specs.Answer.{passed_on}
use Rattle.tptp_tokens.specs.Laying.{Stored}
use Rattle.tptp_tokens.proofs.MovedLaws.{further}
use Rattle.tptp_tokens.proofs.BehindLaws.{valued_from}
use Rattle.tptp_binders.proofs.tuples.unequal.Goals as goal

pub returns-in_err-variable : goal.returns-in_err-variable
unfolding unequal ◌>>=◌ onwards
returns-in_err-variable c = rw (passed_on _ c.from_residual.ensures.1) (rw c.in_err-variable.ensures)

pub returns-in_err-token : goal.returns-in_err-token
unfolding unequal bytes ◌>>=◌ onwards
returns-in_err-token c =
    rw (passed_on _ c.from_residual-in_err-token.ensures.1) (rw (c.in_ok-variable.ensures.reads, c.in_err-token.ensures))

pub returns : goal.returns
unfolding unequal bytes ◌>>=◌ onwards
returns c =
    let a = c.args in
    let name = c.in_ok-variable.ensures in
    let sign = c.in_ok-token.ensures in
    valued_from a.here.now c.token.new.here c.lay_integer.new.here (further _ _ _ name.moved sign.moved) (unequal a.x) integer
    (Stored a.w a.out.now c.lay_integer.new.out) (rw (name.reads, sign.reads)) c.lay_integer.result c.lay_integer.ensures

-- `tptp_binders::tuples::tuple` meets its contract.
use mathlib.Core.Path.{◌∙◌}
use Rattle.model.specs.TptpReading.{read_tuple, onwards, ◌>>=◌}
use Rattle.laws.specs.Answer.{passed_on}
use Rattle.tptp_tokens.proofs.MovedLaws.{further}
use Rattle.tptp_tokens.proofs.BehindLaws.{closed_from}
use Rattle.tptp_binders.specs.Tuples.{StoredAll, tuple_closing}
use Rattle.tptp_binders.proofs.TupleLaws.{tuple_parts, tuple-as}
use Rattle.tptp_binders.proofs.tuples.tuple.Goals as goal

pub returns-in_err-opened : goal.returns-in_err-opened
unfolding tuple_parts ◌>>=◌ onwards
returns-in_err-opened c =
    let a = c.args in
    rw (passed_on _ c.from_residual.ensures.1) (tuple-as a.room a.v a.x a.here.now.rest.now a.here.now.at ∙ rw c.in_err-opened.ensures)

pub returns-in_err-unequals : goal.returns-in_err-unequals
unfolding tuple_parts ◌>>=◌ onwards
returns-in_err-unequals c =
    let a = c.args in
    rw (passed_on _ c.from_residual-in_err-unequals.ensures.1)
    (tuple-as a.room a.v a.x a.here.now.rest.now a.here.now.at ∙ rw (c.in_ok-opened.ensures.reads, c.in_err-unequals.ensures))

pub returns : goal.returns
unfolding tuple_parts ◌>>=◌ onwards
returns c =
    let a = c.args in
    let open_one = c.in_ok-opened.ensures in
    let ks = c.in_ok-unequals.ensures in
    closed_from a.here.now c.unequals.new.here c.closed.new.here (further _ _ _ open_one.moved ks.reads.moved) (read_tuple a.room a.v a.x)
    (tuple_closing a.v) ks.what (StoredAll a.v a.w a.out.now c.unequals.new.out)
    (tuple-as a.room a.v a.x a.here.now.rest.now a.here.now.at ∙ rw (open_one.reads, ks.reads.reads)) ks.holds c.closed.result
    c.closed.ensures

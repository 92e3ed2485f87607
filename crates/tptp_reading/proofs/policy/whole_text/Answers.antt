-- `tptp_reading::policy::whole_text` meets its contract.
use mathlib.Core.Path.{refl}
use Rattle.model.specs.Bytes.{bytes}
use Rattle.model.specs.Reading.{is_formula}
use Rattle.model.specs.TptpReading.{read_whole, onwards, ◌>>=◌}
use Rattle.laws.specs.Answer.{passed_on}
use Rattle.tptp_reading.proofs.PolicyLaws.{policy-refused, policy_undotted, policy_unended, policy-read, started}
use Rattle.tptp_reading.proofs.policy.whole_text.Goals as goal

pub returns-in_err-token : goal.returns-in_err-token
unfolding read_whole bytes ◌>>=◌ onwards
returns-in_err-token c = rw (passed_on _ c.from_residual.ensures.1) (rw c.in_err-token.ensures)

pub returns-in_err-expect : goal.returns-in_err-expect
unfolding read_whole bytes ◌>>=◌ onwards
returns-in_err-expect c = rw (passed_on _ c.from_residual-in_err-expect.ensures.1) (rw (c.in_ok-token.ensures.reads, c.in_err-expect.ensures))

pub returns-in_err-name : goal.returns-in_err-name
unfolding read_whole bytes ◌>>=◌ onwards
returns-in_err-name c = rw (passed_on _ c.from_residual-in_err-name.ensures.1) (rw (c.in_ok-token.ensures.reads, c.in_ok-expect.ensures.reads, c.in_err-name.ensures))

pub returns-in_err-expect-2 : goal.returns-in_err-expect-2
unfolding read_whole bytes ◌>>=◌ onwards
returns-in_err-expect-2 c = rw (passed_on _ c.from_residual-in_err-expect-2.ensures.1) (rw (c.in_ok-token.ensures.reads, c.in_ok-expect.ensures.reads, c.in_ok-name.ensures.reads, c.in_err-expect-2.ensures))

pub returns-in_err-token-2 : goal.returns-in_err-token-2
unfolding read_whole bytes ◌>>=◌ onwards
returns-in_err-token-2 c = rw (passed_on _ c.from_residual-in_err-token-2.ensures.1) (rw (c.in_ok-token.ensures.reads, c.in_ok-expect.ensures.reads, c.in_ok-name.ensures.reads, c.in_ok-expect-2.ensures.reads, c.in_err-token-2.ensures))

pub returns-in_err-expect-3 : goal.returns-in_err-expect-3
unfolding read_whole bytes ◌>>=◌ onwards
returns-in_err-expect-3 c = rw (passed_on _ c.from_residual-in_err-expect-3.ensures.1) (rw (c.in_ok-token.ensures.reads, c.in_ok-expect.ensures.reads, c.in_ok-name.ensures.reads, c.in_ok-expect-2.ensures.reads, c.in_ok-token-2.ensures.reads, c.in_err-expect-3.ensures))

pub returns-in_err-whole : goal.returns-in_err-whole
unfolding bytes is_formula
returns-in_err-whole c =
    rw (passed_on _ c.from_residual-in_err-whole.ensures.1)
    (policy-refused 255 c.in_ok-token.ensures c.in_ok-expect.ensures c.in_ok-name.ensures
    c.in_ok-expect-2.ensures c.in_ok-token-2.ensures c.in_ok-expect-3.ensures _ _ c.in_err-whole.ensures)

pub returns-in_err-expect-4 : goal.returns-in_err-expect-4
unfolding bytes is_formula
returns-in_err-expect-4 c =
    rw (passed_on _ c.from_residual-in_err-expect-4.ensures.1)
    (policy_undotted 255 c.in_ok-token.ensures c.in_ok-expect.ensures c.in_ok-name.ensures
    c.in_ok-expect-2.ensures c.in_ok-token-2.ensures c.in_ok-expect-3.ensures c.whole.new.here c.in_ok-whole.ensures _ _
    c.in_err-expect-4.ensures)

pub returns-in_err-ended : goal.returns-in_err-ended
unfolding bytes is_formula
returns-in_err-ended c =
    rw (passed_on _ c.from_residual-in_err-ended.ensures.1)
    (policy_unended 255 c.in_ok-token.ensures c.in_ok-expect.ensures c.in_ok-name.ensures
    c.in_ok-expect-2.ensures c.in_ok-token-2.ensures c.in_ok-expect-3.ensures c.whole.new.here c.in_ok-whole.ensures
    c.expect-4.new.here c.in_ok-expect-4.ensures _ _ c.in_err-ended.ensures)

pub returns : goal.returns
unfolding bytes is_formula
returns c = (
  _,
  policy-read 255 c.in_ok-token.ensures c.in_ok-expect.ensures c.in_ok-name.ensures
      c.in_ok-expect-2.ensures c.in_ok-token-2.ensures c.in_ok-expect-3.ensures c.whole.new.here c.in_ok-whole.ensures
      c.expect-4.new.here c.in_ok-expect-4.ensures c.ended.new.here c.in_ok-ended.ensures,
  started c.args.table.now _ c.args.out.now _ _ _ c.in_ok-whole.ensures.holds refl,
)

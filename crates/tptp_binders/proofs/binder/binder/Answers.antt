-- `tptp_binders::binder::binder` meets its contract.
use Rattle.model.specs.Bytes.{bytes}
use Rattle.model.specs.TptpReading.{read_binder, give, onwards, ◌>>=◌}
use Rattle.laws.specs.Answer.{passed_on}
use Rattle.tptp_tokens.proofs.MovedLaws.{further}
use Rattle.tptp_binders.proofs.binder.binder.Goals as goal

pub returns-in_err-expect : goal.returns-in_err-expect
unfolding read_binder bytes ◌>>=◌ onwards
returns-in_err-expect c = rw (passed_on _ c.from_residual.ensures.1) (rw c.in_err-expect.ensures)

pub returns-in_err-count : goal.returns-in_err-count
unfolding read_binder bytes ◌>>=◌ onwards
returns-in_err-count c =
    rw (passed_on _ c.from_residual-in_err-count.ensures.1) (rw (c.in_ok-expect.ensures.reads, c.in_err-count.ensures))

pub returns-in_err-expect-2 : goal.returns-in_err-expect-2
unfolding read_binder bytes ◌>>=◌ onwards
returns-in_err-expect-2 c =
    rw (passed_on _ c.from_residual-in_err-expect-2.ensures.1)
    (rw (c.in_ok-expect.ensures.reads, c.in_ok-count.ensures.0.reads, c.in_err-expect-2.ensures))

pub returns-in_err-expect-3 : goal.returns-in_err-expect-3
unfolding read_binder bytes ◌>>=◌ onwards
returns-in_err-expect-3 c =
    rw (passed_on _ c.from_residual-in_err-expect-3.ensures.1)
    (rw (c.in_ok-expect.ensures.reads, c.in_ok-count.ensures.0.reads, c.in_ok-expect-2.ensures.reads, c.in_err-expect-3.ensures))

pub returns : goal.returns
unfolding read_binder bytes give ◌>>=◌ onwards
returns c =
    let open_one = c.in_ok-expect.ensures in
    let v = c.in_ok-count.ensures in
    let close_one = c.in_ok-expect-2.ensures in
    let colon = c.in_ok-expect-3.ensures in (
      record {
        moved = further _ _ _ open_one.moved (further _ _ _ v.0.moved (further _ _ _ close_one.moved colon.moved));
        reads = rw (open_one.reads, v.0.reads, close_one.reads, colon.reads);
      },
      v.1,
      v.2,
    )

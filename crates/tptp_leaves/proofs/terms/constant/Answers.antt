-- `tptp_leaves::terms::constant` meets its contract.
use Rattle.std.proofs.Common.{rules}
use Rattle.model.specs.Tree.{constant, encode_term}
use Rattle.model.specs.TptpReading.{give, onwards, ◌>>=◌}
use Rattle.laws.specs.Answer.{passed_on}
use Rattle.tptp_leaves.proofs.terms.constant.Goals as goal

pub returns-in_err-number : goal.returns-in_err-number
unfolding ◌>>=◌ onwards
returns-in_err-number c = rw (passed_on _ c.from_residual.ensures.1) (rw c.in_err-number.ensures)

pub returns : goal.returns
unfolding give encode_term ◌>>=◌ onwards
returns c =
    let k = c.in_ok-number.number in
    record {
      what = constant k;
      reads = record { moved = c.in_ok-number.ensures.0.moved; reads = rw c.in_ok-number.ensures.0.reads };
      holds = search rules;
    }

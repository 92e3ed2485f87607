-- `tptp_leaves::terms::terms` meets its contract. The loop's invariant: so many terms were read and stand with their number.
use mathlib.Core.Path.{refl}
use native.Mathlib.Omega.{arith}
use Rattle.model.specs.TptpReading.{terms, onwards, ◌>>=◌}
use Rattle.laws.specs.Answer.{passed_on}
use Rattle.tptp_leaves.proofs.TermLaws.{listing_first, listing_refused, listing_stop, listing_none, listing_more, listing_all}
use Rattle.tptp_leaves.proofs.terms.terms.Goals as goal

pub returns-in_err-term : goal.returns-in_err-term
unfolding terms ◌>>=◌ onwards
returns-in_err-term c =
    record {
      kept = record { same = refl; long = refl };
      reads =
          rw (passed_on _ c.from_residual.ensures.1) (rw c.in_err-term.ensures);
    }

pub loop-n-init : goal.loop-n-init
loop-n-init c = listing_first _ _ c.put_term.new.self _ _ _ c.in_ok-term.ensures c.put_term.ensures c.put.ensures

pub returns-in_err-another : goal.returns-in_err-another
returns-in_err-another c =
    record {
      kept = c.loop-n.invariant.kept;
      reads =
          rw (passed_on _ c.from_residual-in_err-another.ensures.1)
          (listing_refused c.loop-n.invariant c.loop-n-test.true _ _ c.in_err-another.ensures);
    }

pub returns-then-not-branch : goal.returns-then-not-branch
returns-then-not-branch c =
    record {
      kept = c.loop-n.invariant.kept;
      reads =
          listing_stop c.loop-n.invariant c.loop-n-test.true _ c.if-not-branch.true c.another.new.here c.in_ok-another.ensures.0;
    }

pub returns-in_err-term-2 : goal.returns-in_err-term-2
returns-in_err-term-2 c =
    record {
      kept = c.loop-n.invariant.kept;
      reads =
          rw (passed_on _ c.from_residual-in_err-term-2.ensures.1)
          (listing_none c.loop-n.invariant c.loop-n-test.true _ c.if-not-branch.false c.another.new.here c.in_ok-another.ensures.0
          _ _ c.in_err-term-2.ensures);
    }

pub loop-n-preserved : goal.loop-n-preserved
loop-n-preserved c =
    listing_more c.loop-n.invariant c.loop-n-test.true _ c.if-not-branch.false c.another.new.here c.in_ok-another.ensures.0
    _ _ _ _ c.in_ok-term-2.ensures c.put_term-in-loop-n.ensures c.put-in-loop-n.ensures

pub returns : goal.returns
returns c =
    record {
      kept = c.loop-n.invariant.kept;
      reads =
          listing_all c.loop-n.invariant (omega (arith, c.loop-n-test.false));
    }

-- `tptp_leaves::leaves::predicate` meets its contract.
use mathlib.Core.List.{[], ◌∷◌}
use Rattle.model.specs.Bytes.{bytes}
use Rattle.model.specs.Tree.{atom}
use Rattle.model.specs.TptpReading.{read_atom, token, onwards, ◌>>=◌}
use Rattle.laws.specs.Answer.{passed_on}
use Rattle.tptp_leaves.specs.Leaves.{LeafStands}
use Rattle.tptp_tokens.proofs.MovedLaws.{further}
use Rattle.tptp_tokens.proofs.BehindLaws.{closed_from}
use Rattle.tptp_leaves.proofs.TermLaws.{kept-further}
use Rattle.tptp_leaves.proofs.LeafLaws.{atom-stands}
use Rattle.tptp_leaves.proofs.leaves.predicate.Goals as goal

pub returns-in_err-expect : goal.returns-in_err-expect
unfolding read_atom bytes ◌>>=◌ onwards
returns-in_err-expect c =
    record {
      kept = c.put.ensures.kept;
      reads =
          rw (passed_on _ c.from_residual.ensures.1) (rw c.in_err-expect.ensures);
    }

pub returns-in_err-predicate : goal.returns-in_err-predicate
unfolding read_atom bytes ◌>>=◌ onwards
returns-in_err-predicate c =
    record {
      kept = c.put.ensures.kept;
      reads =
          rw (passed_on _ c.from_residual-in_err-predicate.ensures.1) (rw (c.in_ok-expect.ensures.reads, c.in_err-predicate.ensures));
    }

pub returns-in_err-opening : goal.returns-in_err-opening
unfolding read_atom bytes ◌>>=◌ onwards
returns-in_err-opening c =
    record {
      kept = kept-further _ _ _ c.put.ensures.kept c.put-2.ensures.kept;
      reads =
          rw (passed_on _ c.from_residual-in_err-opening.ensures.1)
          (rw (c.in_ok-expect.ensures.reads, c.in_ok-predicate.ensures.0.reads, c.in_err-opening.ensures));
    }

pub returns-in_err-terms : goal.returns-in_err-terms
unfolding read_atom bytes ◌>>=◌ onwards
returns-in_err-terms c =
    record {
      kept = kept-further _ _ _ c.put.ensures.kept (kept-further _ _ _ c.put-2.ensures.kept c.terms.ensures.kept);
      reads =
          rw (passed_on _ c.from_residual-in_err-terms.ensures.1)
          (rw (c.in_ok-expect.ensures.reads, c.in_ok-predicate.ensures.0.reads, c.in_ok-opening.ensures.reads, c.in_err-terms.ensures.reads));
    }

pub returns : goal.returns
unfolding read_atom bytes ◌>>=◌ onwards
returns c =
    let a = c.args in
    let name = c.in_ok-expect.ensures in
    let p = c.in_ok-predicate.ensures.0 in
    let open_one = c.in_ok-opening.ensures in
    let ts = c.in_ok-terms.ensures.reads in
    record {
      kept = kept-further _ _ _ c.put.ensures.kept (kept-further _ _ _ c.put-2.ensures.kept c.terms.ensures.kept);
      reads =
          closed_from a.here.now c.terms.new.here c.expect-2.new.here
          (further _ _ _ name.moved (further _ _ _ p.moved (further _ _ _ open_one.moved ts.reads.moved)))
          (read_atom a.room a.holds) (token (41 ∷ [])) (atom a.holds c.in_ok-predicate.predicate ts.what) (LeafStands c.terms.new.own.words.now)
          (rw (name.reads, p.reads, open_one.reads, ts.reads.reads))
          (atom-stands a.holds c.in_ok-predicate.predicate ts.what a.own.now c.put.new.self c.put-2.new.self c.terms.new.own c.either.result
          c.either.ensures c.put.ensures c.put-2.ensures ts.holds)
          c.expect-2.result c.expect-2.ensures;
    }

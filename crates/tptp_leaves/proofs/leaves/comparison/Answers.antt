-- `tptp_leaves::leaves::comparison` meets its contract.
use mathlib.Core.Path.{◌≡◌, sym}
use mathlib.Core.List.{[], ◌∷◌}
use Rattle.std.proofs.Common.{rules, to_z, of_z, w32}
use Rattle.model.specs.Bytes.{bytes}
use Rattle.model.specs.Tree.{compare}
use Rattle.model.specs.TptpReading.{read_compare, token, onwards, ◌>>=◌}
use Rattle.laws.specs.Answer.{passed_on}
use Rattle.tptp_leaves.specs.Leaves.{LeafStands}
use Rattle.tptp_tokens.proofs.MovedLaws.{further}
use Rattle.tptp_tokens.proofs.BehindLaws.{closed_from}
use Rattle.tptp_leaves.proofs.TermLaws.{kept-further}
use Rattle.tptp_leaves.proofs.LeafLaws.{compare-stands}
use Rattle.tptp_leaves.proofs.leaves.comparison.Goals as goal

pub returns-in_err-opening : goal.returns-in_err-opening
unfolding read_compare bytes ◌>>=◌ onwards
returns-in_err-opening c =
    record {
      kept = c.put.ensures.kept;
      reads =
          rw (passed_on _ c.from_residual.ensures.1)
          (rw c.in_err-opening.ensures);
    }

pub returns-in_err-token : goal.returns-in_err-token
unfolding read_compare bytes ◌>>=◌ onwards
returns-in_err-token c =
    record {
      kept = c.put.ensures.kept;
      reads =
          rw (passed_on _ c.from_residual-in_err-token.ensures.1)
          (rw (c.in_ok-opening.ensures.reads, c.in_err-token.ensures));
    }

pub returns-in_err-opening-2 : goal.returns-in_err-opening-2
unfolding read_compare bytes ◌>>=◌ onwards
returns-in_err-opening-2 c =
    record {
      kept = c.put.ensures.kept;
      reads =
          rw (passed_on _ c.from_residual-in_err-opening-2.ensures.1)
          (rw (sym c.saturating_sub.ensures, c.in_ok-opening.ensures.reads, c.in_ok-token.ensures.reads, c.in_err-opening-2.ensures));
    }

pub returns-in_err-term : goal.returns-in_err-term
unfolding read_compare bytes ◌>>=◌ onwards
returns-in_err-term c =
    record {
      kept = c.put.ensures.kept;
      reads =
          rw (passed_on _ c.from_residual-in_err-term.ensures.1)
          (rw (
            sym c.saturating_sub.ensures,
            c.in_ok-opening.ensures.reads,
            c.in_ok-token.ensures.reads,
            c.in_ok-opening-2.ensures.reads,
            c.in_err-term.ensures,
          ));
    }

pub returns-in_err-expect : goal.returns-in_err-expect
unfolding read_compare bytes ◌>>=◌ onwards
returns-in_err-expect c =
    record {
      kept = kept-further _ _ _ c.put.ensures.kept c.put_term.ensures.kept;
      reads =
          rw (passed_on _ c.from_residual-in_err-expect.ensures.1)
          (rw (
            sym c.saturating_sub.ensures,
            c.in_ok-opening.ensures.reads,
            c.in_ok-token.ensures.reads,
            c.in_ok-opening-2.ensures.reads,
            c.in_ok-term.ensures.reads.reads,
            c.in_err-expect.ensures,
          ));
    }

pub returns-in_err-integer : goal.returns-in_err-integer
unfolding read_compare bytes ◌>>=◌ onwards
returns-in_err-integer c =
    record {
      kept = kept-further _ _ _ c.put.ensures.kept c.put_term.ensures.kept;
      reads =
          rw (passed_on _ c.from_residual-in_err-integer.ensures.1)
          (rw (
            sym c.saturating_sub.ensures,
            c.in_ok-opening.ensures.reads,
            c.in_ok-token.ensures.reads,
            c.in_ok-opening-2.ensures.reads,
            c.in_ok-term.ensures.reads.reads,
            c.in_ok-expect.ensures.reads,
            c.in_err-integer.ensures,
          ));
    }

pub returns-in_err-expect-2 : goal.returns-in_err-expect-2
unfolding read_compare bytes ◌>>=◌ onwards
returns-in_err-expect-2 c =
    record {
      kept = kept-further _ _ _ c.put.ensures.kept (kept-further _ _ _ c.put_term.ensures.kept c.put_number.ensures.kept);
      reads =
          rw (passed_on _ c.from_residual-in_err-expect-2.ensures.1)
          (rw (
            sym c.saturating_sub.ensures,
            c.in_ok-opening.ensures.reads,
            c.in_ok-token.ensures.reads,
            c.in_ok-opening-2.ensures.reads,
            c.in_ok-term.ensures.reads.reads,
            c.in_ok-expect.ensures.reads,
            c.in_ok-integer.ensures.0.reads,
            c.in_err-expect-2.ensures,
          ));
    }

pub returns-in_err-expect-3 : goal.returns-in_err-expect-3
unfolding read_compare bytes ◌>>=◌ onwards
returns-in_err-expect-3 c =
    record {
      kept = kept-further _ _ _ c.put.ensures.kept (kept-further _ _ _ c.put_term.ensures.kept c.put_number.ensures.kept);
      reads =
          rw (passed_on _ c.from_residual-in_err-expect-3.ensures.1)
          (rw (
            sym c.saturating_sub.ensures,
            c.in_ok-opening.ensures.reads,
            c.in_ok-token.ensures.reads,
            c.in_ok-opening-2.ensures.reads,
            c.in_ok-term.ensures.reads.reads,
            c.in_ok-expect.ensures.reads,
            c.in_ok-integer.ensures.0.reads,
            c.in_ok-expect-2.ensures.reads,
            c.in_err-expect-3.ensures,
          ));
    }

pub returns-in_err-term-2 : goal.returns-in_err-term-2
unfolding read_compare bytes ◌>>=◌ onwards
returns-in_err-term-2 c =
    record {
      kept = kept-further _ _ _ c.put.ensures.kept (kept-further _ _ _ c.put_term.ensures.kept c.put_number.ensures.kept);
      reads =
          rw (passed_on _ c.from_residual-in_err-term-2.ensures.1)
          (rw (
            sym c.saturating_sub.ensures,
            c.in_ok-opening.ensures.reads,
            c.in_ok-token.ensures.reads,
            c.in_ok-opening-2.ensures.reads,
            c.in_ok-term.ensures.reads.reads,
            c.in_ok-expect.ensures.reads,
            c.in_ok-integer.ensures.0.reads,
            c.in_ok-expect-2.ensures.reads,
            c.in_ok-expect-3.ensures.reads,
            c.in_err-term-2.ensures,
          ));
    }

pub returns : goal.returns
unfolding read_compare bytes ◌>>=◌ onwards
returns c =
    let a = c.args in
    let x = c.in_ok-term.ensures in
    let d = c.in_ok-integer.field-0 in
    let y = c.in_ok-term-2.ensures in
    let back : to_z w32 (of_z w32 d) ≡ d = search rules in
    record {
      kept = kept-further _ _ _ c.put.ensures.kept (kept-further _ _ _ c.put_term.ensures.kept (kept-further _ _ _ c.put_number.ensures.kept c.put_term-2.ensures.kept));
      reads =
          closed_from a.here.now c.term-2.new.here c.expect-4.new.here
          (further _ _ _ c.in_ok-opening.ensures.moved (further _ _ _ c.in_ok-token.ensures.moved (further _ _ _ c.in_ok-opening-2.ensures.moved (further _ _ _ x.reads.moved (further _ _ _ c.in_ok-expect.ensures.moved (further _ _ _ c.in_ok-integer.ensures.0.moved (further _ _ _ c.in_ok-expect-2.ensures.moved (further _ _ _ c.in_ok-expect-3.ensures.moved y.reads.moved))))))))
          (read_compare a.room a.holds) (token (41 ∷ [])) (compare a.holds d x.what y.what) (LeafStands c.put_term-2.new.self.words.now)
          (rw (
            sym c.saturating_sub.ensures,
            c.in_ok-opening.ensures.reads,
            c.in_ok-token.ensures.reads,
            c.in_ok-opening-2.ensures.reads,
            c.in_ok-term.ensures.reads.reads,
            c.in_ok-expect.ensures.reads,
            c.in_ok-integer.ensures.0.reads,
            c.in_ok-expect-2.ensures.reads,
            c.in_ok-expect-3.ensures.reads,
            c.in_ok-term-2.ensures.reads.reads,
          ))
          (compare-stands a.holds a.own.now c.put.new.self c.put_term.new.self c.put_number.new.self c.put_term-2.new.self _ c.either.ensures
          c.put.ensures d _ back x.what y.what _ _ x.holds c.put_term.ensures c.put_number.ensures y.holds c.put_term-2.ensures)
          c.expect-4.result c.expect-4.ensures;
    }

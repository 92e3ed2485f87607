-- `tptp_leaves::leaves::negated` meets its contract.
use mathlib.Core.Path.{refl, ◌∙◌}
use mathlib.Core.Bool.{false}
use borrow.Author.Rules.{rules}
use Rattle.model.specs.Bytes.{bytes}
use Rattle.model.specs.TptpReading.{read_compare, onwards, ◌>>=◌}
use Rattle.laws.specs.Answer.{passed_on}
use Rattle.tptp_leaves.specs.Leaves.{LeafStands, behind_negation}
use Rattle.tptp_tokens.proofs.MovedLaws.{further}
use Rattle.tptp_tokens.proofs.BehindLaws.{valued_from}
use Rattle.tptp_leaves.proofs.LeafLaws.{negation-atom, negation-compare}
use Rattle.tptp_leaves.proofs.leaves.negated.Goals as goal

pub returns-then-eq : goal.returns-then-eq
returns-then-eq c =
    record {
      kept = c.atom.ensures.kept;
      reads =
          negation-atom c.args.here.now c.skip.new.here c.skip.ensures c.args.room _ c.atom.new.here c.atom.result (search rules) c.atom.ensures.reads;
    }

pub returns-in_err-token : goal.returns-in_err-token
unfolding bytes ◌>>=◌ onwards
returns-in_err-token c =
    let name = negation-compare c.args.here.now c.skip.new.here c.skip.ensures c.args.room (search rules) in
    record {
      kept = record { same = refl; long = refl };
      reads =
          rw (passed_on _ c.from_residual.ensures.1) (name ∙ rw c.in_err-token.ensures);
    }

pub returns : goal.returns
unfolding bytes ◌>>=◌ onwards
returns c =
    let a = c.args in
    let name = negation-compare a.here.now c.skip.new.here c.skip.ensures a.room (search rules) in
    let t = c.in_ok-token.ensures in
    record {
      kept = c.compare.ensures.kept;
      reads =
          valued_from a.here.now c.token.new.here c.compare.new.here (further _ _ _ c.skip.ensures.reads.moved t.moved) (behind_negation a.room)
          (read_compare a.room false) (LeafStands c.compare.new.own.words.now) (name ∙ rw t.reads) c.compare.result c.compare.ensures.reads;
    }

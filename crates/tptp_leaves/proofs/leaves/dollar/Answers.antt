-- `tptp_leaves::leaves::dollar` meets its contract.
use mathlib.Core.Path.{refl, ◌≡◌, ◌∙◌}
use mathlib.Core.Bool.{true}
use borrow.Author.Rules.{rules}
use Rattle.model.specs.Bytes.{bytes}
use Rattle.model.specs.TptpReading.{literal, read_compare, onwards, ◌>>=◌}
use Rattle.laws.specs.Answer.{passed_on}
use Rattle.tptp_tokens.specs.Steps.{from}
use Rattle.tptp_leaves.specs.Leaves.{LeafStands, behind_dollar}
use Rattle.tptp_tokens.proofs.BehindLaws.{valued_from}
use Rattle.tptp_leaves.proofs.LeafLaws.{dollar-true, dollar-false, dollar-compare}
use Rattle.tptp_leaves.proofs.leaves.dollar.Goals as goal
use Rattle.tptp_leaves.proofs.leaves.dollar.Goals.{in_default-via-in-Some+in_default, in_default-via-in_default}

pub returns-in_err-literal-in_default : goal.returns-in_err-literal-in_default
unfolding bytes ◌>>=◌ onwards
returns-in_err-literal-in_default c =
    let here = c.args.here.now in
    let room = c.args.room in
    let less : from (behind_dollar room) here ≡ from (literal (bytes "lesseq") >>= λ _. read_compare room true) here =
    elim c.in_default.branch [
      | in_default-via-in-Some+in_default w ↦ dollar-compare here room (search rules) (search rules)
      | in_default-via-in_default w ↦ dollar-compare here room (search rules) (search rules)
    ] in
    record {
      kept = record { same = refl; long = refl };
      reads =
          rw (passed_on _ c.from_residual.ensures.1) (less ∙ rw c.in_err-literal-in_default.ensures);
    }

pub returns-in-Some-eq116 : goal.returns-in-Some-eq116
unfolding bytes
returns-in-Some-eq116 c =
    record {
      kept = c.plain.ensures.kept;
      reads =
          dollar-true c.args.here.now c.args.room _ c.plain.new.here c.plain.result (search rules) c.plain.ensures.reads;
    }

pub returns-in-Some-eq102 : goal.returns-in-Some-eq102
unfolding bytes
returns-in-Some-eq102 c =
    record {
      kept = c.plain-in-Some-eq102.ensures.kept;
      reads =
          dollar-false c.args.here.now c.args.room _ c.plain-in-Some-eq102.new.here c.plain-in-Some-eq102.result (search rules)
          c.plain-in-Some-eq102.ensures.reads;
    }

pub returns-in_ok-literal-in_default : goal.returns-in_ok-literal-in_default
unfolding bytes ◌>>=◌ onwards
returns-in_ok-literal-in_default c =
    let here = c.args.here.now in
    let room = c.args.room in
    let name = c.in_ok-literal-in_default.ensures in
    let less : from (behind_dollar room) here ≡ from (literal (bytes "lesseq") >>= λ _. read_compare room true) here =
    elim c.in_default.branch [
      | in_default-via-in-Some+in_default w ↦ dollar-compare here room (search rules) (search rules)
      | in_default-via-in_default w ↦ dollar-compare here room (search rules) (search rules)
    ] in
    record {
      kept = c.compare.ensures.kept;
      reads =
          valued_from here c.literal.new.here c.compare.new.here name.moved (behind_dollar room) (read_compare room true)
          (LeafStands c.compare.new.own.words.now) (less ∙ rw name.reads) c.compare.result c.compare.ensures.reads;
    }

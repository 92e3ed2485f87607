-- `tptp_leaves::leaves::plain` meets its contract.
use mathlib.Core.Path.{refl}
use Rattle.model.specs.Tree.{plain}
use Rattle.model.specs.TptpReading.{literal}
use Rattle.tptp_leaves.specs.Leaves.{LeafStands, read_plain}
use Rattle.tptp_tokens.proofs.MovedLaws.{still}
use Rattle.tptp_tokens.proofs.BehindLaws.{closed_from}
use Rattle.tptp_leaves.proofs.LeafLaws.{plain-stands}
use Rattle.tptp_leaves.proofs.leaves.plain.Goals as goal

pub returns : goal.returns
returns c =
    let a = c.args in
    let here = a.here.now in
    record {
      kept = c.put.ensures.kept;
      reads =
          closed_from here here c.literal.new.here (still here) (read_plain a.word.now a.value) (literal a.word.now) (plain a.value)
          (LeafStands c.put.new.self.words.now) refl (plain-stands a.value a.own.now c.put.new.self c.either.result c.either.ensures c.put.ensures)
          c.literal.result c.literal.ensures;
    }

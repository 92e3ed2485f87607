-- `tptp_writing::tree::compare` meets its contract: texts one behind another.
use Rattle.model.specs.Bytes.{bytes}
use Rattle.text.proofs.PutLaws.{adds_then, adds_is}
use Rattle.tptp_writing.proofs.NodeTextLaws.{compare_text}
use Rattle.tptp_writing.proofs.WalkLaws.{prints_at}
use Rattle.tptp_writing.proofs.tree.compare.Goals as goal

pub returns : goal.returns
unfolding bytes
returns c =
    let left = adds_then (adds_then c.either.ensures c.put_term.ensures) c.bytes.ensures in
    let sum = adds_then (adds_then left c.word.ensures) c.bytes-2.ensures in
    prints_at _
    (adds_is (compare_text c.args.words.now c.args.holds c.args.at)
    (adds_then (adds_then sum c.put_term-2.ensures) c.bytes-3.ensures))

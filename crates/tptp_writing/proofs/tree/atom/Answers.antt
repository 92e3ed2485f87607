-- `tptp_writing::tree::atom` meets its contract: texts one behind another.
use Rattle.model.specs.Bytes.{bytes}
use Rattle.text.proofs.PutLaws.{adds_then, adds_is}
use Rattle.tptp_writing.proofs.NodeTextLaws.{atom_text}
use Rattle.tptp_writing.proofs.WalkLaws.{prints_at}
use Rattle.tptp_writing.proofs.tree.atom.Goals as goal

pub returns : goal.returns
unfolding bytes
returns c =
    let opened = adds_then (adds_then c.either.ensures c.natural.ensures) c.bytes.ensures in
    let whole = adds_then (adds_then opened c.put_terms.ensures) c.bytes-2.ensures in
    rw (← c.value-n.ensures)
    (prints_at _ (adds_is (atom_text c.args.words.now c.args.holds c.args.at _ _ c.value.ensures c.value-n.ensures) whole))

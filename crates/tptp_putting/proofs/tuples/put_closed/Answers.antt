-- `tptp_putting::tuples::put_closed` meets its contract: two texts, one behind the other.
use mathlib.Core.Path.{refl}
use Rattle.std.proofs.Common.{rules}
use Rattle.model.specs.Bytes.{bytes}
use Rattle.text.proofs.PutLaws.{adds_then, puts_from}
use Rattle.tptp_putting.proofs.tuples.put_closed.Goals as goal

pub returns : goal.returns
unfolding bytes
returns c =
    λ t.
    let each = c.put_each.ensures t in
    puts_from (adds_then each c.bytes.ensures) refl (search rules)

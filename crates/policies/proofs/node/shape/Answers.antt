-- `policies::node::shape` meets its contract, by the tag.
use Prim.Native.Nat.{ℕ}
use native.Mathlib.Numerals.{add-one}
use mathlib.Core.Path.{sym, ap}
use lib.ListN.{length}
use lib.Dec.{leb}
use Rattle.model.specs.Reading.{own}
use Rattle.policies.proofs.node.shape.Goals as goal

pub returns-in-Plain : goal.returns-in-Plain
unfolding own
returns-in-Plain c scope =
    rw c.in-Plain.is
    (ap (λ (k : ℕ). leb k (length c.args.spot.words.now)) (sym (add-one c.args.spot.at)))

pub returns-in-Unused : goal.returns-in-Unused
unfolding own
returns-in-Unused c scope = rw c.in-Unused.is

-- `tptp_putting::tuples::put_tuples` meets its contract: nothing, no room before, or the tuples from an index on.
use mathlib.Core.Path.{refl}
use Rattle.std.proofs.Common.{rules}
use Rattle.text.proofs.PutLaws.{adds_none, adds_is, adds_full, adds_from, puts_fit}
use Rattle.tptp_putting.proofs.TupleLaws.{closed_none, closed_some}
use Rattle.tptp_putting.proofs.tuples.put_tuples.Goals as goal

pub returns-then-is_empty : goal.returns-then-is_empty
returns-then-is_empty c =
    λ t. adds_is (closed_none c.args.numbers.now c.args.v c.args.scope t (search rules) c.requires.0) (adds_none c.args.w.now)

pub returns-in_default : goal.returns-in_default
returns-in_default c = λ t. adds_full _ c.args.w.now c.in_default.is

pub invariant_of-w : goal.invariant_of-w
invariant_of-w c = record { fits = puts_fit _ _ _ _ _ (c.put_closed-w.ensures c.requires.2) c.put_closed-w.auto.out }

pub returns : goal.returns
returns c =
    λ t.
    adds_is (closed_some c.args.numbers.now c.args.v c.args.scope t (search rules))
    (adds_from (c.put_closed-w.ensures t) c.in-Some.is refl c.put_closed-w.auto.out)

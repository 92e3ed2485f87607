-- `tptp_putting::tuples::put_each` meets its contract. The loop's invariant: the tuples stand up to the index reached, whatever tuples
-- they are.
use native.Mathlib.Omega.{arith}
use Rattle.tptp_putting.proofs.TupleLaws.{first-tuple, each_none, each_more, each_all}
use Rattle.tptp_putting.proofs.tuples.put_each.Goals as goal

pub loop-from-init : goal.loop-from-init
loop-from-init c = λ t. each_none c.args.numbers.now c.args.v c.args.scope t c.args.w.now

pub slice_bounds-put_tuple-end : goal.slice_bounds-put_tuple-end
slice_bounds-put_tuple-end c =
    let rest = (c.loop-from.invariant c.requires.2).rest in
    let first = first-tuple c.args.numbers.now c.args.v c.args.scope c.loop-from.from rest c.loop-from-test.true in
    omega (arith, first.inside)

pub put_tuple-requires : goal.put_tuple-requires
put_tuple-requires c =
    let rest = (c.loop-from.invariant c.requires.2).rest in
    let first = first-tuple c.args.numbers.now c.args.v c.args.scope c.loop-from.from rest c.loop-from-test.true in
    (omega (arith, first.long, c.requires.0), omega (arith, first.long, c.requires.1))

pub loop-from-preserved : goal.loop-from-preserved
loop-from-preserved c = λ t. each_more _ _ _ t (c.loop-from.invariant t) c.loop-from-test.true c.put_tuple.ensures

pub returns : goal.returns
returns c = λ t. each_all _ _ _ t (c.loop-from.invariant t) c.loop-from-test.false c.requires.0

pub returns-2 : goal.returns-2
returns-2 c = λ t.
    each_all _ _ _ t (each_more _ _ _ t (c.loop-from.invariant t) c.loop-from-test.true c.put_tuple.ensures) (omega arith) c.requires.0

-- `tptp_binders::tuples::listed` meets its contract. The loop's invariant: so many tuples were read and laid.
use native.Mathlib.Omega.{arith}
use Rattle.laws.specs.Answer.{passed_on}
use Rattle.tptp_binders.proofs.TuplesLaws.{tupling_none, tupling_refused, tupling_stop, tupling_stuck, tupling_more}
use Rattle.tptp_binders.proofs.tuples.listed.Goals as goal

pub loop-here-init : goal.loop-here-init
loop-here-init c =
    let a = c.args in tupling_none a.room a.v a.x a.w a.here.now a.out.now c.requires.0 c.requires.4

pub returns-in_err-another : goal.returns-in_err-another
returns-in_err-another c =
    let a = c.args in
    rw (passed_on _ c.from_residual.ensures.1)
    (tupling_refused a.room a.v a.x a.w a.here.now a.out.now c.loop-here.invariant _ _ c.in_err-another.ensures)

pub tuple-requires : goal.tuple-requires
tuple-requires c = (c.requires.1, c.requires.3, omega (arith, c.loop-here.invariant.reached, c.requires.2))

pub returns-in_err-tuple : goal.returns-in_err-tuple
returns-in_err-tuple c =
    let a = c.args in
    rw (passed_on _ c.from_residual-in_err-tuple.ensures.1)
    (tupling_stuck a.room a.v a.x a.w a.here.now a.out.now c.loop-here.invariant _ c.if-branch.true c.another.new.here
    c.in_ok-another.ensures.0 _ _ c.in_err-tuple.ensures)

pub overflow_add-count : goal.overflow_add-count
overflow_add-count c =
    let passed = c.in_ok-another.ensures.1 c.if-branch.true in
    omega (arith, c.loop-here.invariant.few, c.args.here.now.counted, passed, c.in_ok-another.ensures.0.moved.whole)

pub more_words-to-requires : goal.more_words-to-requires
more_words-to-requires c = (omega (arith, c.loop-here.invariant.reached), omega (arith, c.requires.2))

pub loop-here-smaller : goal.loop-here-smaller
loop-here-smaller c =
    let passed = c.in_ok-another.ensures.1 c.if-branch.true in
    let m = c.in_ok-tuple.ensures.reads.moved in
    omega (arith, passed, c.in_ok-another.ensures.0.moved.whole, m.low, m.whole)

pub loop-here-preserved : goal.loop-here-preserved
loop-here-preserved c =
    let a = c.args in
    tupling_more a.room a.v a.x a.w a.here.now a.out.now c.loop-here.invariant _ c.if-branch.true c.another.new.here
    c.in_ok-another.ensures.0 (c.in_ok-another.ensures.1 c.if-branch.true) c.tuple.new.out c.tuple.new.here _ c.requires.1
    c.in_ok-tuple.ensures c.tuple.auto.out c.more_words-to.ensures

pub returns : goal.returns
returns c =
    let a = c.args in
    tupling_stop a.room a.v a.x a.w a.here.now a.out.now c.loop-here.invariant _ c.if-branch.false c.another.new.here
    c.in_ok-another.ensures.0

-- `tptp_binders::binder::variables` meets its contract. The loop's invariant: so many variables were read.
use native.Mathlib.Omega.{arith}
use Rattle.laws.specs.Answer.{passed_on}
use Rattle.tptp_binders.proofs.BinderLaws.{counting_none, counting_first, counting_refused, counting_stop, counting_stuck, counting_more}
use Rattle.tptp_binders.proofs.BinderLaws.{counting_all}
use Rattle.tptp_binders.proofs.binder.variables.Goals as goal

pub returns-in_err-declared : goal.returns-in_err-declared
returns-in_err-declared c =
    let a = c.args in
    rw (passed_on _ c.from_residual.ensures.1) (counting_none a.most a.x a.here.now _ _ c.in_err-declared.ensures)

pub loop-count-init : goal.loop-count-init
loop-count-init c = let a = c.args in counting_first a.most a.x a.here.now c.declared.new.here c.in_ok-declared.ensures

pub returns-in_err-another : goal.returns-in_err-another
returns-in_err-another c =
    let a = c.args in
    rw (passed_on _ c.from_residual-in_err-another.ensures.1)
    (counting_refused a.most a.x a.here.now c.loop-count.invariant (omega (arith, c.loop-count-test.true)) _ _ c.in_err-another.ensures)

pub returns-then-not-branch : goal.returns-then-not-branch
returns-then-not-branch c =
    let a = c.args in (
      counting_stop a.most a.x a.here.now c.loop-count.invariant (omega (arith, c.loop-count-test.true)) _ c.if-not-branch.true
          c.another.new.here c.in_ok-another.ensures.0,
      omega (arith, c.loop-count.invariant.is),
      omega (arith, c.loop-count-test.true),
    )

pub returns-in_err-declared-2 : goal.returns-in_err-declared-2
returns-in_err-declared-2 c =
    let a = c.args in
    rw (passed_on _ c.from_residual-in_err-declared-2.ensures.1)
    (counting_stuck a.most a.x a.here.now c.loop-count.invariant (omega (arith, c.loop-count-test.true)) _ c.if-not-branch.false
    c.another.new.here c.in_ok-another.ensures.0 _ (omega arith) _ _ c.in_err-declared-2.ensures)

pub loop-count-preserved : goal.loop-count-preserved
loop-count-preserved c =
    let a = c.args in
    counting_more a.most a.x a.here.now c.loop-count.invariant (omega (arith, c.loop-count-test.true)) _ c.if-not-branch.false
    c.another.new.here c.in_ok-another.ensures.0 _ (omega arith) c.declared-in-loop-count.new.here c.in_ok-declared-2.ensures

pub returns : goal.returns
returns c =
    let a = c.args in (
      counting_all a.most a.x a.here.now c.loop-count.invariant (omega (arith, c.loop-count.auto.count-end, c.loop-count-test.false)),
      omega arith,
      omega arith,
    )

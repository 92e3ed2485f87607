-- `tptp_binders::ahead::stop_index` meets its contract. The loop's invariant: the scan from here goes as that from the start.
use native.Mathlib.Omega.{arith}
use Rattle.tptp_binders.proofs.AheadLaws.{scan_end, scan_open, scan_close, scan_closing, scan_other, scan_connective}
use Rattle.tptp_binders.proofs.ahead.stop_index.Goals as goal
use Rattle.tptp_binders.proofs.ahead.stop_index.Goals.{then-b-eq40, else-b-eq40+then-b-eq41+else-depth-eq0, else-b-eq40+else-b-eq41+else-depth-b}

pub returns-then-depth-eq0 : goal.returns-then-depth-eq0
returns-then-depth-eq0 c =
    scan_closing c.args.rest.now c.loop-i.i c.loop-i.depth c.loop-i.invariant c.loop-i-test.true c.if-b-eq41.true c.if-depth-eq0.true

pub returns-then-depth-b : goal.returns-then-depth-b
returns-then-depth-b c =
    scan_connective c.args.rest.now c.loop-i.i c.loop-i.depth c.loop-i.invariant c.loop-i-test.true c.if-b-eq40.false c.if-b-eq41.false
    c.if-depth-b.true

pub loop-i-preserved : goal.loop-i-preserved
loop-i-preserved c =
    let rest = c.args.rest.now in
    let l = c.loop-i in
    elim c.if-b-eq40.branch [
      | then-b-eq40 w ↦ scan_open rest l.i l.depth l.invariant c.loop-i-test.true _ w.if-b-eq40.true (omega (arith, w.depth-is))
      | else-b-eq40+then-b-eq41+else-depth-eq0 w ↦
          scan_close rest l.i l.depth l.invariant c.loop-i-test.true _ w.if-b-eq41.true w.if-depth-eq0.false w.depth-is
      | else-b-eq40+else-b-eq41+else-depth-b w ↦
          scan_other rest l.i l.depth l.invariant c.loop-i-test.true w.if-b-eq40.false w.if-b-eq41.false _ w.if-depth-b.false w.depth-is
    ]

pub returns : goal.returns
returns c = scan_end c.args.rest.now c.loop-i.i c.loop-i.depth c.loop-i.invariant (omega (arith, c.loop-i.auto.i-end, c.loop-i-test.false))

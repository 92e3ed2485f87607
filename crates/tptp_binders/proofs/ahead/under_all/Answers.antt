-- `tptp_binders::ahead::under_all` meets its contract.
use native.Mathlib.Omega.{arith}
use mathlib.Core.Bool.{true}
use Rattle.tptp_binders.proofs.AheadLaws.{foretold, untold}
use Rattle.tptp_binders.proofs.ahead.under_all.Goals as goal

pub returns-then-not-stands : goal.returns-then-not-stands
returns-then-not-stands c =
    untold c.args.here.now c.skip.new.here c.skip.ensures c.stands.result c.stands-2.result c.stands.ensures c.stands-2.ensures
    c.if-not-stands.true true

pub returns : goal.returns
returns c = foretold _ (omega arith) c.args.here.now c.stop.result c.stop.ensures c.stands-3.result c.stands-3.ensures

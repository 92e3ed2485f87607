-- `tptp_binders::ahead::begins` meets its contract.
use mathlib.Core.Path.{◌∙◌}
use Rattle.tptp_binders.proofs.AheadLaws.{ahead}
use Rattle.tptp_binders.proofs.ahead.begins.Goals as goal

pub returns : goal.returns
returns c = c.is_ok.ensures.value ∙ ahead c.args.c c.args.here.now c.expect.new.here c.expect.result c.expect.ensures

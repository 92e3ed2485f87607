-- `tptp_binders::ahead::stands` meets its contract.
use mathlib.Core.Path.{◌∙◌}
use Rattle.tptp_binders.proofs.AheadLaws.{same_byte}
use Rattle.tptp_binders.proofs.ahead.stands.Goals as goal

pub returns : goal.returns
returns c = c.eq.ensures ∙ same_byte c.args.here.now.rest.now _ c.first.result c.first.ensures.value

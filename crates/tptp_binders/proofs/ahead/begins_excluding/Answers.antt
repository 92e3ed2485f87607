-- `tptp_binders::ahead::begins_excluding` meets its contract.
use mathlib.Core.Path.{◌∙◌}
use Rattle.model.specs.TptpReading.{begins_tuple}
use Rattle.tptp_binders.proofs.AheadLaws.{ahead_then, ahead_else, excludes_as}
use Rattle.tptp_binders.proofs.ahead.begins_excluding.Goals as goal

pub returns-then-is_ok : goal.returns-then-is_ok
returns-then-is_ok c =
    let here = c.args.here.now in
    c.begins_tuple.ensures
    ∙ ahead_then 38 here (begins_tuple c.args.v) c.expect.new.here c.expect.result c.expect.ensures c.if-is_ok.ensures.value
    ∙ excludes_as c.args.v here.rest.now

pub returns-else-is_ok : goal.returns-else-is_ok
returns-else-is_ok c =
    let here = c.args.here.now in
    ahead_else 38 here (begins_tuple c.args.v) c.is_ok.result c.expect.new.here c.expect.result c.expect.ensures c.is_ok.ensures.value
    c.if-is_ok.false
    ∙ excludes_as c.args.v here.rest.now

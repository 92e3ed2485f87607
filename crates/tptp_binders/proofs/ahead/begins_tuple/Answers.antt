-- `tptp_binders::ahead::begins_tuple` meets its contract.
use mathlib.Core.Path.{◌∙◌}
use Rattle.tptp_binders.specs.Ahead.{begins}
use Rattle.tptp_binders.proofs.AheadLaws.{ahead_then, ahead_else, tuple-one, tuple-many}
use Rattle.tptp_binders.proofs.ahead.begins_tuple.Goals as goal

pub returns-then-v-eq1 : goal.returns-then-v-eq1
returns-then-v-eq1 c = c.begins.ensures ∙ tuple-one c.args.v c.args.here.now.rest.now c.if-v-eq1.true

pub returns-then-is_ok : goal.returns-then-is_ok
returns-then-is_ok c =
    let here = c.args.here.now in
    c.begins-then-is_ok.ensures
    ∙ ahead_then 40 here (begins 88) c.expect.new.here c.expect.result c.expect.ensures c.if-is_ok.ensures.value
    ∙ tuple-many c.args.v here.rest.now c.if-v-eq1.false

pub returns-else-is_ok : goal.returns-else-is_ok
returns-else-is_ok c =
    let here = c.args.here.now in
    ahead_else 40 here (begins 88) c.is_ok.result c.expect.new.here c.expect.result c.expect.ensures c.is_ok.ensures.value c.if-is_ok.false
    ∙ tuple-many c.args.v here.rest.now c.if-v-eq1.false

-- `nodes::conclude::conclude` meets its contract: the join is finished, with the last part added if the restriction is not
-- closed.
use native.Mathlib.Omega.{arith}
use mathlib.Core.Path.{sym, ◌∙◌}
use Rattle.nodes.proofs.Concluding.{concluding_sizes, concluding_restriction, concluding_closed}
use Rattle.nodes.proofs.Concluding.{concluded-closed, concluding_long, concluding_adding, concluding_joining, concluded_open}
use Rattle.nodes.proofs.conclude.conclude.Goals as goal

pub overflow_mul-v : goal.overflow_mul-v
overflow_mul-v c = omega (arith, c.ranges, concluding_sizes c.requires.2 c.value-v.ensures c.value-m.ensures)

pub overflow_add-at-4 : goal.overflow_add-at-4
overflow_add-at-4 c = omega (arith, c.ranges, concluding_sizes c.requires.2 c.value-v.ensures c.value-m.ensures)

pub closed-requires : goal.closed-requires
closed-requires c = concluding_restriction c.requires.2 c.value-v.ensures c.value-m.ensures

pub returns-then-closed : goal.returns-then-closed
returns-then-closed c = λ a.
    let closed = concluding_closed a c.value-v.ensures c.value-m.ensures c.closed.ensures in
    concluded-closed a (sym closed ∙ c.if-closed.true) c.finish.ensures

pub add-whole-requires : goal.add-whole-requires
add-whole-requires c = concluding_adding c.requires.2 c.last-answer.ensures

pub finish-requires-2 : goal.finish-requires-2
finish-requires-2 c =
    let long = concluding_long c.requires.2 c.last-answer.ensures in
    (omega arith, (_, _, _, _, concluding_joining c.requires.2 c.last-answer.ensures c.add-whole.ensures))

pub returns : goal.returns
returns c = λ a.
    let closed = concluding_closed a c.value-v.ensures c.value-m.ensures c.closed.ensures in
    concluded_open a c.last-answer.ensures c.add-whole.ensures (omega arith) (sym closed ∙ c.if-closed.false) c.finish-2.ensures

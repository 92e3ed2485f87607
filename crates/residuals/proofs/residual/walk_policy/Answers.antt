-- `residuals::residual::walk_policy` meets its contract, from what the walk of the root ensures.
use mathlib.Core.Path.{refl}
use mathlib.Core.List.{[]}
use Rattle.model.specs.Reading.{is_formula}
use Rattle.residuals.proofs.ReduceWalking.{lent_few, walked_whole}
use Rattle.residuals.proofs.residual.walk_policy.Goals as goal

pub formula-walked-requires : goal.formula-walked-requires
unfolding is_formula
formula-walked-requires c =
    let a = c.args in (lent_few a.buffer.now c.lendable-room.result c.lendable-room.ensures, refl, c.requires)

pub returns : goal.returns
returns c = λ tree next node.
    let answers = (c.formula-walked.ensures [] tree next (c.empty.ensures.0, refl) node).answers in
    walked_whole c.args.buffer.now c.lendable-room.result c.lendable-room.ensures _ answers.long answers

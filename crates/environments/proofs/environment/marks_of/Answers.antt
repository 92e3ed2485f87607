-- `environments::environment::marks_of` meets its contract. The loop's invariant: the marks so far, and those that the rest of the
-- number has, are the marks asked for.
use native.Mathlib.Omega.{arith}
use mathlib.Core.Path.{sym, ◌∙◌}
use lib.ListN.{length-set}
use Rattle.environments.proofs.Filling.{unbits-next, unbits-last}
use Rattle.environments.proofs.environment.marks_of.Goals as goal

pub loop-mark-preserved : goal.loop-mark-preserved
loop-mark-preserved c =
    let l = c.loop-mark in (
      length-set l.mark-items l.mark-index _ ∙ l.invariant.0,
      l.invariant.1 ∙ unbits-next l.mark-items 16 l.left l.mark-index (omega arith) (omega arith),
    )

pub returns : goal.returns
returns c =
    let l = c.loop-mark in
    sym (l.invariant.1 ∙ unbits-last l.mark-items 16 l.left l.mark-index l.invariant.0 (omega arith))

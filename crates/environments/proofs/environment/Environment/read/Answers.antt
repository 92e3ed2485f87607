-- `environments::environment::Environment::read` meets its contract: the numbers are the first sixteen words, the marks the last.
use Prim.Native.Nat.{◌*◌}
use mathlib.Core.Path.{◌∙◌, ap}
use Rattle.environments.specs.Environment.{unbits}
use Rattle.environments.proofs.Places.{numbers-here, marks-here}
use Rattle.environments.proofs.environment.Environment.read.Goals as goal

pub returns : goal.returns
returns c = λ e h.
    let a = c.args in
    record {
      numbers = c.numbers_at-numbers.ensures ∙ numbers-here a.scratch.now (17 * a.place) e h;
      marks = c.marks_of-marks.ensures ∙ ap (unbits 16) c.value.ensures ∙ marks-here a.scratch.now (17 * a.place) e h;
    }

-- `environments::environment::Environment::release` meets its contract: a number and a mark are set, as `release` changes one slot.
use mathlib.Core.Path.{ap, ◌∙◌}
use mathlib.Core.Bool.{Bool, false}
use mathlib.Core.List.{List}
use lib.ListN.{set}
use lib.IntN.{ℤ, pos}
use Rattle.environments.proofs.Places.{numbers-release, marks-release}
use Rattle.environments.proofs.environment.Environment.release.Goals as goal

pub returns : goal.returns
returns c = λ e h.
    let x = c.args.variable in
    record {
      numbers = ap (λ (l : List ℤ). set l x (pos 0)) h.numbers ∙ numbers-release e x;
      marks = ap (λ (l : List Bool). set l x false) h.marks ∙ marks-release e x;
    }

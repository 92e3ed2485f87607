-- `auditor::counted` meets its contract, by cases on the answer.
use mathlib.Core.Path.{◌≡◌, refl, ◌∙◌}
use Rattle.std.specs.Prelude.{Ok, Err}
use Rattle.std.specs.Result.{result_unwrap_or}
use Rattle.model.specs.Answer.{Answer, count}
use Rattle.auditor.proofs.counted.Goals as goal

by_cases : (answer : Answer) → result_unwrap_or answer 0 ≡ count answer
unfolding count
by_cases (Ok n) = refl
by_cases (Err e) = refl

pub returns : goal.returns
returns c = c.unwrap_or.ensures ∙ by_cases c.args.answer

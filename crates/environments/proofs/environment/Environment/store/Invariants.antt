-- `environments::environment::Environment::store` meets its contract. The loop's invariant: the first i numbers are there.
use mathlib.Core.Path.{◌≡◌}
use lib.Seq.{paste}
use Rattle.environments.proofs.environment.Environment.store.Given as goal

abbrev pub invariant-loop-i : goal.invariant-loop-i
invariant-loop-i l = l.scratch ≡ paste l.initial.scratch l.at l.self.numbers l.i

-- `environments::environment::marks_word` meets its contract. The loop's invariant: the number has the bits of the marks from i on.
use mathlib.Core.Path.{◌≡◌}
use lib.ListN.{drop}
use Rattle.environments.specs.Environment.{bits}
use Rattle.environments.proofs.environment.marks_word.Given as goal

abbrev pub invariant-loop-i : goal.invariant-loop-i
invariant-loop-i l = l.word ≡ bits (drop l.i l.marks)

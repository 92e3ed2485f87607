-- None of the bytes passed ends the part.
use Rattle.std.proofs.Common.{◌≡◌, ◌+◌, drop}
use Rattle.cases.specs.Given.{first}
use Rattle.cases.proofs.given.split.Given as goal

abbrev pub invariant-loop-i : goal.invariant-loop-i
invariant-loop-i l = first l.last l.text ≡ l.i + first l.last (drop l.i l.text)

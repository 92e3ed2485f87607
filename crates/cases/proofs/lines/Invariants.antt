-- `cases::lines` is safe and ends. The bytes that are not read yet are left.
use Rattle.std.proofs.Common.{length}
use Rattle.cases.proofs.lines.Given as goal

abbrev pub invariant-loop-given : goal.invariant-loop-given
invariant-loop-given g l = Unit {0}

abbrev pub decreases-loop-given : goal.decreases-loop-given
decreases-loop-given g l = length l.rest

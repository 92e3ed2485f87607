-- `tptp_tokens::numbers::more_digits` meets its contract. The loop's invariant: the digits so far lead from the start to here.
use Prim.Native.Nat.{◌+◌, ◌≤◌}
use mathlib.Core.Path.{◌≡◌}
use lib.ListN.{drop}
use Rattle.model.specs.TptpReading.{more_digits}
use Rattle.tptp_tokens.specs.Steps.{from}
use Rattle.tptp_tokens.proofs.numbers.more_digits.Given as goal

abbrev pub invariant-loop-i : goal.invariant-loop-i
invariant-loop-i l =
    (l.here ≡ l.fn.here) × (l.first ≤ l.n) × (l.n ≤ l.most)
    × (from (more_digits l.most l.first) l.fn.here ≡ more_digits l.most l.n (drop l.i l.fn.here.rest.now) (l.fn.here.at + l.i))

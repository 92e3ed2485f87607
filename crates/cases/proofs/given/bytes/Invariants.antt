-- The bytes that are read, and those of what is left, are those of the whole line.
use Rattle.std.proofs.Common.{◌≡◌, ◌≤◌, ◌++◌, ◌-◌, false, length, take, drop}
use Rattle.cases.specs.Given.{line_bytes}
use Rattle.cases.proofs.given.bytes.Given as goal

abbrev pub invariant-loop-i : goal.invariant-loop-i
invariant-loop-i l =
    (take (length l.initial.out) (line_bytes false l.text)
    ≡ take l.n l.out ++ take (length l.initial.out - l.n) (line_bytes l.escaped (drop l.i l.text)))
    × (drop l.n l.out ≡ drop l.n l.initial.out)
    × (l.n ≤ length l.out)

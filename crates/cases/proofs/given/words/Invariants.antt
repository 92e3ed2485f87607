-- The numbers that are read, and those of what is left, are those of the text.
use Rattle.std.proofs.Common.{◌≡◌, ◌++◌, ◌-◌, length, take, drop}
use Rattle.cases.specs.Given.{numbers}
use Rattle.cases.proofs.given.words.Given as goal

abbrev pub invariant-loop-n : goal.invariant-loop-n
invariant-loop-n l =
    (numbers (length l.initial.words) l.text 0 ≡ take l.n l.words ++ numbers (length l.initial.words - l.n) l.here.rest.now l.here.at)
    × (drop l.n l.words ≡ drop l.n l.initial.words)

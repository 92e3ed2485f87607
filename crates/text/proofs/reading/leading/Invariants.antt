-- `text::reading::leading` meets its contract. The loop's invariant: all bytes so far are digits, and the number is followed.
use Rattle.text.proofs.ReadingLaws.{Counted}
use Rattle.text.proofs.reading.leading.Given as goal

abbrev pub invariant-loop-count : goal.invariant-loop-count
invariant-loop-count l = Counted l.text l.count l.magnitude

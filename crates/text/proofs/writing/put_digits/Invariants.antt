-- `text::writing::put_digits` meets its contract. The loop's invariant: the last digits stand from the index reached on.
use Rattle.text.proofs.WritingLaws.{Ending}
use Rattle.text.proofs.writing.put_digits.Given as goal

abbrev pub invariant-loop-i : goal.invariant-loop-i
invariant-loop-i l = Ending l.initial.out l.from l.next l.n l.out l.left l.i

-- `words::clearing::clear` meets its contract. The loop's invariant: the elements passed are set.
use Rattle.words.proofs.ClearingLaws.{Set}
use Rattle.words.proofs.clearing.clear.Given as goal

abbrev pub invariant-loop-element : goal.invariant-loop-element
invariant-loop-element g l = Set l.blank l.initial.element-items l.element-index l.element-items

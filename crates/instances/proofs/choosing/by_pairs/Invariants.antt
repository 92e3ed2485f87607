-- `instances::choosing::by_pairs` meets its contract. The loop's invariant: of the first i places those with fresh tuples stand
-- in front, and their tuples and the fresh ones of what is left are the fresh ones of the whole list.
use Rattle.instances.proofs.InstanceLaws.{Going}
use Rattle.instances.proofs.choosing.by_pairs.Given as goal

abbrev pub invariant-loop-i : goal.invariant-loop-i
invariant-loop-i l =
    Going l.excluded.words.now l.excluded.from l.excluded.m l.excluded.v l.scope l.initial.scratch l.scratch l.first l.count l.found l.i

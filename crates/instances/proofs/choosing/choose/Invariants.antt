-- `instances::choosing::choose` meets its contract. The loop's invariant: that of `by_pairs`, and the excluded tuples and those found are
-- entered in the table.
use Prim.Native.Nat.{◌+◌, ◌*◌}
use Rattle.instances.specs.Keyed.{Keyed, entry_at}
use Rattle.instances.proofs.InstanceLaws.{Going}
use Rattle.instances.proofs.choosing.choose.Given as goal

abbrev pub invariant-loop-i : goal.invariant-loop-i
invariant-loop-i l =
    Going l.excluded.words.now l.excluded.from l.excluded.m l.excluded.v l.scope l.initial.scratch l.scratch l.first l.count l.found l.i
    × Keyed (entry_at l.excluded.words.now l.excluded.from l.excluded.m l.excluded.v l.scratch (17 * l.first + l.scope)) (l.excluded.m + l.found) l.keys.heads l.keys.links

-- `instances::seen::key` meets its contract. The loop's invariant: the key is that of the words from number i on, added to the sum.
use mathlib.Core.Path.{◌≡◌}
use lib.ListN.{take, drop}
use Rattle.instances.specs.Keyed.{key_from, key_of}
use Rattle.words.proofs.PartLaws.{part_from}
use Rattle.instances.proofs.seen.key.Given as goal

abbrev pub invariant-loop-i : goal.invariant-loop-i
invariant-loop-i l = (key_of (take l.v (drop l.at l.words)) ≡ key_from l.sum (part_from l.words l.at l.v l.i))

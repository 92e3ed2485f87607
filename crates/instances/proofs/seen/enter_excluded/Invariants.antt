-- `instances::seen::enter_excluded` meets its contract. The loop's invariant: the first e tuples are entered.
use Prim.Native.Nat.{◌+◌, ◌*◌}
use lib.ListN.{take, drop}
use Rattle.instances.specs.Keyed.{Keyed}
use Rattle.instances.proofs.seen.enter_excluded.Given as goal

abbrev pub invariant-loop-e : goal.invariant-loop-e
invariant-loop-e l = Keyed (λ j. take l.excluded.v (drop (l.excluded.from + l.excluded.v * j) l.excluded.words.now)) l.e l.heads l.links

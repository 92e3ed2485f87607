-- `instances::seen::seen` meets its contract. The loop's invariant: the tuple is one of the entries if it is one of those below the link,
-- the last of which has its key. The measure is the link, which falls along a chain.
use lib.ListN.{take, drop}
use Rattle.instances.specs.Keyed.{entry_at}
use Rattle.instances.proofs.KeyLaws.{Walking}
use Rattle.instances.proofs.seen.seen.Given as goal

abbrev pub invariant-loop-link : goal.invariant-loop-link
invariant-loop-link l = Walking (entry_at l.excluded.words.now l.excluded.from l.excluded.m l.excluded.v l.scratch l.start) (take l.excluded.v (drop l.at l.scratch)) l.n l.link

abbrev pub decreases-loop-link : goal.decreases-loop-link
decreases-loop-link l = l.link

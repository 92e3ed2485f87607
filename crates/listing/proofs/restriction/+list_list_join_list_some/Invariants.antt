-- The proof of the cycle of calls {list, list_join, list_some}. The measure is twice the levels left: one more for
-- `list_join`, which calls `list` at its own level, and one less for `list_some`, which calls it a level down.
-- The loop: the children passed made the lists that stand, and those left stand at the index reached.
use Prim.Native.Nat.{◌*◌, ◌-◌}
use Rattle.listing.proofs.JoinLaws.{SoFar}
use Rattle.listing.proofs.restriction.+list_list_join_list_some.Given as goal

abbrev pub decreases-list : goal.decreases-list
decreases-list l = 130 - 2 * l.depth.level

abbrev pub decreases-list_join : goal.decreases-list_join
decreases-list_join l = 131 - 2 * l.depth.level

abbrev pub decreases-list_some : goal.decreases-list_some
decreases-list_some l = 129 - 2 * l.depth.level

abbrev pub invariant-list_join-loop : goal.invariant-list_join-loop
invariant-list_join-loop l =
    SoFar l.every l.log.table.now l.words l.log.rows.now l.depth.level l.depth.scope l.n l.at l.room l.initial.scratch l.counter l.next l.handed l.scratch

-- The proof of the cycle of calls {bind, bind_all, bind_any, bind_some}. The measure is twice the levels left: one more for
-- `bind_all` and `bind_any`, which call `bind` at their own level, and one less for `bind_some`, which calls it a level down.
-- The loops: the operands left tell what all of them do, given the marks of those behind.
use Prim.Native.Nat.{◌*◌, ◌-◌, ◌≤◌}
use Rattle.modes.specs.Mode.{set_of}
use Rattle.modes.proofs.ModeLoops.{Come, All, Any, Met}
use Rattle.modes.proofs.mode.+bind_bind_all_bind_any_bind_some.Given as goal

abbrev pub decreases-bind : goal.decreases-bind
decreases-bind l = 130 - 2 * l.depth.level

abbrev pub decreases-bind_all : goal.decreases-bind_all
decreases-bind_all l = 131 - 2 * l.depth.level

abbrev pub decreases-bind_any : goal.decreases-bind_any
decreases-bind_any l = 131 - 2 * l.depth.level

abbrev pub decreases-bind_some : goal.decreases-bind_some
decreases-bind_some l = 129 - 2 * l.depth.level

abbrev pub invariant-bind_all-loop : goal.invariant-bind_all-loop
invariant-bind_all-loop l =
    (l.counter ≤ l.n)
    × Come l.table l.words l.depth.level l.depth.scope l.n l.at
    (λ ts. All l.table l.depth.scope (set_of l.initial.set) ts l.at)
    l.counter
    l.next
    (All l.table l.depth.scope (set_of l.set))

abbrev pub invariant-bind_any-loop : goal.invariant-bind_any-loop
invariant-bind_any-loop l =
    (l.counter ≤ l.n)
    × Come l.table l.words l.depth.level l.depth.scope l.n l.at
    (λ ts. Any l.table l.depth.scope (set_of l.bound) ts l.at)
    l.counter
    l.next
    (Met l.table l.depth.scope (set_of l.bound) (set_of l.set))

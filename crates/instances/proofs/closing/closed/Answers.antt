-- `instances::closing::closed` meets its contract. The loop's invariant: as many trees as are left stand at the index reached, up to
-- the end of the restriction, and it is closed exactly if these are.
use mathlib.Core.Path.{sym, ◌∙◌}
use Rattle.instances.proofs.ClosedLaws.{close_start, close_end, close_ahead, close_asks, close_open, close_more}
use Rattle.instances.proofs.closing.closed.Goals as goal

pub loop-walk-init : goal.loop-walk-init
loop-walk-init c = close_start _ _ _ _ c.new-walk.ensures

pub complete-requires : goal.complete-requires
complete-requires c = close_asks _ _ _ c.loop-walk.walk c.loop-walk.invariant c.loop-walk-test.true c.requires

pub returns-then-not-complete : goal.returns-then-not-complete
returns-then-not-complete c =
    close_open _ _ _ c.loop-walk.walk c.loop-walk.invariant c.loop-walk-test.true _ c.tag_at-tag.ensures
    (sym c.complete.ensures ∙ c.if-not-complete.true)

pub past-walk-requires : goal.past-walk-requires
past-walk-requires c =
    (c.tag_at-tag.ensures, close_ahead _ _ _ c.loop-walk.walk c.loop-walk.invariant c.loop-walk-test.true c.requires)

pub loop-walk-preserved : goal.loop-walk-preserved
loop-walk-preserved c =
    close_more _ _ _ c.loop-walk.walk c.loop-walk.invariant c.loop-walk-test.true _ c.tag_at-tag.ensures
    (sym c.complete.ensures ∙ c.if-not-complete.false)
    _
    c.past-walk.ensures

pub returns : goal.returns
returns c = close_end _ _ _ c.loop-walk.walk c.loop-walk.invariant c.loop-walk-test.false

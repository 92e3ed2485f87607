-- `trees::walk::tree_end` meets its contract. The loop's invariant: as many trees as are left stand at the index reached, up to the
-- end of the tree.
use Rattle.trees.proofs.Walking.{walk_start, walk_ahead, walk_more, walk_end}
use Rattle.trees.proofs.walk.tree_end.Goals as goal

pub loop-walk-init : goal.loop-walk-init
loop-walk-init c = walk_start _ _ _ c.new-walk.ensures

pub past-walk-requires : goal.past-walk-requires
past-walk-requires c =
    (c.tag_at.ensures, walk_ahead _ _ c.loop-walk.walk c.loop-walk.invariant c.loop-walk-test.true c.requires)

pub loop-walk-preserved : goal.loop-walk-preserved
loop-walk-preserved c =
    walk_more _ _ c.loop-walk.walk c.loop-walk.invariant c.loop-walk-test.true _ c.tag_at.ensures _ c.past-walk.ensures

pub returns : goal.returns
returns c = walk_end _ _ c.loop-walk.walk c.loop-walk.invariant c.loop-walk-test.false

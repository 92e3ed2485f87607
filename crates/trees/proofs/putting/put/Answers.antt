-- `trees::putting::put` meets its contract. The loop's invariant: the words of the nodes passed are copied, and the trees that are left
-- stand at the index reached.
use Rattle.trees.proofs.TreeWalk.{tree-start, tree-next, tree-sized, tree_asks, tree-more, tree-last}
use Rattle.trees.proofs.putting.put.Goals as goal

pub loop-walk-init : goal.loop-walk-init
loop-walk-init c = tree-start _ _ _ _ _ c.new-walk.ensures

pub past-walk-requires : goal.past-walk-requires
past-walk-requires c =
    (c.tag_at-tag.ensures, tree-next _ _ _ _ c.loop-walk.walk _ c.loop-walk.invariant c.loop-walk-test.true c.requires)

pub put_node-requires : goal.put_node-requires
put_node-requires c =
    let e = c.tag_at-tag.ensures in
    let w = c.loop-walk.invariant in
    let asks = tree_asks _ _ _ _ c.loop-walk.walk _ w c.loop-walk-test.true _ e c.past-walk.result c.past-walk.ensures c.requires in
    (asks.0, e, tree-sized _ _ _ _ c.loop-walk.walk _ w c.loop-walk-test.true _ e c.past-walk.result c.past-walk.ensures, asks.1)

pub loop-walk-preserved : goal.loop-walk-preserved
loop-walk-preserved c =
    tree-more _ _ _ _ c.loop-walk.walk _ c.loop-walk.invariant c.loop-walk-test.true _ c.tag_at-tag.ensures _ c.past-walk.ensures _
    c.put_node.ensures

pub returns : goal.returns
returns c = tree-last _ _ _ _ c.loop-walk.walk _ c.loop-walk.invariant c.loop-walk-test.false

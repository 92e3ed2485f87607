-- `nodes::last::front` meets its contract: the head, the excluded tuples and the tuples in scratch are laid one behind another.
use mathlib.Core.Path.{refl}
use lib.ListN.{length}
use Rattle.nodes.proofs.LastLaws.{front-laid}
use Rattle.nodes.proofs.last.front.Goals as goal

pub returns : goal.returns
returns c =
    let a = c.args in
    front-laid a.words.now a.scratch.now a.scope a.at a.from a.k (length a.out.now)
    c.value-v.result c.value-m.result c.requires c.value-v.ensures c.value-m.ensures a.out.now _ _ _ refl
    c.head.ensures c.copy_words.ensures c.tuples.ensures

-- `instances::seen::key` meets its contract. The loop's invariant: the key is that of the words from number i on, added to the sum.
use mathlib.Core.Path.{sym, ◌∙◌}
use Rattle.instances.proofs.KeyLaws.{key_on, key-last}
use Rattle.instances.proofs.seen.key.Goals as goal

pub loop-i-preserved : goal.loop-i-preserved
loop-i-preserved c =
    let a = c.args in
    c.loop-i.invariant ∙ key_on a.words.now a.at a.v c.loop-i.i c.loop-i.sum c.offset-word.result
    c.loop-i-test.true c.requires c.offset-word.ensures

pub returns : goal.returns
returns c =
    let a = c.args in
    sym (c.loop-i.invariant ∙ key-last a.words.now a.at a.v c.loop-i.i c.loop-i.sum c.loop-i-test.false)

-- `words::clearing::clear` meets its contract. The loop's invariant: the elements passed are set.
use Rattle.std.proofs.Common.{arith, ◌≡◌, refl, ◌-◌, length, take, length-drop}
use lib.ListN.{drop}
use lib.Seq.{length-take-le}
use Rattle.words.proofs.ClearingLaws.{set-more, set-all, cleared}
use Rattle.words.proofs.clearing.clear.Goals as goal

pub loop-element-init : goal.loop-element-init
loop-element-init g c = refl

pub loop-element-preserved : goal.loop-element-preserved
loop-element-preserved g c = set-more c.args.blank _ c.loop-element.element-index _ c.loop-element.invariant c.loop-element-test.true

pub returns : goal.returns
returns g c =
    let buffer = c.args.buffer.now in
    let from = c.args.from in
    let l = c.loop-element in
    let long : length (take (length buffer - from) (drop from buffer)) ≡ length buffer - from =
    length-take-le (length buffer - from) (drop from buffer) (omega (arith, length-drop from buffer)) in
    cleared c.args.blank buffer from _ _ long
    (set-all c.args.blank _ l.element-index _ l.invariant c.loop-element-test.false (omega (arith, l.auto.element-index-end)))

-- `text::writing::put_digits` meets its contract. The loop's invariant: the last digits stand from the index reached on.
use native.Mathlib.Omega.{arith}
use Rattle.text.proofs.WritingLaws.{ending-more, ending-all}
use Rattle.text.proofs.writing.put_digits.Goals as goal

pub loop-i-preserved : goal.loop-i-preserved
loop-i-preserved c =
    let l = c.loop-i in
    let a = c.args in
    ending-more a.out.now a.from a.next a.n c.requires.1 l.out l.left l.i l.invariant _ c.loop-i-test.true (omega arith)

pub returns : goal.returns
returns c =
    let l = c.loop-i in
    let a = c.args in
    ending-all a.out.now a.from a.next a.n c.requires.1 l.out l.left l.i l.invariant c.loop-i-test.false

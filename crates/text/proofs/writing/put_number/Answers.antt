-- `text::writing::put_number` meets its contract: no room, or a minus and digits, which stand over the minus where there is none.
use native.Mathlib.Omega.{arith}
use Rattle.text.proofs.WritingLaws.{number-long, number-stands}
use Rattle.text.proofs.writing.put_number.Goals as goal

pub returns-then-out-next : goal.returns-then-out-next
returns-then-out-next c =
    let a = c.args in
    omega (arith, number-long a.words.now a.i _ _ _ c.value-n.ensures c.negative.ensures c.width.ensures)

pub returns : goal.returns
returns c =
    let a = c.args in
    number-stands a.words.now a.i _ _ _ c.value-n.ensures c.negative.ensures c.width.ensures
    a.out.now _ a.at _ (omega arith) c.if-out-next.false c.put_digits.ensures

-- `text::writing::put_natural` meets its contract: no room, or digits.
use native.Mathlib.Omega.{arith}
use Rattle.text.proofs.WritingLaws.{natural-long, natural-stands}
use Rattle.text.proofs.writing.put_natural.Goals as goal

pub returns-then-out-next : goal.returns-then-out-next
returns-then-out-next c = omega (arith, natural-long _ _ c.width.ensures)

pub returns : goal.returns
returns c =
    let a = c.args in
    natural-stands a.n _ c.width.ensures a.out.now _ a.at c.if-out-next.false c.put_digits.ensures

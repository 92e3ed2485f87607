-- `text::reading::plain` meets its contract: no digit, one, or more.
use native.Mathlib.Omega.{arith}
use mathlib.Core.Path.{sym}
use Rattle.text.proofs.ReadingLaws.{plain-none, plain-one, plain_more}
use Rattle.text.proofs.reading.plain.Goals as goal

pub returns-then-digits-eq0 : goal.returns-then-digits-eq0
returns-then-digits-eq0 c = sym (plain-none c.args.digits.now (omega arith))

pub returns-then-digits-eq1 : goal.returns-then-digits-eq1
returns-then-digits-eq1 c = sym (plain-one c.args.digits.now c.requires (omega arith))

pub returns : goal.returns
returns c = sym (plain_more c.args.digits.now c.requires (omega arith))

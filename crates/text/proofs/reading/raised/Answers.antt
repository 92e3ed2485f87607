-- `text::reading::raised` meets its contract: the same test.
use native.Mathlib.Omega.{arith}
use Rattle.laws.specs.Decimal.{digit-range}
use Rattle.text.proofs.reading.raised.Goals as goal

pub overflow_sub-result : goal.overflow_sub-result
overflow_sub-result c = omega (arith, digit-range _ c.requires)

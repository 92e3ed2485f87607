-- `environments::terms::at_most` meets its contract: two words of 32 bits are added in 64 bits, where the sum fits.
use mathlib.Core.Path.{ap₂, ◌∙◌}
use lib.IntN.{ℤ, ◌+ℤ◌}
use lib.Signed.{le_z}
use mir.Facts.{to_z-of_z}
use Rattle.model.specs.Truth.{sum_at_most}
use Rattle.environments.proofs.Sums.{sum_fits, widened}
use Rattle.environments.proofs.terms.at_most.Goals as goal

pub overflow_add-result : goal.overflow_add-result
overflow_add-result c =
    rw (widened c.args.x c.ranges.x, widened c.args.d c.ranges.d)
    (sum_fits c.args.x c.args.d c.ranges.x c.ranges.d)

pub returns : goal.returns
unfolding sum_at_most
returns c =
    ap₂ le_z
    (to_z-of_z (overflow_add-result c) ∙ ap₂ (λ (a b : ℤ). a +ℤ b) (widened c.args.x c.ranges.x) (widened c.args.d c.ranges.d))
    (widened c.args.y c.ranges.y)

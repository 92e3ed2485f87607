-- `words::at_least` meets its contract, by the sign and the magnitude of the word.
use mathlib.Core.Path.{◌∙◌, ap, sym}
use Prim.Native.Nat.{ℕ}
use lib.Dec.{leb}
use Rattle.model.specs.Words.{value}
use Rattle.words.proofs.Signed.{at_least-negative, at_least_magnitude}
use Rattle.words.proofs.at_least.Goals as goal

pub returns-then-negative : goal.returns-then-negative
returns-then-negative c = at_least-negative _ c.args.low (sym c.negative.ensures ∙ c.if-negative.true)

pub returns : goal.returns
unfolding value
returns c =
    ap (λ (m : ℕ). leb c.args.low m) c.value.ensures
    ∙ at_least_magnitude _ c.args.low (sym c.negative.ensures ∙ c.if-negative.false)

-- `words::below` meets its contract, by the sign and the magnitude of the word.
use mathlib.Core.Path.{◌∙◌, ap, sym}
use Prim.Native.Nat.{ℕ}
use lib.Dec.{ltb}
use Rattle.model.specs.Words.{value}
use Rattle.words.proofs.Signed.{below-negative, below_magnitude}
use Rattle.words.proofs.below.Goals as goal

pub returns-then-negative : goal.returns-then-negative
returns-then-negative c = below-negative _ c.args.n (sym c.negative.ensures ∙ c.if-negative.true)

pub returns : goal.returns
unfolding value
returns c =
    ap (λ (m : ℕ). ltb m c.args.n) c.value.ensures
    ∙ below_magnitude _ c.args.n (sym c.negative.ensures ∙ c.if-negative.false)

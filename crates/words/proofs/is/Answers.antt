-- `words::is` meets its contract, by the sign and the magnitude of the word.
use mathlib.Core.Path.{◌∙◌, ap, sym}
use Prim.Native.Nat.{ℕ}
use lib.Dec.{eqb}
use Rattle.model.specs.Words.{value}
use Rattle.words.proofs.Signed.{is_negative, is_magnitude}
use Rattle.words.proofs.is.Goals as goal

pub returns-then-negative : goal.returns-then-negative
returns-then-negative c = is_negative _ c.args.n (sym c.negative.ensures ∙ c.if-negative.true)

pub returns : goal.returns
unfolding value
returns c =
    ap (λ (m : ℕ). eqb m c.args.n) c.value.ensures
    ∙ is_magnitude _ c.args.n (sym c.negative.ensures ∙ c.if-negative.false)

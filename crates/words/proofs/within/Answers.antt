-- `words::within` meets its contract: what is at least `low` is not negative, so its magnitude is compared.
use mathlib.Core.Path.{◌∙◌, ap, sym}
use Prim.Native.Nat.{ℕ}
use lib.Dec.{leb}
use Rattle.model.specs.Words.{value}
use Rattle.words.proofs.Signed.{within_low, within_magnitude}
use Rattle.words.proofs.within.Goals as goal

pub returns-then-not-at_least : goal.returns-then-not-at_least
returns-then-not-at_least c =
    within_low _ c.args.low c.args.high (sym c.at_least.ensures ∙ c.if-not-at_least.true)

pub returns : goal.returns
unfolding value
returns c =
    ap (λ (m : ℕ). leb m c.args.high) c.value.ensures
    ∙ within_magnitude _ c.args.low c.args.high (sym c.at_least.ensures ∙ c.if-not-at_least.false)

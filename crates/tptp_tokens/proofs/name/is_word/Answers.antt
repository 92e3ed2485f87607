-- `tptp_tokens::name::is_word` meets its contract: the same ranges, in another order.
use mathlib.Core.Path.{◌≡◌, refl, ap, ◌∙◌}
use mathlib.Core.Bool.{Bool, true, false, ◌||◌}
use lib.Dec.{eqb}
use Rattle.model.specs.Bytes.{small, capital, digit, word_byte}
use Rattle.tptp_tokens.proofs.name.is_word.Goals as goal

turned : (a b c : Bool) → (c || b || a) ≡ (a || b || c)
turned true true true = refl
turned true true false = refl
turned true false true = refl
turned true false false = refl
turned false true true = refl
turned false true false = refl
turned false false true = refl
turned false false false = refl

pub returns : goal.returns
unfolding small capital digit word_byte
returns c =
    let b = c.args.b in
    ap (λ (x : Bool). x || eqb b 95) (c.is_ascii_alphanumeric.ensures.value ∙ turned (small b) (capital b) (digit b))

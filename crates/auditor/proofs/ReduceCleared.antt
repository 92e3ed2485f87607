-- What the call reduce leaves in all that it was lent.
use Prim.Native.Nat.{ℕ, ◌-◌}
use native.Mathlib.Omega.{arith}
use mathlib.Core.Path.{◌≡◌, ap, ◌∙◌}
use mathlib.Core.List.{◌++◌}
use lib.ListN.{length, take}
use Rattle.model.specs.Words.{Words}
use Rattle.model.specs.Answer.{Answer, count}
use Rattle.model.specs.Calls.{zeros, result, reduce_call}
use Rattle.laws.specs.Answer.{answers}
use Rattle.residuals.specs.Residual.{LeavesResidual}
use Rattle.auditor.specs.Reduce.{Reduces}

-- what was left in scratch and behind the words counted becomes zero
pub all-cleared :
    (table policy log scratch buffer scratch₁ buffer₁ scratch₂ buffer₂ : Words) {r : Answer} {n : ℕ} →
    LeavesResidual table policy log (length scratch) (length buffer) buffer₁ r →
    length scratch₁ ≡ length scratch →
    length buffer₁ ≡ length buffer →
    scratch₂ ≡ take 0 scratch₁ ++ zeros (length scratch₁ - 0) →
    n ≡ count r →
    buffer₂ ≡ take n buffer₁ ++ zeros (length buffer₁ - n) →
    Reduces table policy log scratch buffer r scratch₂ buffer₂
unfolding reduce_call result
all-cleared table policy log scratch buffer scratch₁ buffer₁ scratch₂ buffer₂ {r} {n} l s b e k f =
    record {
      answered = answers l.answered;
      wrote =
          f
          ∙ ap (λ (m : ℕ). take m buffer₁ ++ zeros (length buffer₁ - m)) k
          ∙ ap (λ (m : ℕ). take (count r) buffer₁ ++ zeros (m - count r)) b
          ∙ l.wrote;
      cleared = e ∙ ap zeros (omega (arith, s));
    }

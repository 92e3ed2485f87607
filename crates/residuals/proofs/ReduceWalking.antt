-- The walk of a policy is lent the front of a buffer, as many words as a residual may have: what it says of the whole buffer.
use Prim.Native.Nat.{ℕ, ◌≤◌}
use native.Mathlib.Omega.{arith}
use mathlib.Core.Path.{◌≡◌, refl, sym, ap, ◌∙◌}
use mathlib.Core.List.{◌++◌}
use lib.ListN.{length, take, drop, length-append, length-drop}
use lib.Seq.{take_at, take-take, length-take-le}
use Rattle.model.specs.Words.{Words, policy_limit}
use Rattle.model.specs.Tree.{Tree}
use Rattle.joining.specs.declared.answer.Reduced.{Reduced}
use Rattle.joining.specs.Answer.{told, Answers}
use Rattle.joining.proofs.Telling.{told_part}
use Rattle.residuals.specs.Residual.{lendable, Walked}

module _ (out : Words) (room : ℕ) (is : room ≡ lendable (length out)) where
  pub lent_long : length (take room out) ≡ room
  lent_long = length-take-le room out (omega (arith, is))

  pub lent_few : length (take room out) ≤ policy_limit
  lent_few = omega (arith, lent_long, is)

  -- the walk has left a part in the place of the words lent
  module _ (part : Words) (long : length part ≡ length (take room out)) where
    pub whole_long : length (part ++ drop room out) ≡ length out
    whole_long = length-append part (drop room out) ∙ omega (arith, long, lent_long, length-drop room out, is)

    pub walked_whole : {places need : ℕ} {t : Tree} {r : Reduced} → Answers places need t (take room out) part r → Walked places need t (part ++ drop room out) r
    walked_whole {places} {need} {t} {r} a =
        record {
          is = a.is ∙ ap (λ (n : ℕ). told places need n t) (lent_long ∙ is ∙ ap lendable (sym whole_long));
          words = λ n e.
              let fits = (told_part places need (length (take room out)) t n (sym e ∙ a.is)).1.2 in
              sym (take-take n (length part) (part ++ drop room out) (omega (arith, fits, long)))
              ∙ ap (take n) (take_at part (drop room out) (length part) refl)
              ∙ a.words n e;
        }

-- The answers to a residual that needs no places: it is plain, it does not fit, or its words stand at the front.
use Prim.Native.Nat.{ℕ, ◌≤◌, ◌<◌}
use native.Mathlib.Omega.{arith}
use mathlib.Core.Path.{◌≡◌, refl, sym, ap, ◌∙◌, subst}
use mathlib.Core.Bool.{Bool, false}
use lib.ListN.{length, take}
use lib.Dec.{ltb}
use borrow.Author.Tests.{le-ltb}
use Rattle.model.specs.Words.{Words}
use Rattle.model.specs.Tree.{Tree, plain, encode}
use Rattle.joining.specs.declared.answer.Reduced.TheVariants.{Plain, Long, Part}
use Rattle.joining.specs.Answer.{Answers}
use Rattle.joining.proofs.Parts.{Solid}
use Rattle.joining.proofs.Telling.{tell_settled, settled_plain, settled-long, settled-part}

-- no places are enough
none_enough : (places : ℕ) → ltb places 0 ≡ false
none_enough places = le-ltb places 0 (omega arith)

pub answers-plain : (b : Bool) (out : Words) (places : ℕ) → Answers places 0 (plain b) out out (Plain b)
answers-plain b out places =
    record {
      is = sym (tell_settled places 0 (length out) (plain b) (none_enough places) ∙ settled_plain (length out) b);
      long = refl;
      words = λ n e. let z : ◌≡◌ {A = ℕ} 0 1 = cc in absurd (omega arith);
    }

pub answers-long :
    (t : Tree) (out : Words) → Solid t → length out < length (encode t) → (places : ℕ) → Answers places 0 t out out Long
answers-long t out s h places =
    record {
      is = sym (tell_settled places 0 (length out) t (none_enough places) ∙ settled-long (length out) t s h);
      long = refl;
      words = λ n e. let z : ◌≡◌ {A = ℕ} 0 1 = cc in absurd (omega arith);
    }

pub answers-part :
    (t : Tree) (before after : Words) (n : ℕ) →
    Solid t →
    n ≡ length (encode t) →
    n ≤ length before →
    length after ≡ length before →
    take n after ≡ encode t →
    (places : ℕ) →
    Answers places 0 t before after (Part n)
answers-part t before after n s size fits long front places =
    record {
      is =
          ap Part size
          ∙ sym (tell_settled places 0 (length before) t (none_enough places) ∙ settled-part (length before) t s (omega arith));
      long = long;
      words = λ m e. let same : n ≡ m = cc in subst (λ (k : ℕ). take k after ≡ encode t) same front;
    }

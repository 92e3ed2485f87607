-- Laws for what is passed of a text.
use Prim.Native.Nat.{ℕ, zero, suc, ◌+◌, ◌<◌}
use native.Mathlib.Omega.{arith}
use mathlib.Core.Path.{◌≡◌, sym, ap, ◌∙◌, subst}
use mathlib.Core.Bool.{Bool, false}
use mathlib.Core.List.{[], ◌∷◌}
use lib.ListN.{length, get_or, drop}
use lib.Dec.{eqb}
use borrow.Author.Tests.{ne_eqb}
use Rattle.std.specs.Prelude.{slice_get, Some}
use Rattle.std.proofs.lemmas.Option.{slice_get_within, get_or_from_slice_get}
use Rattle.model.specs.Bytes.{Text}
use Rattle.text.specs.declared.cursor.Cursor.{Cursor}
use Rattle.text.specs.Passing.{Passed, Stops}

-- no byte of a kind stands at an index
pub stops-at : (kind : ℕ → Bool) (text : Text) (i : ℕ) → (i < length text → kind (get_or text i 0) ≡ false) → Stops kind (drop i text)
unfolding Stops
stops-at kind [] zero f = tt
stops-at kind [] (suc i) f = tt
stops-at kind (b ∷ text) zero f = f (omega arith)
stops-at kind (b ∷ text) (suc i) f = stops-at kind text i (λ h. f (omega arith))

pub stops_first : (kind : ℕ → Bool) (text : Text) (b : ℕ) (t : Text) → Stops kind text → text ≡ b ∷ t → kind b ≡ false
unfolding Stops
stops_first kind text b t s e = subst (Stops kind) e s

-- another byte stands first, or none
pub passes-other : (b : ℕ) (text : Text) → (slice_get text 0 ≡ Some b → ⊥) → Stops (λ c. eqb c b) text
unfolding Stops
passes-other b [] h = tt
passes-other b (x ∷ t) h = ne_eqb x b (λ (e : x ≡ b). h (ap Some e))

-- this byte stands first
begun : (t : Text) (b : ℕ) → slice_get t 0 ≡ Some b → t ≡ b ∷ drop 1 t
begun [] b h = absurd (omega (arith, slice_get_within [] 0 b h))
begun (x ∷ t) b h = ap (λ (y : ℕ). y ∷ t) (get_or_from_slice_get (x ∷ t) 0 b 0 h)

pub passes-one :
    (b : ℕ) (old new : Cursor) (n : ℕ) →
    slice_get old.rest.now 0 ≡ Some b →
    new.rest.now ≡ drop n old.rest.now →
    new.at ≡ old.at + n →
    n ≡ 1 →
    Passed (b ∷ []) old new
passes-one b old new n h r e f = record {
  rest = begun old.rest.now b h ∙ ap (λ (t : Text). b ∷ t) (sym (r ∙ ap (λ (k : ℕ). drop k old.rest.now) f));
  at = omega (arith, e, f);
}

-- Elements of a list, set to one value, one after another; and a buffer of which the rest is so set.
use Prim.Native.Nat.{ℕ, zero, suc, ◌+◌, ◌-◌, ◌≤◌, ◌<◌}
use native.Mathlib.Numerals.{add-one}
use native.Mathlib.Omega.{arith}
use mathlib.Core.Path.{◌≡◌, refl, ap, ◌∙◌}
use mathlib.Core.List.{List, ◌∷◌, ◌++◌, append-nil}
use lib.ListN.{length, take, drop, set, get_or, replicate, length-drop, length-replicate, drop_of_length-le}
use lib.Seq.{drop-cons, set_at}
use borrow.Rule.Slice.PartMut.{put_mid}

module _ {A : Type 0} (z : A) where
  replicate_more : (k : ℕ) (rest : List A) → replicate k z ++ z ∷ rest ≡ replicate (suc k) z ++ rest
  replicate_more zero rest = refl
  replicate_more (suc k) rest = ap (λ (l : List A). z ∷ l) (replicate_more k rest)

  module _ (old : List A) where
    -- the first i are set
    abbrev pub Set : (i : ℕ) (now : List A) → Type 0
    Set i now = now ≡ replicate i z ++ drop i old

    pub set-more : (i : ℕ) (now : List A) → Set i now → i < length old → Set (i + 1) (set now i z)
    set-more i now w h =
        ap (λ (l : List A). set l i z) (w ∙ ap (λ (l : List A). replicate i z ++ l) (drop-cons old i z h))
        ∙ set_at (replicate i z) (get_or old i z) (drop (suc i) old) z i (length-replicate i z)
        ∙ replicate_more i (drop (suc i) old)
        ∙ rw add-one

    pub set-all : (i : ℕ) (now : List A) → Set i now → length old ≤ i → i ≤ length old → now ≡ replicate (length old) z
    set-all i now w h k =
        let e : i ≡ length old = omega arith in
        w ∙ ap (λ (l : List A). replicate i z ++ l) (drop_of_length-le old h) ∙ append-nil (replicate i z) ∙ ap (λ (n : ℕ). replicate n z) e

  -- the part from an index on, all of it set
  pub cleared :
      (old : List A) (from : ℕ) (part : List A) (n : ℕ) → n ≡ length old - from → part ≡ replicate n z →
      put_mid from (length old - from) old part ≡ take from old ++ replicate (length old - from) z
  cleared old from part n k e =
      ap (λ (l : List A). take from old ++ (part ++ l)) (drop_of_length-le (drop from old) (omega (arith, length-drop from old)))
      ∙ ap (λ (l : List A). take from old ++ l) (append-nil part ∙ e ∙ ap (λ (m : ℕ). replicate m z) k)

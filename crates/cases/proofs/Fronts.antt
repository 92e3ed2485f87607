-- The front of a slice, once all that is given stands there.
use Rattle.std.proofs.Common.{◌≡◌, ◌≤◌, ◌<◌, ◌+◌, ℕ, List, ◌++◌, refl, sym, ap, ◌∙◌, length, take, drop, take-append-drop, length-take-le, set, arith, drop-set-lt, drop-drop}

module _ {A : Type 0} (out given : List A) (n : ℕ) (front : given ≡ take n out) where
  pub given-count : n ≤ length out → n ≡ length given
  given-count few = sym (ap length front ∙ length-take-le n out few)

  pub given-whole : (old : List A) → drop n out ≡ drop n old → out ≡ given ++ drop n old
  given-whole old behind = sym (take-append-drop n out) ∙ rw (sym front, behind) refl

-- what stands behind an index where something is stored is as it was
pub set-behind : {A : Type 0} (out old : List A) (n : ℕ) (x : A) → drop n out ≡ drop n old → drop (n + 1) (set out n x) ≡ drop (n + 1) old
set-behind out old n x behind =
    let step : n < n + 1 = omega arith in
    drop-set-lt (n + 1) out n x step ∙ sym (drop-drop 1 n out) ∙ ap (drop 1) behind ∙ drop-drop 1 n old

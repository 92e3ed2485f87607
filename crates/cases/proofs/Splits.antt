-- The first byte that ends a part of a text.
use Rattle.std.proofs.Common.{◌≡◌, ◌≤◌, ◌+◌, ◌<◌, ℕ, suc, ◌-◌, ◌∷◌, refl, ap, ◌∙◌, length, take, drop, take_all, length-drop, get_or, arith, drop-cons, drop_of_length-le}
use Rattle.std.proofs.lemmas.Bool.{le-leb, lt-leb}
use Rattle.model.specs.Bytes.{Text}
use Rattle.cases.specs.Given.{first}

-- a byte, and what stands behind it
pub byte_front : (text : Text) (i : ℕ) → i < length text → drop i text ≡ get_or text i 0 ∷ drop (i + 1) text
byte_front text i l =
    let next : suc i ≡ i + 1 = omega arith in
    drop-cons text i 0 l ∙ ap (λ (k : ℕ). get_or text i 0 ∷ drop k text) next

-- the byte at an index ends a part, or none does up to there
module _ (last : ℕ) (text : Text) (i : ℕ) (passed : first last text ≡ i + first last (drop i text)) where
  pub first-stop : i < length text → get_or text i 0 ≤ last → first last text ≡ i
  unfolding first
  first-stop l stops = passed ∙ rw (byte_front text i l, le-leb (get_or text i 0) last stops) (let e : i + 0 ≡ i = omega arith in e)

  pub first-more : i < length text → last < get_or text i 0 → first last text ≡ i + 1 + first last (drop (i + 1) text)
  unfolding first
  first-more l above =
      let sum : i + suc (first last (drop (i + 1) text)) ≡ i + 1 + first last (drop (i + 1) text) = omega arith in
      passed ∙ rw (byte_front text i l, lt-leb (get_or text i 0) last above) sum

  pub first-end : length text ≡ i → first last text ≡ length text
  unfolding first
  first-end e =
      let le : length text ≤ i = omega (arith, e) in
      let sum : i + 0 ≡ length text = omega (arith, e) in
      passed ∙ rw (drop_of_length-le text le) sum

-- the parts before and behind an index where a part ends
pub parted :
    (last : ℕ) (text : Text) (i : ℕ) → i < length text → first last text ≡ i →
    (first last text < length text) × (take i text ≡ take (first last text) text)
    × (take (length text - (i + 1)) (drop (i + 1) text) ≡ drop (first last text + 1) text)
parted last text i l e =
    let few : length (drop (i + 1) text) ≤ length text - (i + 1) = omega (arith, length-drop (i + 1) text) in
    (omega (arith, e, l), rw e refl, rw e (take_all _ (drop (i + 1) text) few))

-- The bytes of a line, read one after another.
use Rattle.std.proofs.Common.{◌≡◌, ◌<◌, ◌≤◌, ◌+◌, ◌-◌, ℕ, zero, suc, Bool, true, false, List, [], ◌∷◌, ◌++◌, refl, ◌∙◌, append_assoc, append-nil, length, take, drop, set, get_or, arith, drop_of_length-le}
use Rattle.std.proofs.lemmas.Bool.{ne_eqb}
use Rattle.std.proofs.lemmas.List.{take_more_set}
use Rattle.cases.specs.Given.{meant, line_bytes}
use Rattle.cases.proofs.Splits.{byte_front}

module _
    (whole out : List ℕ) (room n : ℕ) (escaped : Bool) (text : List ℕ) (i : ℕ)
    (so : whole ≡ take n out ++ take (room - n) (line_bytes escaped (drop i text)))
  where
    -- nothing is left, or there is no room
    pub line_done : length text ≡ i → whole ≡ take n out
    unfolding line_bytes
    line_done e = let le : length text ≤ i = omega (arith, e) in so ∙ rw (drop_of_length-le text le) (nothing (room - n))
      where
        nothing : (m : ℕ) → take n out ++ take m (line_bytes escaped []) ≡ take n out
        nothing m = none m ∙ append-nil (take n out)
          where
            none : (m : ℕ) → take n out ++ take m [] ≡ take n out ++ []
            none zero = refl
            none (suc m) = refl

    pub line_full : room ≤ n → whole ≡ take n out
    line_full e = let none : room - n ≡ 0 = omega (arith, e) in so ∙ rw none (append-nil (take n out))

    module _ (l : i < length text) where
      -- a line feed ends the line
      pub line_stops : get_or text i 0 ≡ 10 → whole ≡ take n out
      unfolding line_bytes
      line_stops is = so ∙ rw (byte_front text i l, is) (nothing (room - n))
        where
          nothing : (m : ℕ) → take n out ++ take m [] ≡ take n out
          nothing zero = append-nil (take n out)
          nothing (suc m) = append-nil (take n out)

      -- a backslash
      pub line_escapes : get_or text i 0 ≡ 92 → whole ≡ take n out ++ take (room - n) (line_bytes true (drop (i + 1) text))
      unfolding line_bytes
      line_escapes is = so ∙ rw (byte_front text i l, is) refl

      -- another byte
      pub line_more :
          n < room → n < length out → (x : ℕ) →
          (get_or text i 0 ≡ 10 → ⊥) →
          (get_or text i 0 ≡ 92 → ⊥) →
          x ≡ meant escaped (get_or text i 0) →
          whole ≡ take (n + 1) (set out n x) ++ take (room - (n + 1)) (line_bytes false (drop (i + 1) text))
      unfolding line_bytes
      line_more few within x feed slash is =
          let b = get_or text i 0 in
          let more : room - n ≡ suc (room - (n + 1)) = omega (arith, few) in
          so ∙ rw (
            byte_front text i l,
            ne_eqb b 10 feed,
            ne_eqb b 92 slash,
            more,
            is,
            take_more_set out n (meant escaped b) within,
            append_assoc (take n out) (meant escaped b ∷ []) (take (room - (n + 1)) (line_bytes false (drop (i + 1) text))),
          ) refl

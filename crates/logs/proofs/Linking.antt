-- Links of one kind behind those of another: both parts are zeros at first, and once they are filled each stands in its place.
use Prim.Native.Nat.{ℕ, zero, suc, ◌+◌, ◌-◌, ◌≤◌}
use native.Mathlib.Nat.{zero-add, suc-add}
use native.Mathlib.Omega.{arith}
use mathlib.Core.Path.{◌≡◌, refl, sym, ap, ◌∙◌, subst}
use mathlib.Core.List.{List, ◌∷◌, ◌++◌, append-nil}
use lib.ListN.{length, take, drop, replicate, length-replicate, length-append, length-drop, drop_of_length-le, get_or-append}
use lib.Seq.{take_at, drop_at, drop-drop, take_all, length-take-le}
use Rattle.chains.specs.Chain.{Chained}
use Rattle.logs.specs.Links.{behind}

-- a part of zeros is zeros
take-zeros : (n m : ℕ) → take n (replicate {A = ℕ} (n + m) 0) ≡ replicate n 0
take-zeros zero m = refl
take-zeros (suc n) m =
    ap (λ (k : ℕ). take (suc n) (replicate {A = ℕ} k 0)) (suc-add n m) ∙ ap (λ (l : List ℕ). 0 ∷ l) (take-zeros n m)

drop-zeros : (n m : ℕ) → drop n (replicate {A = ℕ} (n + m) 0) ≡ replicate m 0
drop-zeros zero m = ap (λ (k : ℕ). replicate {A = ℕ} k 0) (zero-add m)
drop-zeros (suc n) m = ap (λ (k : ℕ). drop (suc n) (replicate {A = ℕ} k 0)) (suc-add n m) ∙ drop-zeros n m

-- chained links stay chained with others behind them
front-chained : {key : ℕ → ℕ} {keys rows : ℕ} (l m : List ℕ) → Chained key keys rows l → Chained key keys rows (l ++ m)
front-chained {key} {keys} {rows} l m c =
    record {
      within = omega (arith, length-append l m, c.within);
      heads = λ k h. get_or-append l m 0 k (omega (arith, c.within)) ∙ c.heads k h;
      nexts = λ r h. get_or-append l m 0 (keys + r) (omega (arith, c.within)) ∙ c.nexts r h;
    }

-- what is behind a part that is behind another
pub behind-behind : (n m : ℕ) (links : List ℕ) → behind m (behind n links) ≡ behind (n + m) links
unfolding behind
behind-behind n m links = drop-drop m n links

module _ (n m : ℕ) (links : List ℕ) (e : links ≡ replicate {A = ℕ} (n + m) 0) where
  pub first-zeros : take n links ≡ replicate n 0
  first-zeros = ap (take n) e ∙ take-zeros n m

  pub first-long : n ≤ length links
  first-long = omega (arith, ap length e ∙ length-replicate {A = ℕ} (n + m) 0)

  pub first-length : length (take n links) ≡ n
  first-length = length-take-le n links first-long

  -- the first part was filled
  module _ (part : List ℕ) (long : length part ≡ n) where
    abbrev halfway : List ℕ
    halfway = part ++ drop n links

    second : drop n halfway ≡ drop n links
    second = drop_at part (drop n links) n long

    pub second-zeros : take (length halfway - n) (drop n halfway) ≡ replicate m 0
    second-zeros =
        ap (take (length halfway - n)) second
        ∙ take_all (length halfway - n) (drop n links) (omega (arith, length-append part (drop n links), long))
        ∙ ap (drop n) e
        ∙ drop-zeros n m

    pub second-long : n ≤ length halfway
    second-long = omega (arith, length-append part (drop n links), long)

    -- and the second
    module _ (other : List ℕ) where
      abbrev filled : List ℕ
      filled = take n halfway ++ (other ++ drop (length halfway - n) (drop n halfway))

      front : take n halfway ≡ part
      front = take_at part (drop n links) n long

      pub first-chained : {key : ℕ → ℕ} {keys rows : ℕ} → Chained key keys rows part → Chained key keys rows filled
      first-chained {key} {keys} {rows} c =
          front-chained (take n halfway) (other ++ drop (length halfway - n) (drop n halfway))
          (subst (Chained key keys rows) (sym front) c)

      pub second-stands : behind n filled ≡ other
      unfolding behind
      second-stands =
          drop_at (take n halfway) (other ++ drop (length halfway - n) (drop n halfway)) n (ap length front ∙ long)
          ∙ ap (λ (l : List ℕ). other ++ l) (drop_of_length-le (drop n halfway) {i = length halfway - n} (omega (arith, length-drop n halfway)))
          ∙ append-nil other

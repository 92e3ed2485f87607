-- What the words of a term become when numbers are put in: the first word tells a constant from a variable.
use Prim.Native.Nat.{ℕ, ◌+◌, ◌-◌, ◌≤◌, ◌<◌, ◌^◌}
use native.Mathlib.Omega.{arith}
use mathlib.Core.Path.{◌≡◌, refl, ap, sym, ◌∙◌, subst}
use mathlib.Core.Bool.{true, false}
use mathlib.Core.List.{[], ◌∷◌}
use lib.ListN.{length, get_or, set}
use lib.Signed.{mag}
use mir.Syntax.{w32}
use mir.Val.{SFits}
use lib.IntN.{ℤ, pos, nat_abs}
use Rattle.model.specs.Words.{Words, word, value, equal}
use Rattle.model.specs.Tree.{Term, constant, variable, encode_term}
use Rattle.model.specs.Putting.{put_term}
use Rattle.laws.specs.Words.Standing.{Stands, two-stand}
use Rattle.laws.specs.Words.Tests.{clash}
use Rattle.laws.specs.Putting.Parts.{put-outer, put-inner}
use Rattle.words.specs.Laying.{laid}
use Rattle.words.proofs.LayingLaws.{laid-two}

-- the two words of a term, stored
pub stored :
    (old : Words) (to : ℕ) (x y z : ℤ) (part : Words) →
    to + 2 ≤ length old →
    y ≡ z →
    x ∷ z ∷ [] ≡ part →
    set (set old to x) (to + 1) y ≡ laid old to part
stored old to x y z part h e f =
    laid-two old to (to + 1) x y refl h ∙ ap (λ (w : ℤ). laid old to (x ∷ w ∷ [])) e ∙ ap (laid old to) f

module _ (ρ words : Words) (from : ℕ) where
  abbrev Here : Term → Type 0
  Here t = Stands words from (encode_term t) (from + 2)

  -- a constant keeps its words
  pub term-constant :
      (t : Term) → Here t → equal (word words from) (pos 0) ≡ true → pos 0 ∷ word words (from + 1) ∷ [] ≡ encode_term (put_term ρ t)
  unfolding encode_term put_term equal
  term-constant (constant k) s e = ap (λ (z : ℤ). pos 0 ∷ z ∷ []) (two-stand words _ _ _ s).1
  term-constant (variable x) s e = clash e (ap (λ (z : ℤ). equal z (pos 0)) (two-stand words _ _ _ s).0)

  module _ (no : equal (word words from) (pos 0) ≡ false) where
    -- the number of a variable
    term-variable : (t : Term) → Here t → (x : ℕ) × (t ≡ variable x) × (word words (from + 1) ≡ pos x)
    unfolding encode_term equal
    term-variable (constant k) s = clash (ap (λ (z : ℤ). equal z (pos 0)) (two-stand words _ _ _ s).0) no
    term-variable (variable x) s = (x, refl, (two-stand words _ _ _ s).1)

    term-word : (t : Term) → Here t → word words (from + 1) ≡ pos (value words (from + 1))
    unfolding value
    term-word t s = let (x, e, w) = term-variable t s in w ∙ ap (λ (z : ℤ). pos (nat_abs z)) (sym w)

    -- a greater variable lowered is a word, as the variable is
    pub term-fits :
        (t : Term) → Here t → SFits w32 (word words (from + 1)) →
        (x : ℕ) → x ≡ value words (from + 1) → SFits w32 (pos (x - length ρ))
    term-fits t s f x e =
        let small : value words (from + 1) < 2 ^ 31 = subst (λ (z : ℤ). mag z < 2 ^ 31) (term-word t s) f.sfits in
        record { sfits = omega (arith, e) }

    -- an outer variable becomes its number
    pub term-outer :
        (t : Term) →
        Here t →
        value words (from + 1) < length ρ →
        pos 0 ∷ get_or ρ (value words (from + 1)) (pos 0) ∷ [] ≡ encode_term (put_term ρ t)
    unfolding encode_term value
    term-outer t s h =
        let (x, e, w) = term-variable t s in
        let same : value words (from + 1) ≡ x = ap nat_abs w in
        sym
        (ap (λ (u : Term). encode_term (put_term ρ u)) (e ∙ ap variable (sym same))
        ∙ ap encode_term (put-outer ρ (value words (from + 1)) h))

    -- a greater one falls
    pub term-inner :
        (t : Term) →
        Here t →
        length ρ ≤ value words (from + 1) →
        pos 1 ∷ pos (value words (from + 1) - length ρ) ∷ [] ≡ encode_term (put_term ρ t)
    unfolding encode_term value
    term-inner t s h =
        let (x, e, w) = term-variable t s in
        let same : value words (from + 1) ≡ x = ap nat_abs w in
        sym
        (ap (λ (u : Term). encode_term (put_term ρ u)) (e ∙ ap variable (sym same))
        ∙ ap encode_term (put-inner ρ (value words (from + 1)) h))

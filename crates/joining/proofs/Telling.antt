-- What the answer of a walk tells of its residual.
use Prim.Native.Nat.{ℕ, ◌≤◌, ◌<◌}
use native.Mathlib.Omega.{arith}
use mathlib.Core.Path.{◌≡◌, refl, sym, ap, ◌∙◌, subst}
use mathlib.Core.Logic.{◌⊎◌, inl, inr, ⊎_elim}
use mathlib.Core.Bool.{Bool, true, false, cond}
use lib.ListN.{length}
use lib.Dec.{leb, ltb}
use borrow.Author.Tests.{leb-true, leb-false, lt-leb, le-leb}
use Rattle.model.specs.Tree.{Tree, plain, atom, compare, join, quantifier, some, encode}
use Rattle.joining.specs.declared.answer.Reduced.{Reduced}
use Rattle.joining.specs.declared.answer.Reduced.TheVariants.{Short, Plain, Long, Part}
use Rattle.joining.specs.Answer.{fitted, settled, told}
use Rattle.joining.proofs.Parts.{Solid}

-- what each answer means
abbrev pub Means : (r : Reduced) (room : ℕ) (t : Tree) → Type 0
Means Short room t = ⊥
Means (Plain a) room t = t ≡ plain a
Means Long room t = Solid t × (room < length (encode t))
Means (Part k) room t = Solid t × (k ≡ length (encode t)) × (k ≤ room)

-- a tree that is not plain, in the room there is
fitted_means : (room : ℕ) (t : Tree) → Solid t → Means (fitted room (length (encode t))) room t
unfolding fitted
fitted_means room t h = go (leb (length (encode t)) room) refl
  where
    go : (x : Bool) → leb (length (encode t)) room ≡ x → Means (cond x (Part (length (encode t))) Long) room t
    go true e = (h, refl, leb-true _ _ e)
    go false e = (h, leb-false _ _ e)

settled_means : (room : ℕ) (t : Tree) → Means (settled room t) room t
unfolding settled Solid
settled_means room (plain b) = refl
settled_means room (atom b p ts) = fitted_means room (atom b p ts) tt
settled_means room (compare b d x y) = fitted_means room (compare b d x y) tt
settled_means room (join b ts) = fitted_means room (join b ts) tt
settled_means room (quantifier b v excluded c f) = fitted_means room (quantifier b v excluded c f) tt
settled_means room (some c) = fitted_means room (some c) tt

-- an answer is short exactly if the places don't do
pub told_means :
    (answer : Reduced) (places n room : ℕ) (t : Tree) →
    answer ≡ told places n room t →
    ((ltb places n ≡ true) × (answer ≡ Short)) ⊎ ((ltb places n ≡ false) × Means answer room t)
unfolding told
told_means answer places n room t = go (ltb places n) refl
  where
    go :
        (x : Bool) →
        ltb places n ≡ x →
        answer ≡ cond x Short (settled room t) →
        ((ltb places n ≡ true) × (answer ≡ Short)) ⊎ ((ltb places n ≡ false) × Means answer room t)
    go true p q = inl (p, q)
    go false p q = inr (p, subst (λ (r : Reduced). Means r room t) (sym q) (settled_means room t))

module _ (places n room : ℕ) (t : Tree) where
  pub told-short : Short ≡ told places n room t → ltb places n ≡ true
  told-short e = ⊎_elim (λ w. w.0) (λ w. absurd w.1) (told_means Short places n room t e)

  pub told-plain : (a : Bool) → Plain a ≡ told places n room t → (ltb places n ≡ false) × (t ≡ plain a)
  told-plain a e =
      ⊎_elim (λ w. let z : ◌≡◌ {A = ℕ} 0 1 = cc w.1 in absurd (omega arith)) (λ w. w) (told_means (Plain a) places n room t e)

  pub told-long : Long ≡ told places n room t → (ltb places n ≡ false) × (Solid t × (room < length (encode t)))
  told-long e =
      ⊎_elim (λ w. let z : ◌≡◌ {A = ℕ} 0 1 = cc w.1 in absurd (omega arith)) (λ w. w) (told_means Long places n room t e)

  pub told_part :
      (k : ℕ) →
      Part k ≡ told places n room t →
      (ltb places n ≡ false) × (Solid t × (k ≡ length (encode t)) × (k ≤ room))
  told_part k e =
      ⊎_elim (λ w. let z : ◌≡◌ {A = ℕ} 0 1 = cc w.1 in absurd (omega arith)) (λ w. w) (told_means (Part k) places n room t e)

-- the answer that says so
module _ (places need room : ℕ) (t : Tree) where
  pub tell_short : ltb places need ≡ true → Short ≡ told places need room t
  unfolding told
  tell_short e = sym (ap (λ (x : Bool). cond x Short (settled room t)) e)

  pub tell_settled : ltb places need ≡ false → told places need room t ≡ settled room t
  unfolding told
  tell_settled e = ap (λ (x : Bool). cond x Short (settled room t)) e

pub settled_plain : (room : ℕ) (b : Bool) → settled room (plain b) ≡ Plain b
unfolding settled
settled_plain room b = refl

settled-solid : (room : ℕ) (t : Tree) → Solid t → settled room t ≡ fitted room (length (encode t))
unfolding settled Solid
settled-solid room (plain b) h = absurd h
settled-solid room (atom b p ts) h = refl
settled-solid room (compare b d x y) h = refl
settled-solid room (join b ts) h = refl
settled-solid room (quantifier b v excluded c f) h = refl
settled-solid room (some c) h = refl

pub settled-long : (room : ℕ) (t : Tree) → Solid t → room < length (encode t) → settled room t ≡ Long
unfolding fitted
settled-long room t s h =
    settled-solid room t s ∙ ap (λ (x : Bool). cond x (Part (length (encode t))) Long) (lt-leb (length (encode t)) room h)

pub settled-part : (room : ℕ) (t : Tree) → Solid t → length (encode t) ≤ room → settled room t ≡ Part (length (encode t))
unfolding fitted
settled-part room t s h =
    settled-solid room t s ∙ ap (λ (x : Bool). cond x (Part (length (encode t))) Long) (le-leb (length (encode t)) room h)

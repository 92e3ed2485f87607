-- One quantifier, in a structure that extends the log: a tuple is an instance, or excluded, or stands in the last part; so what the
-- quantifier says of all tuples, or of some, is what the instances and the last part say. The induction on the tree stands in proofs/.
use Rattle.std.specs.Prelude.{ℕ, ◌+◌, ◌≡◌, ◌⊎◌, ◌↔◌, Bool, true, false, length, ℤ}
use Rattle.std.proofs.Common.{sym, ap, ◌∙◌, length-append}
use Rattle.std.proofs.Math.Path.{refl}
use Rattle.std.proofs.Math.Logic.{inl, inr, ⊎_elim}
use mathlib.Core.List.{List, [], ◌++◌, Memᴰ}
use Rattle.model.specs.Words.{member}
use Rattle.model.specs.Tree.{Tree}
use Rattle.model.specs.Truth.{Structure, Is}
use Rattle.model.specs.Putting.{put}
use Rattle.laws.specs.Words.Tests.{clash, member-true, mem_member, member-append, or_left, or_false_left}
use Rattle.laws.specs.Truth.{EachTuple, SomeTuple, consistent}
use Rattle.laws.specs.Putting.Parts.{is-put}

-- one quantifier: its restriction c is exact and, where it is closed, decided at every tuple, and what it is in the log it is in
-- the structure; `found` are its instances, `g τ` says in the structure what the body f says at the tuple τ
module _ (log s : Structure)
    (v : ℕ) (excluded found : List (List ℤ)) (c f : Tree) (ρ : List ℤ) (shut : Bool)
    (exact : (τ : List ℤ) → length τ ≡ v → Memᴰ τ found ↔ ((member τ excluded ≡ false) × Is c log true (ρ ++ τ)))
    (lengths : (τ : List ℤ) → Memᴰ τ found → length τ ≡ v)
    (decided : shut ≡ true → (τ : List ℤ) → length τ ≡ v → Is c log true (ρ ++ τ) ⊎ Is c log false (ρ ++ τ))
    (grows : (t : Bool) (τ : List ℤ) → Is c log t (ρ ++ τ) → Is c s t (ρ ++ τ))
    (truth : Bool) (g : List ℤ → Tree)
    (body : (τ : List ℤ) → length τ ≡ v → Is (g τ) s truth [] ↔ Is f s truth (ρ ++ τ)) where
  -- a tuple that is not excluded and no instance is not found
  absent : (τ : List ℤ) → member τ excluded ≡ false → member τ found ≡ false → member τ (excluded ++ found) ≡ false
  absent τ p q = member-append τ excluded found ∙ rw p q

  -- each tuple, from the parts
  pub each_from :
      ((τ : List ℤ) → Memᴰ τ found → Is (g τ) s truth []) →
      (shut ≡ false → EachTuple v (excluded ++ found) (λ τ. Is (put c ρ) s false τ) (λ τ. Is (put f ρ) s truth τ)) →
      EachTuple v excluded (λ τ. Is c s false (ρ ++ τ)) (λ τ. Is f s truth (ρ ++ τ))
  each_from worked left τ e = go (member τ excluded) refl (member τ found) refl shut refl
    where
      go :
          (x : Bool) → member τ excluded ≡ x → (y : Bool) → member τ found ≡ y → (z : Bool) → shut ≡ z →
          (member τ excluded ≡ true) ⊎ Is c s false (ρ ++ τ) ⊎ Is f s truth (ρ ++ τ)
      go true p y q z r = inl p
      go false p true q z r = inr (inr ((body τ e).0 (worked τ (member-true τ found q))))
      go false p false q false r =
          ⊎_elim
          (λ m. clash m (absent τ p q))
          (⊎_elim (λ a. inr (inl ((is-put c s false ρ τ).0 a))) (λ a. inr (inr ((is-put f s truth ρ τ).0 a))))
          (left r τ e)
      go false p false q true r =
          ⊎_elim
          (λ a. clash (mem_member ((exact τ e).1 (p, a))) q)
          (λ a. inr (inl (grows false τ a)))
          (decided r τ e)

  -- the instances, and the last part, from each tuple
  pub each_worked :
      EachTuple v excluded (λ τ. Is c s false (ρ ++ τ)) (λ τ. Is f s truth (ρ ++ τ)) →
      (τ : List ℤ) → Memᴰ τ found → Is (g τ) s truth []
  each_worked h τ m =
      let e = lengths τ m in
      let k = (exact τ e).0 m in
      (body τ e).1
      (⊎_elim
      (λ x. clash x k.0)
      (⊎_elim (λ x. absurd (consistent s c (ρ ++ τ) (grows true τ k.1) x)) (λ x. x))
      (h τ e))

  pub each_left :
      EachTuple v excluded (λ τ. Is c s false (ρ ++ τ)) (λ τ. Is f s truth (ρ ++ τ)) →
      EachTuple v (excluded ++ found) (λ τ. Is (put c ρ) s false τ) (λ τ. Is (put f ρ) s truth τ)
  each_left h τ e =
      ⊎_elim
      (λ x. inl (member-append τ excluded found ∙ or_left _ _ x))
      (⊎_elim (λ x. inr (inl ((is-put c s false ρ τ).1 x))) (λ x. inr (inr ((is-put f s truth ρ τ).1 x))))
      (h τ e)

  -- some tuple, from a part, and a part from some tuple
  pub some_worked : (τ : List ℤ) → Memᴰ τ found → Is (g τ) s truth [] → SomeTuple v excluded (λ τ. Is c s true (ρ ++ τ)) (λ τ. Is f s truth (ρ ++ τ))
  some_worked τ m h =
      let e = lengths τ m in
      let k = (exact τ e).0 m in
      (τ, e, k.0, grows true τ k.1, (body τ e).0 h)

  pub some_left :
      SomeTuple v (excluded ++ found) (λ τ. Is (put c ρ) s true τ) (λ τ. Is (put f ρ) s truth τ) →
      SomeTuple v excluded (λ τ. Is c s true (ρ ++ τ)) (λ τ. Is f s truth (ρ ++ τ))
  some_left h = (
    h.0,
    h.1,
    or_false_left _ (member h.0 found) (sym (member-append h.0 excluded found) ∙ h.2),
    (is-put c s true ρ h.0).0 h.3,
    (is-put f s truth ρ h.0).0 h.4,
  )

  pub some_to :
      SomeTuple v excluded (λ τ. Is c s true (ρ ++ τ)) (λ τ. Is f s truth (ρ ++ τ)) →
      ((τ : List ℤ) × Memᴰ τ found × Is (g τ) s truth [])
      ⊎ ((shut ≡ false) × SomeTuple v (excluded ++ found) (λ τ. Is (put c ρ) s true τ) (λ τ. Is (put f ρ) s truth τ))
  some_to h = go (member h.0 found) refl shut refl
    where
      τ : List ℤ
      τ = h.0

      go :
          (y : Bool) → member τ found ≡ y → (z : Bool) → shut ≡ z →
          ((τ : List ℤ) × Memᴰ τ found × Is (g τ) s truth [])
          ⊎ ((shut ≡ false) × SomeTuple v (excluded ++ found) (λ τ. Is (put c ρ) s true τ) (λ τ. Is (put f ρ) s truth τ))
      go true q z r = inl (τ, member-true τ found q, (body τ h.1).1 h.4)
      go false q false r =
          inr (r, (τ, h.1, absent τ h.2 q, (is-put c s true ρ τ).1 h.3, (is-put f s truth ρ τ).1 h.4))
      go false q true r =
          ⊎_elim
          (λ a. clash (mem_member ((exact τ h.1).1 (h.2, a))) q)
          (λ a. absurd (consistent s c (ρ ++ τ) h.3 (grows false τ a)))
          (decided r τ h.1)

pub length_more : (ρ τ : List ℤ) {v : ℕ} → length τ ≡ v → length (ρ ++ τ) ≡ length ρ + v
length_more ρ τ e = length-append ρ τ ∙ ap (λ (n : ℕ). length ρ + n) e

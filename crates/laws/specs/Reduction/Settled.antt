-- What a reduction leaves outside quantifiers is settled: an atom stays only where its value is unknown, and a quantifier whose
-- instances are excluded has no other. The induction on the policy's tree stands in proofs/.
use Rattle.std.specs.Prelude.{ℕ, ◌≡◌, Bool, false, length, ℤ}
use Rattle.std.proofs.Math.Path.{refl, sym}
use Rattle.std.proofs.Common.{◌∙◌}
use Rattle.std.proofs.Math.Bool.{true}
use mathlib.Core.List.{List, [], ◌++◌, map, append-nil, Memᴰ}
use Rattle.model.specs.Words.{same, member}
use Rattle.model.specs.Log.{Value, known, unknown}
use Rattle.model.specs.Tree.{Term, Tree, Trees, plain, atom, quantifier, nil, cons}
use Rattle.model.specs.Truth.{Structure, Is, number_of}
use Rattle.model.specs.Putting.{put}
use Rattle.model.specs.Joining.{joined}
use Rattle.model.specs.Reduction.{settle}
use Rattle.model.specs.Runs.{Open, Settled, SettledAll}
use Rattle.laws.specs.Words.Tests.{clash, mem_member, member-append, or_false_left, or_false_right}
use Rattle.laws.specs.Log.{unknown-known}
use Rattle.laws.specs.Putting.Parts.{is-put}
use Rattle.laws.specs.Joining.{All, joined_has}

module _ (s : Structure) where
  all_settled : (ts : Trees) → All (λ t. Settled t s) ts → SettledAll ts s
  unfolding Settled
  all_settled nil h = tt
  all_settled (cons t ts) h = (h.0, all_settled ts h.1)

  settled-all : (ts : Trees) → SettledAll ts s → All (λ t. Settled t s) ts
  unfolding Settled
  settled-all nil h = tt
  settled-all (cons t ts) h = (h.0, settled-all ts h.1)

  pub joined-settled : (b : Bool) (ts : Trees) → All (λ t. Settled t s) ts → Settled (joined b ts) s
  unfolding Settled
  joined-settled b = joined_has (λ t. Settled t s) b (λ a. tt) settled-all (λ t u ts h. all_settled (cons t (cons u ts)) h)

  known-put :
      (b : Bool) (p : ℕ) (ts : List Term) (ρ : List ℤ) (truth : Bool) →
      Is (put (atom b p ts) ρ) s truth [] →
      s p (map (number_of ρ) ts) ≡ known (same truth b)
  unfolding Is
  known-put b p ts ρ truth h = rw append-nil at ((is-put (atom b p ts) s truth ρ []).0 h)

  pub plain-settled : (b : Bool) → Settled (plain b) s
  unfolding Settled
  plain-settled b = tt

  -- a quantifier whose instances are excluded
  pub last-settled :
      (b : Bool) (v : ℕ) (excluded found : List (List ℤ)) (c f : Tree) (ρ : List ℤ) →
      ((τ : List ℤ) → length τ ≡ v → member τ excluded ≡ false → Is c s true (ρ ++ τ) → Memᴰ τ found) →
      Settled (quantifier b v (excluded ++ found) (put c ρ) (put f ρ)) s
  unfolding Settled
  last-settled b v excluded found c f ρ exact = λ τ e n i.
      let k = sym (member-append τ excluded found) ∙ n in
      clash
      (mem_member (exact τ e (or_false_left _ (member τ found) k) ((is-put c s true ρ τ).0 i)))
      (or_false_right (member τ excluded) _ k)

  -- an atom is plain, or unknown
  pub settle-settled : (b : Bool) (p : ℕ) (ts : List Term) (ρ : List ℤ) → Settled (settle (s p (map (number_of ρ) ts)) b (put (atom b p ts) ρ)) s
  unfolding settle Settled Open put
  settle-settled b p ts ρ = go (s p (map (number_of ρ) ts)) refl
    where
      go : (x : Value) → s p (map (number_of ρ) ts) ≡ x → Settled (settle x b (put (atom b p ts) ρ)) s
      go (known a) e = tt
      go unknown e = λ truth h. unknown-known (sym e ∙ known-put b p ts ρ truth h)

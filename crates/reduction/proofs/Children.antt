-- The residuals of children, as a join takes them in one after another: they are wide; and with one child more, or one
-- instance more, the residuals have one tree more, and the greatest need is that or the child's.
use Prim.Native.Nat.{ℕ, max}
use native.Mathlib.Omega.{arith}
use mathlib.Core.Path.{◌≡◌, refl, ap}
use mathlib.Core.Bool.{Bool}
use mathlib.Core.List.{List, [], ◌∷◌, ◌++◌, map}
use lib.IntN.{ℤ}
use Rattle.model.specs.Words.{Words}
use Rattle.model.specs.Log.{Value, known, unknown, value_in}
use Rattle.model.specs.Tree.{Term, Tree, Trees, plain, atom, compare, join, quantifier, some, nil, cons}
use Rattle.model.specs.Truth.{number_of}
use Rattle.model.specs.Putting.{put}
use Rattle.model.specs.Joining.{append}
use Rattle.model.specs.Reduction.{settle, closed, each, most, instances, reduce, reduce_all, need, need_all}
use Rattle.laws.specs.Joining.{All, result-all}
use Rattle.joining.specs.Join.{Wide}
use Rattle.joining.proofs.Parts.{joined-wide}

settle-wide : (v : Value) (b : Bool) (p : ℕ) (ts : List Term) (ρ : List ℤ) → Wide (settle v b (put (atom b p ts) ρ))
unfolding settle put Wide
settle-wide (known a) b p ts ρ = tt
settle-wide unknown b p ts ρ = tt

-- one instance more
pub each_more : (g : List ℤ → Tree) (τs : List (List ℤ)) (τ : List ℤ) → each g (τs ++ (τ ∷ [])) ≡ append (each g τs) (cons (g τ) nil)
unfolding each append
each_more g [] τ = refl
each_more g (σ ∷ τs) τ = ap (cons (g σ)) (each_more g τs τ)

pub most-more : (f : List ℤ → ℕ) (τs : List (List ℤ)) (τ : List ℤ) → most f (τs ++ (τ ∷ [])) ≡ max (most f τs) (f τ)
unfolding most
most-more f [] τ = omega arith
most-more f (σ ∷ τs) τ = omega (arith, most-more f τs τ)

module _ (table : Words) (rows : List Words) where
  mutual
    unfolding reduce Wide put

    pub reduce-wide : (f : Tree) (ρ : List ℤ) → Wide (reduce table rows f ρ)
    reduce-wide (plain b) ρ = tt
    reduce-wide (atom b p ts) ρ = settle-wide (value_in table rows p (map (number_of ρ) ts)) b p ts ρ
    reduce-wide (compare b d x y) ρ = tt
    reduce-wide (join b ts) ρ = joined-wide b (reduce_all table rows ts ρ) (reduce_all-wide ts ρ)
    reduce-wide (quantifier b v excluded c f) ρ =
        let found = instances table rows v excluded c ρ in
        let last = quantifier b v (excluded ++ found) (put c ρ) (put f ρ) in
        joined-wide b _
        (result-all Wide (λ τ. reduce table rows f (ρ ++ τ)) found (closed c table) last (λ τ m. reduce-wide f (ρ ++ τ)) tt)
    reduce-wide (some c) ρ = tt

    pub reduce_all-wide : (ts : Trees) (ρ : List ℤ) → All Wide (reduce_all table rows ts ρ)
    reduce_all-wide nil ρ = tt
    reduce_all-wide (cons t ts) ρ = (reduce-wide t ρ, reduce_all-wide ts ρ)

  -- one child more
  pub reduce_all-more :
      (ts : Trees) (t : Tree) (ρ : List ℤ) →
      reduce_all table rows (append ts (cons t nil)) ρ ≡ append (reduce_all table rows ts ρ) (cons (reduce table rows t ρ) nil)
  unfolding reduce append
  reduce_all-more nil t ρ = refl
  reduce_all-more (cons u ts) t ρ = ap (cons (reduce table rows u ρ)) (reduce_all-more ts t ρ)

  pub need_all-more :
      (ts : Trees) (t : Tree) (ρ : List ℤ) →
      need_all table rows (append ts (cons t nil)) ρ ≡ max (need_all table rows ts ρ) (need table rows t ρ)
  unfolding need append
  need_all-more nil t ρ = omega arith
  need_all-more (cons u ts) t ρ = omega (arith, need_all-more ts t ρ)

-- After a reduction nothing is left outside quantifiers that the log decides, and no instance that it shows.
-- By induction on the policy's tree: each tuple at which a restriction is true is excluded or an instance.
use Rattle.std.specs.Prelude.{ℕ, length, ℤ}
use Rattle.std.proofs.Math.Path.{sym}
use Rattle.std.proofs.Common.{subst, true≢false}
use Rattle.std.proofs.Math.Bool.{true}
use mathlib.Core.List.{List, ◌++◌}
use Rattle.model.specs.Words.{Words}
use Rattle.model.specs.Log.{value_in}
use Rattle.model.specs.Tree.{Tree, Trees, plain, atom, compare, join, quantifier, some, nil, cons}
use Rattle.model.specs.Reduction.{closed, instances, reduce, reduce_all}
use Rattle.model.specs.Runs.{Settled}
use Rattle.laws.specs.Mode.{Moded, ModedAll}
use Rattle.laws.specs.Reading.Formed.{Formed, FormedAll}
use Rattle.laws.specs.Log.{Sound}
use Rattle.laws.specs.Joining.{All, result-all}
use Rattle.laws.specs.Reduction.Instances.{instances-length}
use Rattle.laws.specs.Reduction.Truth.{length_more}
use Rattle.laws.specs.Reduction.Settled.{joined-settled, plain-settled, last-settled, settle-settled}
use Rattle.laws.proofs.Reduction.Instances.{instances-passes}

module _ (table : Words) (rows : List Words) (sound : Sound table rows) where
  mutual
    unfolding reduce Formed Moded

    pub reduce-settled :
        (f : Tree) (ρ : List ℤ) →
        Formed f table true (length ρ) →
        Moded table f (length ρ) →
        Settled (reduce table rows f ρ) (value_in table rows)
    reduce-settled (plain b) ρ h m = plain-settled (value_in table rows) b
    reduce-settled (atom b p ts) ρ h m = settle-settled (value_in table rows) b p ts ρ
    reduce-settled (compare b d x y) ρ h m = plain-settled (value_in table rows) _
    reduce-settled (join b ts) ρ h m = joined-settled (value_in table rows) b _ (reduce-settled-all ts ρ h.1 m)
    reduce-settled (quantifier b v excluded c f) ρ h m =
        let exact = instances-passes table rows v excluded c ρ sound h.5 m.0 m.1 in
        joined-settled (value_in table rows) b _
        (result-all (λ t. Settled t (value_in table rows)) (λ τ. reduce table rows f (ρ ++ τ)) (instances table rows v excluded c ρ) (closed c table) _
        (λ τ i.
        let e = length_more ρ τ (instances-length table rows v excluded c ρ i) in
        reduce-settled f (ρ ++ τ)
        (subst (λ (n : ℕ). Formed f table true n) (sym e) h.6)
        (subst (λ (n : ℕ). Moded table f n) (sym e) m.2))
        (last-settled (value_in table rows) b v excluded (instances table rows v excluded c ρ) c f ρ (λ τ e n i. (exact τ e).1 (n, i))))
    reduce-settled (some c) ρ h m = absurd (true≢false h.0)

    reduce-settled-all :
        (ts : Trees) (ρ : List ℤ) →
        FormedAll ts table true (length ρ) →
        ModedAll table ts (length ρ) →
        All (λ t. Settled t (value_in table rows)) (reduce_all table rows ts ρ)
    reduce-settled-all nil ρ h m = tt
    reduce-settled-all (cons t ts) ρ h m =
        (reduce-settled t ρ h.0 m.0, reduce-settled-all ts ρ h.1 m.1)

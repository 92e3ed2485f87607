-- The instances of a quantifier are exact: the tuples, not excluded, under which its restriction is true.
use Rattle.std.specs.Prelude.{ℕ, ◌+◌, ◌≡◌, ◌↔◌, true, false, ltb, ℤ}
use mathlib.Core.List.{List, ◌++◌, Memᴰ}
use Rattle.std.proofs.Math.ListN.{length}
use Rattle.model.specs.Words.{Words, member}
use Rattle.model.specs.Lists.{span, all}
use Rattle.model.specs.Answer.{passed}
use Rattle.model.specs.Tree.{Tree}
use Rattle.model.specs.Mode.{Variables, bindings}
use Rattle.model.specs.Log.{value_in}
use Rattle.model.specs.Truth.{Is}
use Rattle.model.specs.Reduction.{instances}
use Rattle.laws.specs.Reading.Formed.{Formed}
use Rattle.laws.specs.Log.{Sound}
use Rattle.laws.specs.Mode.{after, Passes, bindings-passes}
use Rattle.laws.specs.Reduction.Instances.{fresh_mem, mem_fresh, tuples-true, true-tuples}

module _ (table : Words) (rows : List Words) where
  module _ (v : ℕ) (excluded : List (List ℤ)) (c : Tree) (ρ : List ℤ) where
    module _
        (sound : Sound table rows)
        (formed : Formed c table false (length ρ + v))
        (passes : Passes table c (λ x. ltb x (length ρ)) (length ρ + v))
        (binds : all (after c (λ x. ltb x (length ρ)) (length ρ + v)) (span (length ρ) v) ≡ true) where
      -- the instances, if the mode rule passes
      pub instances-passes :
          (τ : List ℤ) →
          length τ ≡ v →
          Memᴰ τ (instances table rows v excluded c ρ) ↔ ((member τ excluded ≡ false) × Is c (value_in table rows) true (ρ ++ τ))
      unfolding instances
      instances-passes τ l = (
        λ m. let (n, k) = fresh_mem excluded _ m in (n, tuples-true table rows v excluded c ρ sound formed passes binds k),
        λ w. mem_fresh excluded _ w.0 (true-tuples table rows v excluded c ρ sound formed passes binds τ l w.1),
      )

    -- the instances are the tuples, not excluded, under which the restriction is true
    pub instances_exact :
        (at : ℕ) {b' : Variables} →
        Sound table rows →
        Formed c table false (length ρ + v) →
        bindings c table (λ x. ltb x (length ρ)) (length ρ + v) at ≡ passed b' →
        all b' (span (length ρ) v) ≡ true →
        (τ : List ℤ) →
        length τ ≡ v →
        Memᴰ τ (instances table rows v excluded c ρ) ↔ ((member τ excluded ≡ false) × Is c (value_in table rows) true (ρ ++ τ))
    instances_exact at sound formed e binds =
        let (h, s) = bindings-passes table c (λ x. ltb x (length ρ)) (length ρ + v) at e in
        instances-passes sound formed h (rw s binds)

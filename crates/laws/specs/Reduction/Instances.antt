-- The instances of a quantifier: the tuples, not excluded, under which its restriction is true, each once.
-- By the listing from the outer environment, whose environments bind all the quantifier's variables.
use Rattle.std.specs.Prelude.{ℕ, ◌+◌, ◌<◌, ◌≡◌, ◌⊎◌, true, false, get_or, ltb, ℤ, pos}
use Rattle.std.proofs.Common.{arith, sym, ◌∙◌, subst, inl, inr, ⊎_elim, get_or-append-add, ext_get_or}
use Rattle.std.proofs.Math.Path.{ap}
use mathlib.Core.List.Memᴰ
use mathlib.Core.List.{List, [], ◌∷◌, ◌++◌, map, Memᴰ}
use Rattle.std.proofs.Math.ListN.{length}
use Rattle.model.specs.Words.{Words, equal_all, member}
use Rattle.model.specs.Lists.{span, all}
use Rattle.model.specs.Tree.{Tree}
use Rattle.model.specs.Mode.{Variables}
use Rattle.model.specs.Log.{value_in}
use Rattle.model.specs.Truth.{Is}
use Rattle.model.specs.Listing.{bound, Environment, outer, number_in, list}
use Rattle.model.specs.Reduction.{fresh, tuple, instances}
use Rattle.laws.specs.Words.Tests.{decide, clash, equal_all-true, equal_all-refl}
use Rattle.laws.specs.Lists.Membership.{all_mem, mem_map, map_mem}
use Rattle.laws.specs.Reading.Formed.{Formed}
use Rattle.laws.specs.Lists.Span.{mem_span, or_false_left, or_false_right}
use Rattle.laws.specs.Log.{Sound}
use Rattle.laws.specs.Mode.{after, Passes}
use Rattle.laws.specs.Listing.Fitting.{Agrees}
use Rattle.laws.specs.Listing.Exact.{list-fits}
use Rattle.laws.specs.Listing.Outer.{below-outer, outer-fits, tuple-length, tuple-number, found-true, true-found}

-- the fresh tuples are those of the list that were not seen before
pub fresh_mem :
    (seen τs : List (List ℤ)) {τ : List ℤ} →
    Memᴰ τ (fresh seen τs) →
    (member τ seen ≡ false) × Memᴰ τ τs
unfolding fresh member
fresh_mem seen [] m = absurd (Memᴰ.not-nil m)
fresh_mem seen (σ ∷ τs) {τ} m =
    ⊎_elim
    (λ q. let (n, k) = fresh_mem seen τs (rw q at m) in (n, Memᴰ.tail k))
    (λ q. ⊎_elim (λ p. first q p) (λ k. later (fresh_mem (σ ∷ seen) τs k)) (Memᴰ.cases_cons (rw q at m)))
    (decide (member σ seen))
  where
    first : member σ seen ≡ false → τ ≡ σ → (member τ seen ≡ false) × Memᴰ τ (σ ∷ τs)
    first q p = (ap (λ (t : List ℤ). member t seen) p ∙ q, Memᴰ.head p)

    later : (member τ (σ ∷ seen) ≡ false) × Memᴰ τ τs → (member τ seen ≡ false) × Memᴰ τ (σ ∷ τs)
    later (n, k) = (or_false_right (equal_all τ σ) _ n, Memᴰ.tail k)

-- and each of those is fresh
pub mem_fresh :
    (seen τs : List (List ℤ)) {τ : List ℤ} →
    member τ seen ≡ false →
    Memᴰ τ τs →
    Memᴰ τ (fresh seen τs)
unfolding fresh member
mem_fresh seen [] n m = absurd (Memᴰ.not-nil m)
mem_fresh seen (σ ∷ τs) {τ} n m =
    ⊎_elim
    (λ q. rw q (mem_fresh seen τs n (not_first q (Memᴰ.cases_cons m))))
    (λ q. rw q (⊎_elim Memᴰ.head (λ k. later (λ w. mem_fresh (σ ∷ seen) τs w k)) (Memᴰ.cases_cons m)))
    (decide (member σ seen))
  where
    not_first : member σ seen ≡ true → (τ ≡ σ) ⊎ Memᴰ τ τs → Memᴰ τ τs
    not_first q (inl p) = clash (ap (λ (t : List ℤ). member t seen) p ∙ q) n
    not_first q (inr k) = k

    later : (member τ (σ ∷ seen) ≡ false → Memᴰ τ (fresh (σ ∷ seen) τs)) → Memᴰ τ (σ ∷ fresh (σ ∷ seen) τs)
    later rest =
        ⊎_elim
        (λ p. Memᴰ.head (equal_all-true τ σ p))
        (λ p. Memᴰ.tail (rest (rw p n)))
        (decide (equal_all τ σ))

-- no tuple stands twice in a list
unfoldable pub Once : List (List ℤ) → Type 0
Once [] = Unit {0}
Once (τ ∷ τs) = (Memᴰ τ τs → ⊥) × Once τs

-- fresh tuples stand once
pub fresh-once : (seen τs : List (List ℤ)) → Once (fresh seen τs)
unfolding fresh Once member
fresh-once seen [] = tt
fresh-once seen (τ ∷ τs) =
    ⊎_elim
    (λ q. rw q (fresh-once seen τs))
    (λ q. rw q (λ k. not_again (fresh_mem (τ ∷ seen) τs k).0, fresh-once (τ ∷ seen) τs))
    (decide (member τ seen))
  where
    not_again : member τ (τ ∷ seen) ≡ false → ⊥
    not_again n = clash (equal_all-refl τ) (or_false_left (equal_all τ τ) _ n)

-- an environment that agrees with numbers and binds a span of variables has those numbers for it
tuple_of_agrees :
    (ρ τ : List ℤ) (e : Environment) →
    Agrees e (ρ ++ τ) →
    ((x : ℕ) → x < length τ → (k : ℤ) × (e (length ρ + x) ≡ bound k)) →
    tuple (length ρ) (length τ) e ≡ τ
unfolding number_in
tuple_of_agrees ρ τ e g h = ext_get_or (pos 0) (tuple n (length τ) e) τ long (λ x l. same x (omega (arith, long)))
  where
    n : ℕ
    n = length ρ

    long : length (tuple n (length τ) e) ≡ length τ
    long = tuple-length n (length τ) e

    same : (x : ℕ) → x < length τ → get_or (tuple n (length τ) e) x (pos 0) ≡ get_or τ x (pos 0)
    same x l =
        let (k, w) = h x l in
        tuple-number n (length τ) e x l ∙ ap number_in w ∙ sym (g (n + x) k w) ∙ get_or-append-add ρ τ x (pos 0)

module _ (table : Words) (rows : List Words) where
  module _ (v : ℕ) (excluded : List (List ℤ)) (c : Tree) (ρ : List ℤ) where
    -- an instance has a number for each variable
    pub instances-length : {τ : List ℤ} → Memᴰ τ (instances table rows v excluded c ρ) → length τ ≡ v
    unfolding instances
    instances-length m =
        let (n, k) = fresh_mem excluded _ m in
        let (e, i, q) = map_mem (tuple (length ρ) v) (list table rows c (length ρ + v) (outer ρ ∷ [])) k in
        ap length q ∙ tuple-length (length ρ) v e

    -- no instance stands twice
    pub instances-once : Once (instances table rows v excluded c ρ)
    unfolding instances
    instances-once = fresh-once excluded _

    module _
        (sound : Sound table rows)
        (formed : Formed c table false (length ρ + v))
        (passes : Passes table c (λ x. ltb x (length ρ)) (length ρ + v))
        (binds : all (after c (λ x. ltb x (length ρ)) (length ρ + v)) (span (length ρ) v) ≡ true) where
      -- the tuples that a restriction lists are those under which it is true
      pub tuples-true :
          {τ : List ℤ} →
          Memᴰ τ (map (tuple (length ρ) v) (list table rows c (length ρ + v) (outer ρ ∷ []))) →
          Is c (value_in table rows) true (ρ ++ τ)
      tuples-true m =
          let (e, i, q) = map_mem (tuple (length ρ) v) (list table rows c (length ρ + v) (outer ρ ∷ [])) m in
          subst (λ (t : List ℤ). Is c (value_in table rows) true (ρ ++ t)) (sym q)
          (found-true table rows sound c (λ x. ltb x (length ρ)) ρ v formed passes (below-outer (length ρ)) i)

      -- and each of those is listed
      pub true-tuples :
          (τ : List ℤ) →
          length τ ≡ v →
          Is c (value_in table rows) true (ρ ++ τ) →
          Memᴰ τ (map (tuple (length ρ) v) (list table rows c (length ρ + v) (outer ρ ∷ [])))
      true-tuples τ l i =
          let b : Variables = λ x. ltb x (length ρ) in
          let n = length ρ + v in
          let (e, m, g) = true-found table rows sound c b ρ v formed passes (below-outer (length ρ)) τ l i in
          let fits = outer-fits b ρ n (below-outer (length ρ)) (omega arith) in
          let inner = (list-fits table rows c b n (outer ρ ∷ []) formed passes fits e m).0 in
          let q =
          tuple_of_agrees ρ τ e g
          (λ x k. inner (length ρ + x) (all_mem _ binds (mem_span (length ρ) v (omega arith) (omega arith))))
          in
          Memᴰ.cast (sym q ∙ ap (λ (k : ℕ). tuple (length ρ) k e) l) (mem_map (tuple (length ρ) v) m)

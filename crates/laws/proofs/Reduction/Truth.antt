-- One reduction: in every structure that extends the log, a policy and its residual are true together and false together.
-- By induction on the policy's tree.
use Rattle.std.specs.Prelude.{ℕ, ◌+◌, ◌≡◌, ◌⊎◌, ◌↔◌, Bool, true, false, length, ltb, ℤ}
use Rattle.std.proofs.Common.{arith, sym, ap, ◌∙◌, subst, true≢false}
use Rattle.std.proofs.Math.Path.{refl}
use Rattle.std.proofs.Math.Logic.{inl, inr, ⊎_elim}
use Rattle.std.proofs.Math.Logic.Iff
use Rattle.std.proofs.Math.Bool.{cond}
use mathlib.Core.List.{List, [], ◌∷◌, ◌++◌, map, append-nil, Memᴰ}
use Rattle.model.specs.Words.{Words, same, member}
use Rattle.model.specs.Log.{Value, known, unknown, value_in}
use Rattle.model.specs.Tree.{Term, Tree, Trees, plain, atom, compare, join, quantifier, some, nil, cons}
use Rattle.model.specs.Truth.{GroundAtom, Structure, Extends, Is, Every, One, number_of, sum_at_most}
use Rattle.model.specs.Putting.{put}
use Rattle.model.specs.Joining.{append}
use Rattle.model.specs.Reduction.{settle, closed, each, instances, reduce, reduce_all}
use Rattle.laws.specs.Words.Tests.{same-same, same_comm}
use Rattle.laws.specs.Mode.{Moded, ModedAll}
use Rattle.laws.specs.Reading.Formed.{Formed, FormedAll}
use Rattle.laws.specs.Log.{Sound, known_same}
use Rattle.laws.specs.Truth.{Alike, alike-join, EachTuple, SomeTuple, ground_atom_lem, monotone}
use Rattle.laws.specs.Putting.Parts.{is-put}
use Rattle.laws.specs.Joining.{joined_is, every_append, one-append}
use Rattle.laws.specs.Listing.Outer.{below-outer, decided-passes}
use Rattle.laws.proofs.Reduction.Instances.{instances-passes}
use Rattle.laws.specs.Reduction.Instances.{instances-length}
use Rattle.laws.specs.Reduction.Truth.{each_from, each_worked, each_left, some_worked, some_left, some_to, length_more}

-- the trees made of tuples
module _ (s : Structure) (truth : Bool) (g : List ℤ → Tree) where
  every-each : (τs : List (List ℤ)) → Every (each g τs) s truth [] → {τ : List ℤ} → Memᴰ τ τs → Is (g τ) s truth []
  unfolding each Is
  every-each [] h {τ = τ} m = elim m [ ]
  every-each (σ ∷ τs) h (Memᴰ.head e) = rw e h.0
  every-each (σ ∷ τs) h (Memᴰ.tail m) = every-each τs h.1 m

  each-every : (τs : List (List ℤ)) → ((τ : List ℤ) → Memᴰ τ τs → Is (g τ) s truth []) → Every (each g τs) s truth []
  unfolding each Is
  each-every [] h = tt
  each-every (τ ∷ τs) h = (h τ (Memᴰ.head refl), each-every τs (λ σ m. h σ (Memᴰ.tail m)))

  one_each : (τs : List (List ℤ)) → One (each g τs) s truth [] → (τ : List ℤ) × Memᴰ τ τs × Is (g τ) s truth []
  unfolding each Is
  one_each [] h = absurd h
  one_each (τ ∷ τs) h =
      ⊎_elim
      (λ a. (τ, Memᴰ.head refl, a))
      (λ a. let r = one_each τs a in (r.0, Memᴰ.tail r.1, r.2))
      h

  each-one : {τ : List ℤ} {τs : List (List ℤ)} → Memᴰ τ τs → Is (g τ) s truth [] → One (each g τs) s truth []
  unfolding each Is
  each-one (Memᴰ.head e) h = inl (rw (← e) h)
  each-one (Memᴰ.tail m) h = inr (each-one m h)

-- a part that stands where a test is false
tail-every : (s : Structure) (truth : Bool) (t : Tree) (z : Bool) → Every (cond z nil (cons t nil)) s truth [] ↔ (z ≡ false → Is t s truth [])
unfolding Is
tail-every s truth t true = (λ h e. absurd (true≢false e), λ h. tt)
tail-every s truth t false = (λ h e. h.0, λ h. (h refl, tt))

tail-one : (s : Structure) (truth : Bool) (t : Tree) (z : Bool) → One (cond z nil (cons t nil)) s truth [] ↔ ((z ≡ false) × Is t s truth [])
unfolding Is
tail-one s truth t true = (λ h. absurd h, λ h. absurd (true≢false h.0))
tail-one s truth t false = (⊎_elim (λ h. (refl, h)) (λ h. absurd h), λ h. inl h.1)

-- one quantifier: its restriction c is exact and, where it is closed, decided at every tuple, and what it is in the log it is in
-- the structure; `found` are its instances, `g τ` says in the structure what the body f says at the tuple τ
module _ (log s : Structure)
    (v : ℕ) (excluded found : List (List ℤ)) (c f : Tree) (ρ : List ℤ) (shut : Bool)
    (exact : (τ : List ℤ) → length τ ≡ v → Memᴰ τ found ↔ ((member τ excluded ≡ false) × Is c log true (ρ ++ τ)))
    (lengths : (τ : List ℤ) → Memᴰ τ found → length τ ≡ v)
    (decided : shut ≡ true → (τ : List ℤ) → length τ ≡ v → Is c log true (ρ ++ τ) ⊎ Is c log false (ρ ++ τ))
    (grows : (t : Bool) (τ : List ℤ) → Is c log t (ρ ++ τ) → Is c s t (ρ ++ τ))
    (b truth : Bool) (g : List ℤ → Tree)
    (body : (τ : List ℤ) → length τ ≡ v → Is (g τ) s truth [] ↔ Is f s truth (ρ ++ τ)) where
  -- the last part, and all parts of the result
  abbrev last : Tree
  last = quantifier b v (excluded ++ found) (put c ρ) (put f ρ)

  abbrev results : Trees
  results = append (each g found) (cond shut nil (cons last nil))

  last-each :
      same truth b ≡ true →
      Is last s truth [] ↔ EachTuple v (excluded ++ found) (λ τ. Is (put c ρ) s false τ) (λ τ. Is (put f ρ) s truth τ)
  unfolding Is
  last-each e = rw e (λ x. x, λ x. x)

  last_some :
      same truth b ≡ false →
      Is last s truth [] ↔ SomeTuple v (excluded ++ found) (λ τ. Is (put c ρ) s true τ) (λ τ. Is (put f ρ) s truth τ)
  unfolding Is
  last_some e = rw e (λ x. x, λ x. x)

  quantifier-is : Is (join b results) s truth [] ↔ Is (quantifier b v excluded c f) s truth ρ
  unfolding Is
  quantifier-is = go (same truth b) refl
    where
      tail : Trees
      tail = cond shut nil (cons last nil)

      go : (x : Bool) → same truth b ≡ x → Is (join b results) s truth [] ↔ Is (quantifier b v excluded c f) s truth ρ
      go true e =
          rw e (
            λ h.
                let k = (every_append s [] truth (each g found) tail).0 h in
                each_from log s v excluded found c f ρ shut exact lengths decided grows truth g body
                (λ τ m. every-each s truth g found k.0 m)
                (λ r. (last-each e).0 ((tail-every s truth last shut).0 k.1 r)),
            λ h.
                (every_append s [] truth (each g found) tail).1 (
                  each-every s truth g found (each_worked log s v excluded found c f ρ shut exact lengths decided grows truth g body h),
                  (tail-every s truth last shut).1 (λ r. (last-each e).1 (each_left log s v excluded found c f ρ shut exact lengths decided grows truth g body h)),
                ),
          )
      go false e =
          rw e (
            λ h.
                ⊎_elim
                (λ k. let m = one_each s truth g found k in some_worked log s v excluded found c f ρ shut exact lengths decided grows truth g body m.0 m.1 m.2)
                (λ k. some_left log s v excluded found c f ρ shut exact lengths decided grows truth g body ((last_some e).0 ((tail-one s truth last shut).0 k).1))
                ((one-append s [] truth (each g found) tail).0 h),
            λ h.
                (one-append s [] truth (each g found) tail).1
                (⊎_elim
                (λ m. inl (each-one s truth g m.1 m.2))
                (λ m. inr ((tail-one s truth last shut).1 (m.0, (last_some e).1 m.1)))
                (some_to log s v excluded found c f ρ shut exact lengths decided grows truth g body h)),
          )

-- an atom: known in the log, it is so in the structure
settle_is :
    (table : Words) (log s : Structure) →
    Extends table log s →
    (b : Bool) (p : ℕ) (ts : List Term) (ρ : List ℤ) →
    GroundAtom table p (map (number_of ρ) ts) →
    (truth : Bool) →
    Is (settle (log p (map (number_of ρ) ts)) b (put (atom b p ts) ρ)) s truth [] ↔ Is (atom b p ts) s truth ρ
unfolding settle Is Extends
settle_is table log s extends b p ts ρ is_ground truth = go (log p (map (number_of ρ) ts)) refl
  where
    go :
        (x : Value) → log p (map (number_of ρ) ts) ≡ x →
        Is (settle x b (put (atom b p ts) ρ)) s truth [] ↔ Is (atom b p ts) s truth ρ
    go (known a) e =
        let k = extends p (map (number_of ρ) ts) is_ground a e in (
          λ h. k ∙ ap known (sym (ap (λ (x : Bool). same x b) h ∙ same-same a b)),
          λ h. sym (same-same truth b) ∙ ap (λ (x : Bool). same x b) (known_same (sym h ∙ k)),
        )
    go unknown e = rw append-nil at (is-put (atom b p ts) s truth ρ [])

-- a comparison
compare-is : (b : Bool) (x : Bool) (truth : Bool) → (truth ≡ same b x) ↔ (x ≡ same truth b)
compare-is b x truth = (λ h. sym (ap (λ (t : Bool). same t b) (h ∙ same_comm b x) ∙ same-same x b), λ h. sym (same_comm b x ∙ ap (λ (t : Bool). same t b) h ∙ same-same truth b))

module _ (table : Words) (rows : List Words) (sound : Sound table rows) (s : Structure) (extends : Extends table (value_in table rows) s) where
  mutual
    unfolding reduce Is Formed Moded

    -- a policy and its residual are true together, and false together
    pub reduce-is :
        (f : Tree) (ρ : List ℤ) →
        Formed f table true (length ρ) →
        Moded table f (length ρ) →
        (truth : Bool) →
        Is (reduce table rows f ρ) s truth [] ↔ Is f s truth ρ
    reduce-is (plain b) ρ h m truth = (λ x. x, λ x. x)
    reduce-is (atom b p ts) ρ h m truth =
        settle_is table (value_in table rows) s extends b p ts ρ (ground_atom_lem table p ts ρ h.0 h.1) truth
    reduce-is (compare b d x y) ρ h m truth = compare-is b (sum_at_most d (number_of ρ x) (number_of ρ y)) truth
    reduce-is (join b ts) ρ h m truth =
        Iff.trans
        (joined_is s [] b truth (reduce_all table rows ts ρ))
        (alike-join s truth [] truth ρ b b (reduce_all table rows ts ρ) ts refl (reduce-alike ts ρ h.1 m truth))
    reduce-is (quantifier b v excluded c f) ρ h m truth =
        Iff.trans
        (joined_is s [] b truth _)
        (quantifier-is (value_in table rows) s v excluded (instances table rows v excluded c ρ) c f ρ (closed c table)
        (instances-passes table rows v excluded c ρ sound h.5 m.0 m.1)
        (λ τ i. instances-length table rows v excluded c ρ i)
        (λ cl τ e.
        decided-passes table rows sound c (λ x. ltb x (length ρ)) (length ρ + v) cl h.5 m.0
        (λ x q. let k = below-outer (length ρ) x q in omega arith) (ρ ++ τ) (length_more ρ τ e))
        (λ t τ. monotone table (value_in table rows) s extends c false (length ρ + v) h.5 t (ρ ++ τ))
        b truth
        (λ τ. reduce table rows f (ρ ++ τ))
        (λ τ e.
        reduce-is f (ρ ++ τ)
        (subst (λ (n : ℕ). Formed f table true n) (sym (length_more ρ τ e)) h.6)
        (subst (λ (n : ℕ). Moded table f n) (sym (length_more ρ τ e)) m.2)
        truth))
    reduce-is (some c) ρ h m truth = absurd (true≢false h.0)

    -- child by child
    reduce-alike :
        (ts : Trees) (ρ : List ℤ) →
        FormedAll ts table true (length ρ) →
        ModedAll table ts (length ρ) →
        (truth : Bool) →
        Alike s truth [] truth ρ (reduce_all table rows ts ρ) ts
    reduce-alike nil ρ h m truth = tt
    reduce-alike (cons t ts) ρ h m truth =
        (reduce-is t ρ h.0 m.0 truth, reduce-alike ts ρ h.1 m.1 truth)

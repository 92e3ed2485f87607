-- The join rule: a join by the rule is true and false exactly as the plain join of its parts; and what holds of all parts
-- holds of the join by the rule.
use Rattle.std.specs.Prelude.{◌≡◌, ◌⊎◌, ◌↔◌, Bool, not, cond, ℤ}
use Rattle.std.proofs.Math.Path.{refl}
use Rattle.std.proofs.Math.Logic.{inl, inr, ⊎_elim}
use Rattle.std.proofs.Math.Logic.Iff
use Rattle.std.proofs.Math.Bool.{true, false, true≢false, false≢true}
use mathlib.Core.List.{List, [], ◌∷◌, Memᴰ}
use Rattle.model.specs.Tree.{Tree, Trees, plain, atom, compare, join, quantifier, some, nil, cons}
use Rattle.model.specs.Truth.{Structure, Is, Every, One}
use Rattle.model.specs.Joining.{append, decides, decided, parts, parts_all, assemble, joined}
use Rattle.model.specs.Reduction.{each}
use Rattle.laws.specs.Words.Tests.{or_cases, or_false_left, or_false_right}
use Rattle.laws.specs.Truth.{consistent}

-- a property of each of the trees
abbrev pub All : (tree : Tree → Type 0) (trees : Trees) → Type 0
All P nil = Unit {0}
All P (cons t ts) = P t × All P ts

module _ (P : Tree → Type 0) where
  pub append-all : (ts us : Trees) → All P ts → All P us → All P (append ts us)
  unfolding append
  append-all nil us h k = k
  append-all (cons t ts) us h k = (h.0, append-all ts us h.1 k)

  pub parts_all-all : (b : Bool) (ts : Trees) → All (λ t. All P (parts b t)) ts → All P (parts_all b ts)
  unfolding parts_all
  parts_all-all b nil h = tt
  parts_all-all b (cons t ts) h = append-all (parts b t) (parts_all b ts) h.0 (parts_all-all b ts h.1)

  -- the parts of a tree, if the property goes from a join to its children
  pub parts_all_lem : (b : Bool) → ((ts : Trees) → P (join b ts) → All P ts) → (t : Tree) → P t → All P (parts b t)
  unfolding parts
  parts_all_lem b down (plain a) h = tt
  parts_all_lem b down (atom a p ts) h = (h, tt)
  parts_all_lem b down (compare a d x y) h = (h, tt)
  parts_all_lem true down (join true ts) h = down ts h
  parts_all_lem true down (join false ts) h = (h, tt)
  parts_all_lem false down (join true ts) h = (h, tt)
  parts_all_lem false down (join false ts) h = down ts h
  parts_all_lem b down (quantifier a v excluded c f) h = (h, tt)
  parts_all_lem b down (some c) h = (h, tt)

  -- the parts of a quantifier's result: trees made of tuples, and a last one that stands where a test is false
  each_all : (g : List ℤ → Tree) (τs : List (List ℤ)) → ((τ : List ℤ) → Memᴰ τ τs → P (g τ)) → All P (each g τs)
  unfolding each
  each_all g [] h = tt
  each_all g (τ ∷ τs) h = (h τ (Memᴰ.head refl), each_all g τs (λ σ m. h σ (Memᴰ.tail m)))

  tail_all : (z : Bool) (t : Tree) → P t → All P (cond z nil (cons t nil))
  tail_all true t h = tt
  tail_all false t h = (h, tt)

  pub result-all :
      (g : List ℤ → Tree) (τs : List (List ℤ)) (z : Bool) (last : Tree) →
      ((τ : List ℤ) → Memᴰ τ τs → P (g τ)) →
      P last →
      All P (append (each g τs) (cond z nil (cons last nil)))
  result-all g τs z last h k = append-all (each g τs) (cond z nil (cons last nil)) (each_all g τs h) (tail_all z last k)

-- the join by the rule has P, if its parts have Q
module _ (P Q : Tree → Type 0) (b : Bool)
    (plainly : (a : Bool) → P (plain a))
    (single : (t : Tree) → Q t → P t)
    (several : (t u : Tree) (ts : Trees) → All Q (cons t (cons u ts)) → P (join b (cons t (cons u ts)))) where
  assemble-all : (ts : Trees) → All Q ts → P (assemble b ts)
  unfolding assemble
  assemble-all nil h = plainly b
  assemble-all (cons t nil) h = single t h.0
  assemble-all (cons t (cons u ts)) h = several t u ts h

  pub joined-all : (ts : Trees) → All (λ t. All Q (parts b t)) ts → P (joined b ts)
  unfolding joined
  joined-all ts h = go (decided b ts)
    where
      go : (x : Bool) → P (cond x (plain (not b)) (assemble b (parts_all b ts)))
      go true = plainly (not b)
      go false = assemble-all (parts_all b ts) (parts_all-all Q b ts h)

-- the join by the rule has a property that goes from a join to its children and back
module _ (P : Tree → Type 0) (b : Bool)
    (plainly : (a : Bool) → P (plain a))
    (down : (ts : Trees) → P (join b ts) → All P ts)
    (up : (t u : Tree) (ts : Trees) → All P (cons t (cons u ts)) → P (join b (cons t (cons u ts)))) where
  all-parts : (ts : Trees) → All P ts → All (λ t. All P (parts b t)) ts
  all-parts nil h = tt
  all-parts (cons t ts) h = (parts_all_lem P b down t h.0, all-parts ts h.1)

  pub joined_has : (ts : Trees) → All P ts → P (joined b ts)
  joined_has ts h = joined-all P P b plainly (λ t k. k) up ts (all-parts ts h)

module _ (s : Structure) (ρ : List ℤ) where
  -- every one, and one, of two lists of trees
  pub every_append : (truth : Bool) (ts us : Trees) → Every (append ts us) s truth ρ ↔ (Every ts s truth ρ × Every us s truth ρ)
  unfolding append Is
  every_append truth nil us = (λ h. (tt, h), λ h. h.1)
  every_append truth (cons t ts) us =
      let ih = every_append truth ts us in
      (λ h. ((h.0, (ih.0 h.1).0), (ih.0 h.1).1), λ h. (h.0.0, ih.1 (h.0.1, h.1)))

  pub one-append : (truth : Bool) (ts us : Trees) → One (append ts us) s truth ρ ↔ (One ts s truth ρ ⊎ One us s truth ρ)
  unfolding append Is
  one-append truth nil us = (inr, λ h. ⊎_elim (λ x. absurd x) (λ x. x) h)
  one-append truth (cons t ts) us =
      let ih = one-append truth ts us in (
        λ h. ⊎_elim (λ a. inl (inl a)) (λ r. ⊎_elim (λ a. inl (inr a)) inr (ih.0 r)) h,
        λ h. ⊎_elim (λ l. ⊎_elim inl (λ a. inr (ih.1 (inl a))) l) (λ a. inr (ih.1 (inr a))) h,
      )

  -- the parts of a tree that does not decide say what the tree says
  every-parts : (b : Bool) (t : Tree) → decides b t ≡ false → Every (parts b t) s b ρ ↔ Is t s b ρ
  unfolding parts decides Is
  every-parts true (plain true) e = (λ h. refl, λ h. tt)
  every-parts true (plain false) e = absurd (true≢false e)
  every-parts false (plain true) e = absurd (true≢false e)
  every-parts false (plain false) e = (λ h. refl, λ h. tt)
  every-parts b (atom a p ts) e = (λ h. h.0, λ h. (h, tt))
  every-parts b (compare a d x y) e = (λ h. h.0, λ h. (h, tt))
  every-parts true (join true ts) e = (λ h. h, λ h. h)
  every-parts true (join false ts) e = (λ h. h.0, λ h. (h, tt))
  every-parts false (join true ts) e = (λ h. h.0, λ h. (h, tt))
  every-parts false (join false ts) e = (λ h. h, λ h. h)
  every-parts b (quantifier a v excluded c f) e = (λ h. h.0, λ h. (h, tt))
  every-parts b (some c) e = (λ h. h.0, λ h. (h, tt))

  one-parts : (b : Bool) (t : Tree) → decides b t ≡ false → One (parts b t) s (not b) ρ ↔ Is t s (not b) ρ
  unfolding parts decides Is
  one-parts true (plain true) e = (λ h. absurd h, λ h. false≢true h)
  one-parts true (plain false) e = absurd (true≢false e)
  one-parts false (plain true) e = absurd (true≢false e)
  one-parts false (plain false) e = (λ h. absurd h, λ h. true≢false h)
  one-parts b (atom a p ts) e = (⊎_elim (λ h. h) (λ h. absurd h), inl)
  one-parts b (compare a d x y) e = (⊎_elim (λ h. h) (λ h. absurd h), inl)
  one-parts true (join true ts) e = (λ h. h, λ h. h)
  one-parts true (join false ts) e = (⊎_elim (λ h. h) (λ h. absurd h), inl)
  one-parts false (join true ts) e = (⊎_elim (λ h. h) (λ h. absurd h), inl)
  one-parts false (join false ts) e = (λ h. h, λ h. h)
  one-parts b (quantifier a v excluded c f) e = (⊎_elim (λ h. h) (λ h. absurd h), inl)
  one-parts b (some c) e = (⊎_elim (λ h. h) (λ h. absurd h), inl)

  every-parts_all : (b : Bool) (ts : Trees) → decided b ts ≡ false → Every (parts_all b ts) s b ρ ↔ Every ts s b ρ
  unfolding parts_all decided Is
  every-parts_all b nil e = (λ h. h, λ h. h)
  every-parts_all b (cons t ts) e =
      let one = every-parts b t (or_false_left _ _ e) in
      let rest = every-parts_all b ts (or_false_right (decides b t) _ e) in
      let two = every_append b (parts b t) (parts_all b ts) in
      (λ h. (one.0 (two.0 h).0, rest.0 (two.0 h).1), λ h. two.1 (one.1 h.0, rest.1 h.1))

  one-parts_all : (b : Bool) (ts : Trees) → decided b ts ≡ false → One (parts_all b ts) s (not b) ρ ↔ One ts s (not b) ρ
  unfolding parts_all decided Is
  one-parts_all b nil e = (λ h. h, λ h. h)
  one-parts_all b (cons t ts) e =
      let one = one-parts b t (or_false_left _ _ e) in
      let rest = one-parts_all b ts (or_false_right (decides b t) _ e) in
      let two = one-append (not b) (parts b t) (parts_all b ts) in (
        λ h. ⊎_elim (λ a. inl (one.0 a)) (λ a. inr (rest.0 a)) (two.0 h),
        λ h. two.1 (⊎_elim (λ a. inl (one.1 a)) (λ a. inr (rest.1 a)) h),
      )

  -- a deciding part
  decides-is : (b : Bool) (t : Tree) → decides b t ≡ true → Is t s (not b) ρ
  unfolding decides Is
  decides-is true (plain true) e = absurd (false≢true e)
  decides-is true (plain false) e = refl
  decides-is false (plain true) e = refl
  decides-is false (plain false) e = absurd (false≢true e)
  decides-is b (atom a p ts) e = absurd (false≢true e)
  decides-is b (compare a d x y) e = absurd (false≢true e)
  decides-is b (join a ts) e = absurd (false≢true e)
  decides-is b (quantifier a v excluded c f) e = absurd (false≢true e)
  decides-is b (some c) e = absurd (false≢true e)

  decided-one : (b : Bool) (ts : Trees) → decided b ts ≡ true → One ts s (not b) ρ
  unfolding decided Is
  decided-one b nil e = absurd (false≢true e)
  decided-one b (cons t ts) e =
      ⊎_elim (λ a. inl (decides-is b t a)) (λ a. inr (decided-one b ts a)) (or_cases _ _ e)

  -- a join of no part, one part, several parts
  assemble-is : (b truth : Bool) (ts : Trees) → Is (assemble b ts) s truth ρ ↔ Is (join b ts) s truth ρ
  unfolding assemble Is
  assemble-is true true nil = (λ h. tt, λ h. refl)
  assemble-is true false nil = (λ h. false≢true h, λ h. absurd h)
  assemble-is false true nil = (λ h. true≢false h, λ h. absurd h)
  assemble-is false false nil = (λ h. tt, λ h. refl)
  assemble-is true true (cons t nil) = (λ h. (h, tt), λ h. h.0)
  assemble-is true false (cons t nil) = (inl, ⊎_elim (λ h. h) (λ h. absurd h))
  assemble-is false true (cons t nil) = (inl, ⊎_elim (λ h. h) (λ h. absurd h))
  assemble-is false false (cons t nil) = (λ h. (h, tt), λ h. h.0)
  assemble-is b truth (cons t (cons u ts)) = (λ h. h, λ h. h)

  -- the join by the rule is true, and false, as the join
  pub joined_is : (b truth : Bool) (ts : Trees) → Is (joined b ts) s truth ρ ↔ Is (join b ts) s truth ρ
  unfolding joined Is
  joined_is b truth ts = go b truth (decided b ts) refl
    where
      go : (b truth x : Bool) → decided b ts ≡ x → Is (cond x (plain (not b)) (assemble b (parts_all b ts))) s truth ρ ↔ Is (join b ts) s truth ρ
      go true true true e = (λ h. absurd (true≢false h), λ h. absurd (consistent s (join true ts) ρ h (decided-one true ts e)))
      go true false true e = (λ h. decided-one true ts e, λ h. refl)
      go false true true e = (λ h. decided-one false ts e, λ h. refl)
      go false false true e = (λ h. absurd (false≢true h), λ h. absurd (consistent s (join false ts) ρ (decided-one false ts e) h))
      go true true false e = Iff.trans (assemble-is true true (parts_all true ts)) (every-parts_all true ts e)
      go true false false e = Iff.trans (assemble-is true false (parts_all true ts)) (one-parts_all true ts e)
      go false true false e = Iff.trans (assemble-is false true (parts_all false ts)) (one-parts_all false ts e)
      go false false false e = Iff.trans (assemble-is false false (parts_all false ts)) (every-parts_all false ts e)

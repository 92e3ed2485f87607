-- Truth in structures: nothing is both true and false, and what is true or false stays so in every extension.
-- By induction on the tree, with both values of truth at once.
pub mod Logs
use Rattle.std.specs.Prelude.{ℕ, ◌+◌, ◌<◌, ◌≡◌, ◌⊎◌, ◌↔◌, Bool, true, false, cond, List, [], ◌∷◌, ◌++◌, map, length, ℤ}
use Rattle.std.proofs.Common.{sym, ◌∙◌, true≢false}
use Rattle.std.proofs.Math.Logic.{inl, inr, ⊎_elim}
use Rattle.std.proofs.lemmas.Bool.{false≢true}
use Rattle.std.proofs.lemmas.List.{length-map}
use Rattle.model.specs.Words.{Words, same, member}
use Rattle.model.specs.Table.{predicates, arity}
use Rattle.model.specs.Log.{Value, known}
use Rattle.model.specs.Tree.{Term, Tree, Trees, plain, atom, compare, join, quantifier, some, nil, cons}
use Rattle.model.specs.Truth.{GroundAtom, Structure, Extends, number_of, Is, Every, One}
use Rattle.laws.specs.Words.Tests.{clash}
use Rattle.laws.specs.Reading.Formed.{Formed, FormedAll}

-- the two statements about a quantifier, of tuples of v numbers: each tuple is excluded, or has a false restriction or the
-- body's truth; some tuple is not excluded and has a true restriction and the body's truth
abbrev pub EachTuple : (v : ℕ) (excluded : List (List ℤ)) (C F : List ℤ → Type 0) → Type 0
EachTuple v excluded C F = (τ : List ℤ) → length τ ≡ v → (member τ excluded ≡ true) ⊎ C τ ⊎ F τ

abbrev pub SomeTuple : (v : ℕ) (excluded : List (List ℤ)) (C F : List ℤ → Type 0) → Type 0
SomeTuple v excluded C F = (τ : List ℤ) × (length τ ≡ v) × (member τ excluded ≡ false) × C τ × F τ

tuple_clash :
    (v : ℕ) (excluded : List (List ℤ)) (C C' F F' : List ℤ → Type 0) →
    ((τ : List ℤ) → C τ → C' τ → ⊥) →
    ((τ : List ℤ) → F τ → F' τ → ⊥) →
    EachTuple v excluded C F →
    SomeTuple v excluded C' F' →
    ⊥
tuple_clash v excluded C C' F F' hc hf h k =
    ⊎_elim
    (λ m. clash m k.2)
    (⊎_elim (λ c. hc k.0 c k.3) (λ f. hf k.0 f k.4))
    (h k.0 k.1)

known_same : (b : Bool) (v : Value) → v ≡ known (same true b) → v ≡ known (same false b) → ⊥
known_same true v p q = let e : known true ≡ known false = sym p ∙ q in let z : true ≡ false = cc in true≢false z
known_same false v p q = let e : known false ≡ known true = sym p ∙ q in let z : false ≡ true = cc in false≢true z

bool_same : (b v : Bool) → v ≡ same true b → v ≡ same false b → ⊥
bool_same true v p q = true≢false (sym p ∙ q)
bool_same false v p q = false≢true (sym p ∙ q)

module _ (s : Structure) where
  mutual
    unfolding Is

    -- nothing is both true and false
    pub consistent : (t : Tree) (ρ : List ℤ) → Is t s true ρ → Is t s false ρ → ⊥
    consistent (plain b) ρ h k = true≢false (h ∙ sym k)
    consistent (atom b p ts) ρ h k = known_same b (s p (map (number_of ρ) ts)) h k
    consistent (compare b d x y) ρ h k = bool_same b _ h k
    consistent (join true ts) ρ h k = all_one ts ρ h k
    consistent (join false ts) ρ h k = one-all ts ρ h k
    consistent (quantifier true v excluded c f) ρ h k =
        tuple_clash v excluded _ _ _ _
        (λ τ a b. consistent c (ρ ++ τ) b a)
        (λ τ a b. consistent f (ρ ++ τ) a b)
        h
        k
    consistent (quantifier false v excluded c f) ρ h k =
        tuple_clash v excluded _ _ _ _
        (λ τ a b. consistent c (ρ ++ τ) b a)
        (λ τ a b. consistent f (ρ ++ τ) b a)
        k
        h
    consistent (some c) ρ h k = consistent c (ρ ++ h.0 ∷ []) h.1 (k h.0)

    all_one : (ts : Trees) (ρ : List ℤ) → Every ts s true ρ → One ts s false ρ → ⊥
    all_one nil ρ h k = k
    all_one (cons t ts) ρ h k = ⊎_elim (λ a. consistent t ρ h.0 a) (λ a. all_one ts ρ h.1 a) k

    one-all : (ts : Trees) (ρ : List ℤ) → One ts s true ρ → Every ts s false ρ → ⊥
    one-all nil ρ h k = h
    one-all (cons t ts) ρ h k = ⊎_elim (λ a. consistent t ρ a k.0) (λ a. one-all ts ρ a k.1) h

-- a statement by a test, and functions between the statements on each side
pub by_test : (b : Bool) {A A' B B' : Type 0} → (A → A') → (B → B') → cond b A B → cond b A' B'
by_test true f g h = f h
by_test false f g h = g h

-- both ways at once
pub both : (b : Bool) {A A' B B' : Type 0} → A ↔ A' → B ↔ B' → cond b A B ↔ cond b A' B'
both b f g = (by_test b f.0 g.0, by_test b f.1 g.1)

pub each-tuple :
    (v : ℕ) (excluded : List (List ℤ)) (C C' F F' : List ℤ → Type 0) →
    ((τ : List ℤ) → length τ ≡ v → C τ → C' τ) →
    ((τ : List ℤ) → length τ ≡ v → F τ → F' τ) →
    EachTuple v excluded C F →
    EachTuple v excluded C' F'
each-tuple v excluded C C' F F' hc hf h τ e =
    ⊎_elim inl (⊎_elim (λ c. inr (inl (hc τ e c))) (λ f. inr (inr (hf τ e f)))) (h τ e)

pub some-tuple :
    (v : ℕ) (excluded : List (List ℤ)) (C C' F F' : List ℤ → Type 0) →
    ((τ : List ℤ) → length τ ≡ v → C τ → C' τ) →
    ((τ : List ℤ) → length τ ≡ v → F τ → F' τ) →
    SomeTuple v excluded C F →
    SomeTuple v excluded C' F'
some-tuple v excluded C C' F F' hc hf h = (h.0, h.1, h.2, hc h.0 h.1 h.3, hf h.0 h.1 h.4)

-- the numbers of an atom's terms make it a ground atom, if it has as many terms as its predicate has arguments
pub ground_atom_lem :
    (table : Words) (p : ℕ) (ts : List Term) (ρ : List ℤ) →
    p < predicates table →
    arity table p ≡ length ts →
    GroundAtom table p (map (number_of ρ) ts)
ground_atom_lem table p ts ρ h n = (h, length-map ts (number_of ρ) ∙ sym n)

module _ (table : Words) (s larger : Structure) (extends : Extends table s larger) where
  mutual
    unfolding Is Extends Formed

    -- what is true, or false, in a structure is so in every extension, if the atoms are over the table
    pub monotone :
        (t : Tree) (kind : Bool) (scope : ℕ) →
        Formed t table kind scope →
        (truth : Bool) (ρ : List ℤ) →
        Is t s truth ρ →
        Is t larger truth ρ
    monotone (plain b) kind scope w truth ρ h = h
    monotone (atom b p ts) kind scope w truth ρ h =
        extends p (map (number_of ρ) ts) (ground_atom_lem table p ts ρ w.0 w.1) (same truth b) h
    monotone (compare b d x y) kind scope w truth ρ h = h
    monotone (join b ts) kind scope w truth ρ h =
        by_test (same truth b)
        (λ a. monotone-every ts kind scope w.1 truth ρ a)
        (λ a. monotone-one ts kind scope w.1 truth ρ a)
        h
    monotone (quantifier b v excluded c f) kind scope w truth ρ h =
        let restriction : (truth : Bool) (τ : List ℤ) → Is c s truth (ρ ++ τ) → Is c larger truth (ρ ++ τ) =
        λ truth τ a. monotone c false (scope + v) w.5 truth (ρ ++ τ) a in
        let body : (τ : List ℤ) → Is f s truth (ρ ++ τ) → Is f larger truth (ρ ++ τ) =
        λ τ a. monotone f true (scope + v) w.6 truth (ρ ++ τ) a in
        by_test (same truth b)
        (each-tuple v excluded _ _ _ _ (λ τ e a. restriction false τ a) (λ τ e a. body τ a))
        (some-tuple v excluded _ _ _ _ (λ τ e a. restriction true τ a) (λ τ e a. body τ a))
        h
    monotone (some c) kind scope w true ρ h =
        (h.0, monotone c false (scope + 1) w.2 true (ρ ++ h.0 ∷ []) h.1)
    monotone (some c) kind scope w false ρ h = λ k. monotone c false (scope + 1) w.2 false (ρ ++ k ∷ []) (h k)

    monotone-every :
        (ts : Trees) (kind : Bool) (scope : ℕ) →
        FormedAll ts table kind scope →
        (truth : Bool) (ρ : List ℤ) →
        Every ts s truth ρ →
        Every ts larger truth ρ
    monotone-every nil kind scope w truth ρ h = tt
    monotone-every (cons t ts) kind scope w truth ρ h =
        (monotone t kind scope w.0 truth ρ h.0, monotone-every ts kind scope w.1 truth ρ h.1)

    monotone-one :
        (ts : Trees) (kind : Bool) (scope : ℕ) →
        FormedAll ts table kind scope →
        (truth : Bool) (ρ : List ℤ) →
        One ts s truth ρ →
        One ts larger truth ρ
    monotone-one nil kind scope w truth ρ h = h
    monotone-one (cons t ts) kind scope w truth ρ h =
        ⊎_elim (λ a. inl (monotone t kind scope w.0 truth ρ a)) (λ a. inr (monotone-one ts kind scope w.1 truth ρ a)) h

-- two lists of trees say the same, tree by tree, each under its own numbers and for its own truth
module _ (s : Structure) (truth : Bool) (ρ : List ℤ) (truth' : Bool) (ρ' : List ℤ) where
  abbrev pub Alike : (trees trees' : Trees) → Type 0
  Alike nil nil = Unit {0}
  Alike nil (cons u us) = ⊥
  Alike (cons t ts) nil = ⊥
  Alike (cons t ts) (cons u us) = (Is t s truth ρ ↔ Is u s truth' ρ') × Alike ts us

  alike-every : (ts us : Trees) → Alike ts us → Every ts s truth ρ ↔ Every us s truth' ρ'
  unfolding Is
  alike-every nil nil h = (λ x. x, λ x. x)
  alike-every nil (cons u us) h = absurd h
  alike-every (cons t ts) nil h = absurd h
  alike-every (cons t ts) (cons u us) h =
      let rest = alike-every ts us h.1 in
      (λ x. (h.0.0 x.0, rest.0 x.1), λ x. (h.0.1 x.0, rest.1 x.1))

  alike-one : (ts us : Trees) → Alike ts us → One ts s truth ρ ↔ One us s truth' ρ'
  unfolding Is
  alike-one nil nil h = (λ x. x, λ x. x)
  alike-one nil (cons u us) h = absurd h
  alike-one (cons t ts) nil h = absurd h
  alike-one (cons t ts) (cons u us) h =
      let rest = alike-one ts us h.1 in
      (⊎_elim (λ x. inl (h.0.0 x)) (λ x. inr (rest.0 x)), ⊎_elim (λ x. inl (h.0.1 x)) (λ x. inr (rest.1 x)))

  -- their joins say the same
  pub alike-join :
      (b b' : Bool) (ts us : Trees) →
      same truth b ≡ same truth' b' →
      Alike ts us →
      Is (join b ts) s truth ρ ↔ Is (join b' us) s truth' ρ'
  unfolding Is
  alike-join b b' ts us e h = rw e (both (same truth' b') (alike-every ts us h) (alike-one ts us h))

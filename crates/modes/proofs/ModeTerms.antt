-- Terms under a set of variables: each is bound, inputs are bound, and the set with their variables, one term at a time.
use Prim.Native.Nat.{ℕ, zero, suc, ◌+◌, ◌*◌, ◌≤◌, ◌<◌}
use native.Mathlib.Omega.{arith}
use native.Mathlib.Numerals.{add-one}
use mathlib.Core.Path.{◌≡◌, refl, sym, ap, ◌∙◌, fun_ext}
use mathlib.Core.Logic.{⊎_elim, ◌≢◌}
use mathlib.Core.Bool.{Bool, true, false, not, ◌&&◌, ◌||◌}
use mathlib.Core.List.{List, [], ◌∷◌, map}
use lib.ListN.{length, get_or, set, length-set, get_or-eq_default}
use lib.Seq.{get_or-set_same, get_or-set_other}
use lib.Dec.{eqb, ltb}
use lib.IntN.{ℤ, pos}
use borrow.Author.Tests.{eqb-true, eqb-false, ltb-true, ltb-false}
use Rattle.model.specs.Words.{Words, word, value, equal}
use Rattle.model.specs.Lists.{span, all, any}
use Rattle.model.specs.Table.{input}
use Rattle.model.specs.Tree.{Term, constant, variable}
use Rattle.model.specs.Reading.{places, term_at}
use Rattle.model.specs.Mode.{Variables, is_bound, is_variable, inputs_bound}
use Rattle.laws.specs.Words.Tests.{decide}
use Rattle.laws.specs.Lists.Membership.{all_map}
use Rattle.std.specs.List.{list_all, range_with_len}
use Rattle.policies.specs.Standing.{terms_at}
use Rattle.policies.proofs.NodeTerms.{all_places}
use Rattle.modes.specs.Mode.{marked, with_terms}

-- the term at an index
module _ (words : Words) (i : ℕ) where
  pub constant-bound : (b : Variables) → equal (word words i) (pos 0) ≡ true → true ≡ is_bound b (term_at words i)
  unfolding term_at is_bound
  constant-bound b e = rw e

  pub variable-bound : (b : Variables) → equal (word words i) (pos 0) ≡ false → b (value words (i + 1)) ≡ is_bound b (term_at words i)
  unfolding term_at is_bound
  variable-bound b e = rw e

-- all terms bound, as a test of the numbers of their places
pub bound-places :
    (words : Words) (b : Variables) (first n : ℕ) →
    list_all (λ i. is_bound b (term_at words (first + 2 * i))) (range_with_len 0 n) ≡ all (is_bound b) (terms_at words first n)
unfolding terms_at
bound-places words b first n =
    all_places (λ k. is_bound b (term_at words k)) first n
    ∙ all_map (λ k. is_bound b (term_at words k)) (is_bound b) (term_at words) (places first n) (λ x m. refl)

-- the inputs bound, as a test of the numbers of all terms
module _ (table words : Words) (p : ℕ) (b : Variables) where
  inputs_range :
      (f : ℕ → ℕ) (i n : ℕ) →
      list_all (λ j. not (input table p j) || is_bound b (term_at words (f j))) (range_with_len i n) ≡ inputs_bound table p b i (map (term_at words) (map f (span i n)))
  unfolding inputs_bound span
  inputs_range f i zero = refl
  inputs_range f i (suc n) =
      ap (λ (c : Bool). (not (input table p i) || is_bound b (term_at words (f i))) && c)
      (inputs_range f (i + 1) n ∙ ap (λ (j : ℕ). inputs_bound table p b j (map (term_at words) (map f (span j n)))) (add-one i))

  pub inputs_places :
      (first n : ℕ) →
      list_all (λ i. not (input table p i) || is_bound b (term_at words (first + 2 * i))) (range_with_len 0 n) ≡ inputs_bound table p b 0 (terms_at words first n)
  unfolding terms_at places
  inputs_places first n = inputs_range (λ i. first + 2 * i) 0 n

-- a set with one variable more
or_right-true : (a : Bool) → (a || true) ≡ true
or_right-true true = refl
or_right-true false = refl

or_assoc : (a b c : Bool) → (a || (b || c)) ≡ ((a || b) || c)
or_assoc true b c = refl
or_assoc false b c = refl

or_false : (a : Bool) → a ≡ (a || false)
or_false true = refl
or_false false = refl

pub set_marked : (marks : List Bool) (v x : ℕ) → v < length marks → get_or (set marks v true) x false ≡ (get_or marks x false || eqb x v)
set_marked marks v x h =
    ⊎_elim
    (λ e.
    let q : x ≡ v = eqb-true x v e in
    ap (λ (y : ℕ). get_or (set marks v true) y false) q
    ∙ get_or-set_same marks v true false h
    ∙ sym (ap (λ (b : Bool). get_or marks x false || b) e ∙ or_right-true (get_or marks x false)))
    (λ e.
    get_or-set_other marks v x true false (eqb-false x v e)
    ∙ or_false (get_or marks x false)
    ∙ ap (λ (b : Bool). get_or marks x false || b) (sym e))
    (decide (eqb x v))

pub with_constant : (b : Variables) (k : ℤ) (ts : List Term) → with_terms b (constant k ∷ ts) ≡ with_terms b ts
unfolding with_terms any is_variable
with_constant b k ts = refl

pub with_variable :
    (marks : List Bool) (v : ℕ) (ts : List Term) →
    v < length marks →
    with_terms (marked marks) (variable v ∷ ts) ≡ with_terms (marked (set marks v true)) ts
unfolding with_terms any is_variable
with_variable marks v ts h =
    fun_ext (λ x.
    or_assoc (get_or marks x false) (eqb x v) (any (is_variable x) ts)
    ∙ ap (λ (b : Bool). b || any (is_variable x) ts) (sym (set_marked marks v x h)))

pub with_none : (b : Variables) → with_terms b [] ≡ b
unfolding with_terms any
with_none b = fun_ext (λ x. sym (or_false (b x)))

-- two sets joined, mark by mark: those below i are done, those from i on are the first set's
pub record Joining (a b marks : List Bool) (i : ℕ) : Type 0 where
  pub sixteen : length marks ≡ 16
  pub done : (x : ℕ) → x < i → get_or marks x false ≡ (get_or a x false && get_or b x false)
  pub left : (x : ℕ) → i ≤ x → get_or marks x false ≡ get_or a x false

and-false : (c : Bool) → false ≡ (c && false)
and-false true = refl
and-false false = refl

pub and-true : (c : Bool) → c ≡ (c && true)
and-true true = refl
and-true false = refl

pub joining-start : (a b : List Bool) → length a ≡ 16 → Joining a b a 0
joining-start a b l = record { sixteen = l; done = λ x h. absurd (omega arith); left = λ x h. refl }

pub joining-drop : (a b marks : List Bool) (i : ℕ) → i < 16 → get_or b i false ≡ false → Joining a b marks i → Joining a b (set marks i false) (i + 1)
joining-drop a b marks i h e j =
    record {
      sixteen = length-set marks i false ∙ j.sixteen;
      done = λ x k.
          ⊎_elim
          (λ q.
          let is : x ≡ i = eqb-true x i q in
          ap (λ (y : ℕ). get_or (set marks i false) y false) is
          ∙ get_or-set_same marks i false false (omega (arith, j.sixteen))
          ∙ and-false (get_or a x false)
          ∙ ap (λ (c : Bool). get_or a x false && c) (sym (ap (λ (y : ℕ). get_or b y false) is ∙ e)))
          (λ q. get_or-set_other marks i x false false (eqb-false x i q) ∙ j.done x (let n : x ≢ i = eqb-false x i q in omega arith))
          (decide (eqb x i));
      left = λ x k. get_or-set_other marks i x false false (λ q. omega arith) ∙ j.left x (omega arith);
    }

pub joining-keep : (a b marks : List Bool) (i : ℕ) → get_or b i false ≡ true → Joining a b marks i → Joining a b marks (i + 1)
joining-keep a b marks i e j =
    record {
      sixteen = j.sixteen;
      done = λ x k.
          ⊎_elim
          (λ q.
          let is : x ≡ i = eqb-true x i q in
          j.left x (omega arith)
          ∙ and-true (get_or a x false)
          ∙ ap (λ (c : Bool). get_or a x false && c) (sym (ap (λ (y : ℕ). get_or b y false) is ∙ e)))
          (λ q. j.done x (let n : x ≢ i = eqb-false x i q in omega arith))
          (decide (eqb x i));
      left = λ x k. j.left x (omega arith);
    }

pub joining_end : (a b marks : List Bool) (i : ℕ) → 16 ≤ i → length a ≡ 16 → Joining a b marks i → (x : ℕ) → marked marks x ≡ (marked a x && marked b x)
joining_end a b marks i h l j x =
    ⊎_elim
    (λ q. j.done x (ltb-true x i q))
    (λ q.
    let far = ltb-false x i q in
    j.left x far
    ∙ get_or-eq_default a false (omega arith)
    ∙ ap (λ (c : Bool). c && get_or b x false) (sym (get_or-eq_default a false {n = x} (omega arith))))
    (decide (ltb x i))

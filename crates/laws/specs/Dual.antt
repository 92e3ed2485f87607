-- The dual: it is accepted where the policy is, at the same levels and in as many words; it is true where the policy is
-- false and false where it is true; and the dual of the dual is the policy.
use Rattle.std.specs.Prelude.{ℕ, suc, ◌+◌, max, ◌≡◌, refl, ◌↔◌, Bool, true, false, not, List, ◌∷◌, ◌++◌, length, ℤ, pos}
use Rattle.std.proofs.Common.{sym, ap, ap₂, ◌∙◌, true≢false, length-append}
use Rattle.model.specs.Lists.{gather}
use Rattle.model.specs.Words.{Words, same}
use Rattle.model.specs.Answer.{Outcome, passed, ◌>>=◌}
use Rattle.model.specs.Tree.{Tree, Trees, plain, atom, compare, join, quantifier, some, nil, cons, count, encode, encode_all}
use Rattle.model.specs.Level.{Role, restriction, formula, operand, under, quantifier_cost, greatest, greatest_all}
use Rattle.model.specs.Mode.{size, ask_modes, ask_modes_all}
use Rattle.model.specs.Truth.{Structure, Is}
use Rattle.model.specs.Dual.{dual, dual_all}
use Rattle.laws.specs.Reading.Formed.{Formed, FormedAll}
use Rattle.model.specs.Calls.{ask_policy}
use Rattle.laws.specs.Reading.Encoded.{read_length}
use Rattle.laws.specs.Calls.Policy.{accepted-asked, accepted-rules, rules-accepted}
use Rattle.laws.specs.Truth.{both, Alike, alike-join, each-tuple, some-tuple}

not-not : (b : Bool) → not (not b) ≡ b
not-not true = refl
not-not false = refl

mutual
  unfolding dual

  pub dual_dual : (t : Tree) → dual (dual t) ≡ t
  dual_dual (plain b) = ap plain (not-not b)
  dual_dual (atom b p ts) = ap (λ (x : Bool). atom x p ts) (not-not b)
  dual_dual (compare b d x y) = ap (λ (z : Bool). compare z d x y) (not-not b)
  dual_dual (join b ts) = ap₂ join (not-not b) (dual_all-dual_all ts)
  dual_dual (quantifier b v excluded c f) = ap₂ (λ (x : Bool) (g : Tree). quantifier x v excluded c g) (not-not b) (dual_dual f)
  dual_dual (some c) = refl

  dual_all-dual_all : (ts : Trees) → dual_all (dual_all ts) ≡ ts
  dual_all-dual_all nil = refl
  dual_all-dual_all (cons t ts) = ap₂ cons (dual_dual t) (dual_all-dual_all ts)

-- as many words
mutual
  unfolding dual encode size count

  pub dual-size : (t : Tree) → size (dual t) ≡ size t
  dual-size (plain b) = refl
  dual-size (atom b p ts) = refl
  dual-size (compare b d x y) = refl
  dual-size (join b ts) = ap (λ (n : ℕ). suc (suc n)) (dual_all-size ts)
  dual-size (quantifier b v excluded c f) =
      let before = (pos 0 ∷ pos v ∷ pos (length excluded) ∷ gather (λ (tuple : List ℤ). tuple) excluded) ++ encode c in
      length-append before (encode (dual f))
      ∙ ap (λ (n : ℕ). length before + n) (dual-size f)
      ∙ sym (length-append before (encode f))
  dual-size (some c) = refl

  dual_all-size : (ts : Trees) → length (encode_all (dual_all ts)) ≡ length (encode_all ts)
  dual_all-size nil = refl
  dual_all-size (cons t ts) =
      length-append (encode (dual t)) (encode_all (dual_all ts))
      ∙ ap₂ ◌+◌ (dual-size t) (dual_all-size ts)
      ∙ sym (length-append (encode t) (encode_all ts))

dual-count : (ts : Trees) → count (dual_all ts) ≡ count ts
unfolding dual count
dual-count nil = refl
dual-count (cons t ts) = ap suc (dual-count ts)

-- the role that a dual has under the dual of the node above it
abbrev dual_role : Role → Role
dual_role restriction = restriction
dual_role formula = formula
dual_role (operand b) = operand (not b)

dual-under : (role : Role) (b : Bool) → under (dual_role role) (not b) ≡ dual_role (under role b)
unfolding under
dual-under restriction b = refl
dual-under formula b = refl
dual-under (operand a) b = refl

dual-cost : (role : Role) (b : Bool) → quantifier_cost (dual_role role) (not b) ≡ quantifier_cost role b
unfolding quantifier_cost
dual-cost restriction b = refl
dual-cost formula b = refl
dual-cost (operand true) true = refl
dual-cost (operand true) false = refl
dual-cost (operand false) true = refl
dual-cost (operand false) false = refl

-- the same levels
mutual
  unfolding dual greatest

  pub dual-greatest : (t : Tree) (role : Role) (above : ℕ) → greatest (dual t) (dual_role role) above ≡ greatest t role above
  dual-greatest (plain b) role above = refl
  dual-greatest (atom b p ts) role above = refl
  dual-greatest (compare b d x y) role above = refl
  dual-greatest (join b ts) role above =
      ap (max (above + 1))
      (ap (λ (r : Role). greatest_all (dual_all ts) r (above + 1)) (dual-under role b) ∙ dual_all-greatest ts (under role b) (above + 1))
  dual-greatest (quantifier b v excluded c f) role above =
      ap (λ (n : ℕ). max (greatest c restriction (above + n)) (greatest (dual f) formula (above + n))) (dual-cost role b)
      ∙ ap (max (greatest c restriction (above + quantifier_cost role b))) (dual-greatest f formula (above + quantifier_cost role b))
  dual-greatest (some c) role above = refl

  dual_all-greatest : (ts : Trees) (role : Role) (above : ℕ) → greatest_all (dual_all ts) (dual_role role) above ≡ greatest_all ts role above
  dual_all-greatest nil role above = refl
  dual_all-greatest (cons t ts) role above = ap₂ max (dual-greatest t role above) (dual_all-greatest ts role above)

-- questions 3, 5 and 6
mutual
  unfolding dual Formed

  pub dual-formed : (t : Tree) (table : Words) (kind : Bool) (scope : ℕ) → Formed t table kind scope → Formed (dual t) table kind scope
  dual-formed (plain b) table kind scope h = h
  dual-formed (atom b p ts) table kind scope h = h
  dual-formed (compare b d x y) table kind scope h = h
  dual-formed (join b ts) table kind scope h = (rw (dual-count ts) h.0, dual_all-formed ts table kind scope h.1)
  dual-formed (quantifier b v excluded c f) table kind scope h =
      (h.0, h.1, h.2, h.3, h.4, h.5, dual-formed f table true (scope + v) h.6)
  dual-formed (some c) table kind scope h = h

  dual_all-formed :
      (ts : Trees) (table : Words) (kind : Bool) (scope : ℕ) → FormedAll ts table kind scope → FormedAll (dual_all ts) table kind scope
  dual_all-formed nil table kind scope h = tt
  dual_all-formed (cons t ts) table kind scope h = (dual-formed t table kind scope h.0, dual_all-formed ts table kind scope h.1)

-- question 7 is answered alike, place by place
mutual
  unfolding dual ask_modes

  pub dual-modes : (t : Tree) (table : Words) (scope at : ℕ) → ask_modes (dual t) table scope at ≡ ask_modes t table scope at
  dual-modes (plain b) table scope at = refl
  dual-modes (atom b p ts) table scope at = refl
  dual-modes (compare b d x y) table scope at = refl
  dual-modes (join b ts) table scope at = dual_all-modes ts table scope (at + 2)
  dual-modes (quantifier b v excluded c f) table scope at = simp (dual-modes f table (scope + v))
  dual-modes (some c) table scope at = refl

  dual_all-modes : (ts : Trees) (table : Words) (scope at : ℕ) → ask_modes_all (dual_all ts) table scope at ≡ ask_modes_all ts table scope at
  dual_all-modes nil table scope at = refl
  dual_all-modes (cons t ts) table scope at =
      ap₂ (λ (first : Outcome (Unit {0})) (rest : Outcome (Unit {0})). first >>= λ _. rest)
      (dual-modes t table scope at)
      (ap (λ (n : ℕ). ask_modes_all (dual_all ts) table scope (at + n)) (dual-size t) ∙ dual_all-modes ts table scope (at + size t))

not_same : (truth b : Bool) → same truth (not b) ≡ same (not truth) b
not_same true true = refl
not_same true false = refl
not_same false true = refl
not_same false false = refl

not_plain : (truth b : Bool) → (truth ≡ not b) ↔ (not truth ≡ b)
not_plain truth b = (λ e. ap not e ∙ not-not b, λ e. sym (not-not truth) ∙ ap not e)

-- a formula's dual is true where the formula is false, and false where it is true
module _ (table : Words) (s : Structure) where
  mutual
    unfolding dual Is Formed

    pub dual-is :
        (t : Tree) (scope : ℕ) →
        Formed t table true scope →
        (truth : Bool) (ρ : List ℤ) →
        Is (dual t) s truth ρ ↔ Is t s (not truth) ρ
    dual-is (plain b) scope h truth ρ = not_plain truth b
    dual-is (atom b p ts) scope h truth ρ = rw (not_same truth b) (λ x. x, λ x. x)
    dual-is (compare b d x y) scope h truth ρ = rw (not_same truth b) (λ x. x, λ x. x)
    dual-is (join b ts) scope h truth ρ =
        alike-join s truth ρ (not truth) ρ (not b) b (dual_all ts) ts (not_same truth b) (dual-alike ts scope h.1 truth ρ)
    dual-is (quantifier b v excluded c f) scope h truth ρ =
        let ih : (τ : List ℤ) → Is (dual f) s truth (ρ ++ τ) ↔ Is f s (not truth) (ρ ++ τ)
        = λ τ. dual-is f (scope + v) h.6 truth (ρ ++ τ) in
        rw (not_same truth b)
        (both (same (not truth) b)
        (each-tuple v excluded _ _ _ _ (λ τ e x. x) (λ τ e. (ih τ).0), each-tuple v excluded _ _ _ _ (λ τ e x. x) (λ τ e. (ih τ).1))
        (some-tuple v excluded _ _ _ _ (λ τ e x. x) (λ τ e. (ih τ).0), some-tuple v excluded _ _ _ _ (λ τ e x. x) (λ τ e. (ih τ).1)))
    dual-is (some c) scope h truth ρ = absurd (true≢false h.0)

    -- child by child
    dual-alike :
        (ts : Trees) (scope : ℕ) →
        FormedAll ts table true scope →
        (truth : Bool) (ρ : List ℤ) →
        Alike s truth ρ (not truth) ρ (dual_all ts) ts
    dual-alike nil scope h truth ρ = tt
    dual-alike (cons t ts) scope h truth ρ = (dual-is t scope h.0 truth ρ, dual-alike ts scope h.1 truth ρ)

-- the dual of an accepted policy is accepted, in as many words and at the same levels
pub dual-accepted :
    (table words : Words) (tree : Tree) →
    ask_policy table words ≡ passed tree →
    (ask_policy table (encode (dual tree)) ≡ passed (dual tree))
    × (length (encode (dual tree)) ≡ length words)
    × (greatest (dual tree) formula 0 ≡ greatest tree formula 0)
unfolding size
dual-accepted table words tree e =
    let (good, is, rules) = accepted-rules table words tree e in
    let long : length (encode (dual tree)) ≡ length words = dual-size tree ∙ ap length is in
    let deep = dual-greatest tree formula 0 in
    let short = (read_length table words tree (accepted-asked table words tree e).1).1 in (
      rules-accepted table (dual tree) good
          (record {
            formed = dual-formed tree table true 0 rules.formed;
            levels = rw deep rules.levels;
            modes = dual-modes tree table 0 0 ∙ rules.modes;
          })
          (rw long short),
      long,
      deep,
    )

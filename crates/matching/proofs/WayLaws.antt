-- The chain by predicate, and the chain by first argument if its term has a number, have all true rows that can fit.
use Prim.Native.Nat.{ℕ, ◌+◌, ◌*◌, ◌-◌, ◌≤◌, ◌<◌}
use native.Mathlib.Nat.{sub-zero, add-zero}
use native.Mathlib.Omega.{arith}
use mathlib.Core.Path.{◌≡◌, refl, sym, ap, ap₂, ◌∙◌, subst}
use mathlib.Core.Logic.{⊎_elim}
use mathlib.Core.Bool.{Bool, true, false, cond, ◌&&◌}
use mathlib.Core.List.{List, [], ◌∷◌, ◌++◌, map, Memᴰ}
use lib.ListN.{length, get_or, take, drop, length-drop}
use lib.Seq.{take_all}
use lib.IntN.{ℤ, pos, nat_abs}
use lib.Dec.{eqb}
use borrow.Author.Tests.{eq-eqb, ne_eqb}
use Rattle.model.specs.Words.{Words, word, value, equal}
use Rattle.model.specs.Lists.{span, all, keep, gather}
use Rattle.model.specs.Log.{row_count, row_at, rows, arguments, says_true}
use Rattle.model.specs.Tree.{Term, variable}
use Rattle.model.specs.Reading.{places, in_scope, term_at}
use Rattle.model.specs.Listing.{bound, Environment, look, fit, matches}
use Rattle.laws.specs.Words.Tests.{decide, clash, equal-true}
use Rattle.laws.specs.Lists.Span.{span_mem}
use Rattle.policies.specs.Standing.{terms_at}
use Rattle.policies.proofs.TermLaws.{place-holds, variable-small, term-constant, term-variable, terms_from, terms-first, terms-next}
use Rattle.chains.specs.Chain.{chain}
use Rattle.chains.specs.Key.{true_key, first_spread, first_key}
use Rattle.logs.specs.Links.{behind, Linked}
use Rattle.chains.proofs.Keys.{true-key, spread-small}
use Rattle.chains.proofs.Rows.{row_first}
use Rattle.environments.specs.declared.environment.Environment.{Environment as Held}
use Rattle.environments.specs.Environment.{Holds}
use Rattle.environments.proofs.Places.{held_number, held-mark}
use Rattle.matching.specs.Ways.{found, Leads}
use Rattle.matching.proofs.FitLaws.{fit-other, marked, argument_next}

-- lists gathered of the elements that pass a test, the others giving none; of mapped elements; of functions that agree
gather-kept : {A B : Type 0} (test : A → Bool) (g : A → List B) (xs : List A) → gather (λ a. cond (test a) (g a) []) xs ≡ gather g (keep test xs)
unfolding gather keep
gather-kept test g [] = refl
gather-kept {A} {B} test g (x ∷ xs) = go (test x) (gather-kept test g xs)
  where
    go :
        (b : Bool) →
        gather (λ a. cond (test a) (g a) []) xs ≡ gather g (keep test xs) →
        cond b (g x) [] ++ gather (λ a. cond (test a) (g a) []) xs ≡ gather g (cond b (x ∷ keep test xs) (keep test xs))
    go true ih = ap (λ (l : List B). g x ++ l) ih
    go false ih = ih

gather-map : {A B C : Type 0} (f : A → B) (g : B → List C) (xs : List A) → gather g (map f xs) ≡ gather (λ a. g (f a)) xs
unfolding gather
gather-map f g [] = refl
gather-map {C = C} f g (x ∷ xs) = ap (λ (l : List C). g (f x) ++ l) (gather-map f g xs)

gather-same : {A B : Type 0} (f g : A → List B) (xs : List A) → ((x : A) → Memᴰ x xs → f x ≡ g x) → gather f xs ≡ gather g xs
unfolding gather
gather-same f g [] h = refl
gather-same {A} {B} f g (x ∷ xs) h =
    ap₂ (λ (a b : List B). a ++ b) (h x (Memᴰ.head refl)) (gather-same f g xs (λ y m. h y (Memᴰ.tail m)))

module _ (log : Words) (p : ℕ) (ts : List Term) (e : Environment) where
  -- what a row makes as document 01 says it: a true row of the predicate
  abbrev made : ℕ → List Environment
  made r = cond (says_true (row_at log r) && equal (word (row_at log r) 0) (pos p)) (fit ts (arguments (row_at log r)) e) []

  -- a chain has all of them, if each row in it or out of it makes what it should
  chain-whole :
      (key : ℕ → ℕ) (k : ℕ) →
      ((r : ℕ) → r < row_count log → cond (eqb (key r) k) (found log p ts e r) [] ≡ made r) →
      matches (rows log) p ts e ≡ gather (found log p ts e) (chain key k 0 (row_count log))
  unfolding matches rows chain
  chain-whole key k h =
      gather-map (row_at log) _ (span 0 (row_count log))
      ∙ sym (gather-same _ _ (span 0 (row_count log)) (λ r m. h r (let b = span_mem 0 (row_count log) m in omega arith)))
      ∙ gather-kept (λ r. eqb (key r) k) (found log p ts e) (span 0 (row_count log))
      ∙ ap (λ (n : ℕ). gather (found log p ts e) (keep (λ r. eqb (key r) k) (span 0 n))) (sym (sub-zero (row_count log)))

  -- by predicate
  pub wide-whole : p < 256 → matches (rows log) p ts e ≡ gather (found log p ts e) (chain (true_key log) p 0 (row_count log))
  unfolding found
  wide-whole few =
      chain-whole (true_key log) p (λ r h.
      ap (λ (b : Bool). cond b (found log p ts e r) []) (true-key log p r few)
      ∙ both (says_true (row_at log r)) (equal (word (row_at log r) 0) (pos p)) (fit ts (arguments (row_at log r)) e))
    where
      both : (s q : Bool) (l : List Environment) → cond (s && q) (cond q l []) [] ≡ cond (s && q) l []
      both true true l = refl
      both true false l = refl
      both false q l = refl

  -- by first argument, whose term has a number
  module _ (t : Term) (us : List Term) (z : ℤ) (terms : ts ≡ t ∷ us) (known : look e t ≡ bound z) where
    module _ (r : ℕ) (inside : r < row_count log) where
      -- the first argument of a row, and what its terms make of all of them
      abbrev a : ℤ
      a = word log (8 * r + 2)

      abbrev l : List Environment
      l = fit ts (arguments (row_at log r)) e

      unfit : equal z a ≡ false → l ≡ []
      unfolding word row_count
      unfit q =
          ap₂ (λ (us : List Term) (ws : List ℤ). fit us ws e) terms (argument_next log r 0 (omega arith) (omega arith))
          ∙ fit-other t us _ _ e z known (ap (λ (i : ℕ). equal z (get_or log i (pos 0))) (add-zero (8 * r + 2)) ∙ q)

      same : (x : Bool) → eqb (first_spread p a) (first_spread p z) ≡ x → cond x l [] ≡ l
      same true q = refl
      same false q =
          ⊎_elim
          (λ s. clash (eq-eqb _ _ (ap (first_spread p) (sym (equal-true z a s)))) q)
          (λ s. sym (unfit s))
          (decide (equal z a))

      none : (x : Bool) → cond x (cond false l []) [] ≡ []
      none true = refl
      none false = refl

      go :
          (s q : Bool) →
          equal (word (row_at log r) 0) (pos p) ≡ q →
          cond (eqb (cond s (first_spread (value log (8 * r)) a) 4096) (first_spread p z)) (cond q l []) [] ≡ cond (s && q) l []
      unfolding value
      go false q e₁ =
          ap (λ (b : Bool). cond b (cond q l []) [])
          (ne_eqb 4096 (first_spread p z) (λ x. let b = spread-small p z in omega (arith, x)))
      go true false e₁ = none (eqb (first_spread (value log (8 * r)) a) (first_spread p z))
      go true true e₁ =
          let is : value log (8 * r) ≡ p = ap nat_abs (sym (row_first log r) ∙ equal-true _ _ e₁) in
          ap (λ (n : ℕ). cond (eqb (first_spread n a) (first_spread p z)) l []) is ∙ same (eqb (first_spread p a) (first_spread p z)) refl

      row_makes : cond (eqb (first_key log r) (first_spread p z)) (found log p ts e r) [] ≡ made r
      unfolding found first_key
      row_makes = go (says_true (row_at log r)) (equal (word (row_at log r) 0) (pos p)) refl

    pub narrow_whole : matches (rows log) p ts e ≡ gather (found log p ts e) (chain (first_key log) (first_spread p z) 0 (row_count log))
    narrow_whole = chain-whole (first_key log) (first_spread p z) row_makes

behind-long : (n : ℕ) (links : List ℕ) → length (behind n links) ≡ length links - n
unfolding behind
behind-long n links = length-drop n links

module _ (words log : Words) (links : List ℕ) (t : Linked log links) (p first n : ℕ) (held : Held) where
  pub leads-wide : p < 256 → Leads words log (behind 20480 links) 257 p p first n held × (20480 ≤ length links)
  leads-wide few = (
    record {
      key = true_key log;
      chained = t.by_predicate;
      inside = omega arith;
      whole = λ e h. wide-whole log p (terms_at words first n) e few;
    },
    omega (arith, t.by_predicate.within, behind-long 20480 links),
  )

  -- the first term
  first-term : 1 ≤ n → terms_at words first n ≡ term_at words first ∷ terms_from words first n 1
  first-term some =
      terms-first words first n
      ∙ terms-next words first n 0 (omega arith)
      ∙ ap (λ (i : ℕ). term_at words i ∷ terms_from words first n 1) (add-zero first)

  leads_narrow :
      1 ≤ n →
      (z : ℤ) →
      ((e : Environment) → Holds held e → look e (term_at words first) ≡ bound z) →
      (k : ℕ) →
      k ≡ first_spread p z →
      Leads words log (behind 24833 links) 4097 k p first n held × (24833 ≤ length links)
  leads_narrow some z known k is = (
    record {
      key = first_key log;
      chained = t.by_first;
      inside = omega (arith, spread-small p z, is);
      whole = λ e h.
          narrow_whole log p (terms_at words first n) e _ _ z (first-term some) (known e h)
          ∙ ap (λ (j : ℕ). gather (found log p (terms_at words first n) e) (chain (first_key log) j 0 (row_count log))) (sym is);
    },
    omega (arith, t.by_first.within, behind-long 24833 links),
  )

  pub leads-constant :
      1 ≤ n →
      equal (word words first) (pos 0) ≡ true →
      (k : ℕ) →
      k ≡ first_spread p (word words (first + 1)) →
      Leads words log (behind 24833 links) 4097 k p first n held × (24833 ≤ length links)
  unfolding look
  leads-constant some q = leads_narrow some (word words (first + 1)) (λ e h. ap (look e) (term-constant words first q))

  pub leads-variable :
      (x : ℕ) →
      1 ≤ n →
      equal (word words first) (pos 0) ≡ false →
      x ≡ value words (first + 1) →
      x < 16 →
      get_or held.marks x false ≡ true →
      (k : ℕ) →
      k ≡ first_spread p (word held.numbers x) →
      Leads words log (behind 24833 links) 4097 k p first n held × (24833 ≤ length links)
  unfolding look word
  leads-variable x some q is small mark =
      leads_narrow some (get_or held.numbers x (pos 0)) (λ e h.
      ap (look e) (term-variable words first q ∙ ap variable (sym is))
      ∙ marked (e x) (sym (held-mark h x small) ∙ mark)
      ∙ ap bound (sym (held_number h x small)))

-- the variable of the first term is one of sixteen
pub small-first :
    (words : Words) (first n : ℕ) →
    1 ≤ n →
    all (in_scope words 16) (places first n) ≡ true →
    equal (word words first) (pos 0) ≡ false →
    value words (first + 1) < 16
small-first words first n some scoped q =
    variable-small words first 16
    (subst (λ (i : ℕ). in_scope words 16 i ≡ true) (add-zero first) (place-holds (in_scope words 16) first n 0 scoped (omega arith)))
    q

-- the links lent from an index on are those behind it
pub leads_lent :
    {words log : Words} (links : List ℕ) {keys k p first n : ℕ} {held : Held} (from : ℕ) →
    Leads words log (behind from links) keys k p first n held →
    Leads words log (take (length links - from) (drop from links)) keys k p first n held
unfolding behind
leads_lent {words} {log} links {keys} {k} {p} {first} {n} {held} from l =
    subst (λ (ls : List ℕ). Leads words log ls keys k p first n held)
    (sym (take_all (length links - from) (drop from links) (omega (arith, length-drop from links))))
    l

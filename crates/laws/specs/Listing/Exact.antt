-- Listing is exact (theorem 3): by induction on the restriction, the environments listed are those that make it true.
-- So a closed restriction is true or false under all numbers: with an empty list it is true under none.
use Rattle.std.specs.Prelude.{ℕ, ◌+◌, ◌<◌, ◌≡◌, refl, ◌↔◌, Bool, true, false, not, cond, ◌&&◌, length, get_or, take, eqb, ℤ, pos}
use Rattle.std.proofs.Common.{arith, sym, ap, ap₂, ◌∙◌, subst, inl, inr, ⊎_elim, length-append}
use mathlib.Core.List.Memᴰ
use mathlib.Core.List.{List, [], ◌∷◌, ◌++◌, map, Memᴰ}
use Rattle.std.proofs.lemmas.List.{length-map, get_or_at}
use Rattle.std.proofs.Math.ListN.{get_or-append}
use Rattle.std.proofs.lemmas.Bool.{eqb-false, not-true}
use Rattle.model.specs.Words.{Words, word, same, equal}
use Rattle.model.specs.Lists.{all}
use Rattle.model.specs.Table.{arity}
use Rattle.model.specs.Tree.{Term, constant, variable, Tree, Trees, plain, atom, compare, join, quantifier, some, nil, cons}
use Rattle.model.specs.Answer.{passed}
use Rattle.model.specs.Mode.{Variables, is_bound, bindings}
use Rattle.model.specs.Log.{Value, known, unknown, arguments, says_true, value_in}
use Rattle.model.specs.Truth.{number_of, sum_at_most, Is, Every, One}
use Rattle.model.specs.Listing.{bound, Environment, release, number_in, look, numbers_in, fit, matches, is_false, list, list_all, list_any}
use Rattle.laws.specs.Words.Tests.{clash, and_left, and_right, same_true, same_refl, equal-true, equal-refl}
use Rattle.laws.specs.Lists.Membership.{mem_keep, keep_mem, mem_gather, gather_mem, mem_map, map_mem}
use Rattle.laws.specs.Reading.Formed.{Formed, FormedAll}
use Rattle.laws.specs.Log.{Sound, holds-predicate, holds-arguments, holds_intro, value_of_row, row_of_value}
use Rattle.laws.specs.Lists.Span.{side}
use Rattle.laws.specs.Mode.{after, after_all, after_any, Passes, PassesAll, PassesAny, bindings-passes}
use Rattle.laws.specs.Listing.Fitting.{Agrees, Binds, Supported, Found, bound-free, bound-same, release-same, release_other}
use Rattle.laws.specs.Listing.Fitting.{same_or_not, fit-sound, fit-complete, fit-binds, fit_supported}

-- every environment of a list binds those variables, and only the first n
abbrev pub Fits : (b : Variables) (n : ℕ) (es : List Environment) → Type 0
Fits b n es = (e : Environment) → Memᴰ e es → Binds b e × Supported n e

-- what fits a scope fits the scope with one more variable
wider : {b : Variables} {n : ℕ} {es : List Environment} → Fits b n es → Fits b (n + 1) es
wider fits e m = ((fits e m).0, λ x l. (fits e m).1 x (omega arith))

-- one number more
pub one_more : (σ : List ℤ) (k : ℤ) {n : ℕ} → length σ ≡ n → length (σ ++ k ∷ []) ≡ n + 1
one_more σ k l = length-append σ (k ∷ []) ∙ ap (λ (m : ℕ). m + 1) l

-- a Bool is its equality with true
same_of_true : (v : Bool) → same true v ≡ v
same_of_true true = refl
same_of_true false = refl

-- dropping the variable n leaves the others bound
release-fits :
    (b : Variables) (n : ℕ) (e : Environment) →
    Binds b e →
    Supported (n + 1) e →
    Binds (λ x. b x && not (eqb x n)) (release e n) × Supported n (release e n)
release-fits b n e h s = (
  λ x q.
      let (k, w) = h x (and_left _ _ q) in
      (k, release_other e n x (eqb-false x n (not-true _ (and_right (b x) _ q))) ∙ w),
  λ x l.
      ⊎_elim
      (λ q. ap (release e n) q ∙ release-same e n)
      (λ q. release_other e n x q ∙ s x (omega arith))
      (same_or_not x n),
)

-- numbers behind those of the scope do not matter to an environment that binds the scope only
module _ (n : ℕ) (e : Environment) (σ : List ℤ) (long : length σ ≡ n) where
  -- what is bound lies in the scope
  below : (m : ℕ) → Supported m e → (x : ℕ) (k : ℤ) → e x ≡ bound k → x < m
  below m s x k p = ⊎_elim (λ l. l) (λ l. bound-free p (s x l)) (side m x)

  -- more numbers keep the agreement
  widen_agrees : (τ : List ℤ) → Supported n e → Agrees e σ → Agrees e (σ ++ τ)
  widen_agrees τ s g x k p =
      get_or-append σ τ (pos 0) x (let l = below n s x k p in omega arith) ∙ g x k p

  -- and so do fewer
  narrow_agrees : (τ : List ℤ) → Supported n e → Agrees e (σ ++ τ) → Agrees e σ
  narrow_agrees τ s g x k p =
      sym (get_or-append σ τ (pos 0) x (let l = below n s x k p in omega arith)) ∙ g x k p

  -- to drop the variable n is to forget its number
  release_agrees : (k : ℤ) → Supported (n + 1) e → Agrees e (σ ++ k ∷ []) → Agrees (release e n) σ
  release_agrees k s g x j p = ⊎_elim (λ q. bound-free p (ap (release e n) q ∙ release-same e n)) other (same_or_not x n)
    where
      other : (x ≡ n → ⊥) → get_or σ x (pos 0) ≡ j
      other q =
          let w = sym (release_other e n x q) ∙ p in
          let l : x < n + 1 = below (n + 1) s x j w in
          sym (get_or-append σ (k ∷ []) (pos 0) x (omega arith)) ∙ g x j w

  -- and a released environment agrees with the number that was bound
  agrees_release : (k : ℤ) → Supported (n + 1) e → e n ≡ bound k → Agrees (release e n) σ → Agrees e (σ ++ k ∷ [])
  agrees_release k s w g x j p = ⊎_elim last other (same_or_not x n)
    where
      last : x ≡ n → get_or (σ ++ k ∷ []) x (pos 0) ≡ j
      last q = get_or_at σ k [] (pos 0) x (long ∙ sym q) ∙ bound-same (sym w ∙ sym (ap e q) ∙ p)

      other : (x ≡ n → ⊥) → get_or (σ ++ k ∷ []) x (pos 0) ≡ j
      other q =
          let l : x < n + 1 = below (n + 1) s x j p in
          get_or-append σ (k ∷ []) (pos 0) x (omega arith) ∙ g x j (release_other e n x q ∙ p)

-- an environment of one of two lists is one of the joined lists
found_left : {es : List Environment} (ds : List Environment) (σ : List ℤ) → Found es σ → Found (es ++ ds) σ
found_left ds σ (e, m, g) = (e, Memᴰ.append_left ds m, g)

found_right : (es : List Environment) {ds : List Environment} (σ : List ℤ) → Found ds σ → Found (es ++ ds) σ
found_right es σ (e, m, g) = (e, Memᴰ.append_right es m, g)

-- the environments that the true rows of a predicate make of one
pub matches_mem :
    (rows : List Words) (p : ℕ) (ts : List Term) (e : Environment) {e' : Environment} →
    Memᴰ e' (matches rows p ts e) →
    (row : Words) × Memᴰ row rows × (says_true row ≡ true) × (word row 0 ≡ pos p) × Memᴰ e' (fit ts (arguments row) e)
unfolding matches
matches_mem rows p ts e {e'} m =
    let (row, m₁, m₂) = gather_mem (λ row. cond (says_true row && equal (word row 0) (pos p)) (fit ts (arguments row) e) []) rows m in
    let (test, m₃) = chosen (says_true row && equal (word row 0) (pos p)) m₂ in
    (row, m₁, and_left _ _ test, equal-true _ _ (and_right (says_true row) _ test), m₃)
  where
    chosen : (t : Bool) {l : List Environment} → Memᴰ e' (cond t l []) → (t ≡ true) × Memᴰ e' l
    chosen true n = (refl, n)
    chosen false n = absurd (Memᴰ.not-nil n)

-- and each true row of the predicate makes what the terms make of its arguments
pub mem_matches :
    (rows : List Words) (p : ℕ) (ts : List Term) (e : Environment) {e' : Environment} {row : Words} →
    Memᴰ row rows →
    says_true row ≡ true →
    word row 0 ≡ pos p →
    Memᴰ e' (fit ts (arguments row) e) →
    Memᴰ e' (matches rows p ts e)
unfolding matches
mem_matches rows p ts e m t w n =
    mem_gather (λ row. cond (says_true row && equal (word row 0) (pos p)) (fit ts (arguments row) e) []) m
    (rw (t, w, equal-refl (pos p)) n)

-- under numbers that agree, bound terms have the numbers that the environment has for them
bound-number :
    (b : Variables) (e : Environment) (σ : List ℤ) (t : Term) →
    Binds b e →
    Agrees e σ →
    is_bound b t ≡ true →
    number_in (look e t) ≡ number_of σ t
unfolding is_bound look number_in number_of
bound-number b e σ (constant k) h g q = refl
bound-number b e σ (variable x) h g q = let (k, w) = h x q in ap number_in w ∙ sym (g x k w)

-- the same of all terms
bound-numbers :
    (b : Variables) (e : Environment) (σ : List ℤ) (ts : List Term) →
    Binds b e →
    Agrees e σ →
    all (is_bound b) ts ≡ true →
    numbers_in e ts ≡ map (number_of σ) ts
unfolding numbers_in all
bound-numbers b e σ [] h g q = refl
bound-numbers b e σ (t ∷ ts) h g q =
    ap₂ (λ (n : ℤ) (ns : List ℤ). n ∷ ns)
    (bound-number b e σ t h g (and_left _ _ q))
    (bound-numbers b e σ ts h g (and_right (is_bound b t) _ q))

-- an atom that is known to be false, as a test
is_false_lem : (v : Value) → is_false v ≡ true → v ≡ known false
unfolding is_false
is_false_lem (known b) e = ap known (not-true b e)
is_false_lem unknown e = clash e refl

false-is : {v : Value} → v ≡ known false → is_false v ≡ true
unfolding is_false
false-is e = rw e

module _ (table : Words) (rows : List Words) where
  -- what is listed binds the variables that the mode rule says, and no variable outside the scope
  mutual
    unfolding list after Passes Formed

    pub list-fits :
        (c : Tree) (b : Variables) (next : ℕ) (es : List Environment) →
        Formed c table false next →
        Passes table c b next →
        Fits b next es →
        Fits (after c b next) next (list table rows c next es)
    list-fits (plain true) b next es f h fits = fits
    list-fits (plain false) b next es f h fits = λ e m. absurd (Memᴰ.not-nil m)
    list-fits (atom true p ts) b next es f h fits = λ e m.
        let (e₀, m₀, m₁) = gather_mem (matches rows p ts) es m in
        let (row, mr, t, w, m₂) = matches_mem rows p ts e₀ m₁ in
        let (h₀, s₀) = fits e₀ m₀ in
        (fit-binds ts (arguments row) e₀ b m₂ h₀, fit_supported ts (arguments row) e₀ next m₂ f.4 s₀)
    list-fits (atom false p ts) b next es f h fits = λ e m. fits e (keep_mem _ es m).0
    list-fits (compare v d x y) b next es f h fits = λ e m. fits e (keep_mem _ es m).0
    list-fits (join true ts) b next es f h fits = list-fits-all ts b next es f.1 h fits
    list-fits (join false ts) b next es f h fits = list-fits-any ts b next es f.1 h fits
    list-fits (quantifier v n excluded c g) b next es f h fits = clash f.0 refl
    list-fits (some c) b next es f h fits = λ e m.
        let (e₀, m₀, s) = map_mem (λ e. release e next) (list table rows c (next + 1) es) m in
        let (inner, supported) = list-fits c b (next + 1) es f.2 h.0 (wider fits) e₀ m₀ in
        let (i, t) = release-fits (after c b (next + 1)) next e₀ inner supported in
        (subst (Binds (λ x. after c b (next + 1) x && not (eqb x next))) (sym s) i, subst (Supported next) (sym s) t)

    list-fits-all :
        (ts : Trees) (b : Variables) (next : ℕ) (es : List Environment) →
        FormedAll ts table false next →
        PassesAll table ts b next →
        Fits b next es →
        Fits (after_all ts b next) next (list_all table rows ts next es)
    list-fits-all nil b next es f h fits = fits
    list-fits-all (cons t ts) b next es f h fits =
        let fits' = list-fits t b next es f.0 h.0 fits in
        list-fits-all ts (after t b next) next (list table rows t next es) f.1 h.1 fits'

    list-fits-any :
        (ts : Trees) (b : Variables) (next : ℕ) (es : List Environment) →
        FormedAll ts table false next →
        PassesAny table ts b next →
        Fits b next es →
        Fits (after_any ts b next) next (list_any table rows ts next es)
    list-fits-any nil b next es f h fits = λ e m. absurd (Memᴰ.not-nil m)
    list-fits-any (cons t ts) b next es f h fits = λ e m.
        ⊎_elim
        (λ n. let (i, s) = list-fits t b next es f.0 h.0 fits e n in (λ x q. i x (and_left _ _ q), s))
        (λ n. let (i, s) = list-fits-any ts b next es f.1 h.1 fits e n in (λ x q. i x (and_right (after t b next x) _ q), s))
        (Memᴰ.append_cases (list table rows t next es) m)

  module _ (sound : Sound table rows) where
    -- an atom is true under σ if a true row has its numbers, and only then
    row-true :
        (p : ℕ) (ts : List Term) (σ : List ℤ) →
        arity table p ≡ length ts →
        (row : Words) →
        Memᴰ row rows →
        says_true row ≡ true →
        word row 0 ≡ pos p →
        map (number_of σ) ts ≡ take (length ts) (arguments row) →
        value_in table rows p (map (number_of σ) ts) ≡ known true
    row-true p ts σ a row m t w q =
        let ns = map (number_of σ) ts in
        let n : length ns ≡ length ts = length-map ts (number_of σ) in
        value_of_row table rows p ns sound (n ∙ sym a) m
        (holds_intro p ns row w (ap (λ (k : ℕ). take k (arguments row)) n ∙ sym q))
        ∙ ap known t

    -- and a true atom has such a row
    true-row :
        (p : ℕ) (ts : List Term) (σ : List ℤ) →
        value_in table rows p (map (number_of σ) ts) ≡ known true →
        (row : Words)
        × Memᴰ row rows
        × (says_true row ≡ true)
        × (word row 0 ≡ pos p)
        × (map (number_of σ) ts ≡ take (length ts) (arguments row))
    true-row p ts σ e =
        let ns = map (number_of σ) ts in
        let (row, m, h, t) = row_of_value table rows p ns e in (
          row,
          m,
          t,
          holds-predicate p ns row h,
          sym (holds-arguments p ns row h) ∙ ap (λ (k : ℕ). take k (arguments row)) (length-map ts (number_of σ)),
        )

    -- an environment listed that agrees with σ comes of one that does, and the restriction is true under σ
    mutual
      unfolding list after Passes Formed Is

      pub listed-true :
          (c : Tree) (b : Variables) (next : ℕ) (es : List Environment) (σ : List ℤ) →
          Formed c table false next →
          Passes table c b next →
          Fits b next es →
          length σ ≡ next →
          Found (list table rows c next es) σ →
          Found es σ × Is c (value_in table rows) true σ
      listed-true (plain true) b next es σ f h fits l found = (found, refl)
      listed-true (plain false) b next es σ f h fits l found = absurd (Memᴰ.not-nil found.1)
      listed-true (atom true p ts) b next es σ f h fits l found =
          let (e₀, m₀, m₁) = gather_mem (matches rows p ts) es found.1 in
          let (row, mr, t, w, m₂) = matches_mem rows p ts e₀ m₁ in
          let (g, q) = fit-sound ts (arguments row) e₀ σ m₂ found.2 in
          ((e₀, m₀, g), row-true p ts σ f.1 row mr t w q)
      listed-true (atom false p ts) b next es σ f h fits l found =
          let (e, m, g) = found in
          let (m₀, test) = keep_mem (λ e. is_false (value_in table rows p (numbers_in e ts))) es m in (
            (e, m₀, g),
            ap (value_in table rows p) (sym (bound-numbers b e σ ts (fits e m₀).0 g h)) ∙ is_false_lem _ test,
          )
      listed-true (compare v d x y) b next es σ f h fits l found =
          let (e, m, g) = found in
          let (m₀, test) = keep_mem (λ e. same v (sum_at_most d (number_in (look e x)) (number_in (look e y)))) es m in (
            (e, m₀, g),
            ap₂ (sum_at_most d)
                (sym (bound-number b e σ x (fits e m₀).0 g h.0))
                (sym (bound-number b e σ y (fits e m₀).0 g h.1))
                ∙ sym (same_true v _ test)
                ∙ sym (same_of_true v),
          )
      listed-true (join true ts) b next es σ f h fits l found = listed-every ts b next es σ f.1 h fits l found
      listed-true (join false ts) b next es σ f h fits l found = listed-one ts b next es σ f.1 h fits l found
      listed-true (quantifier v n excluded c g) b next es σ f h fits l found = clash f.0 refl
      listed-true (some c) b next es σ f h fits l found =
          let (e, m, g) = found in
          let (e₀, m₀, s) = map_mem (λ e. release e next) (list table rows c (next + 1) es) m in
          let (inner, supported) = list-fits c b (next + 1) es f.2 h.0 (wider fits) e₀ m₀ in
          let (k, w) = inner next h.1 in
          let g₀ = agrees_release next e₀ σ l k supported w (subst (λ (i : Environment). Agrees i σ) s g) in
          let long = one_more σ k l in
          let ((e₁, m₁, g₁), i) = listed-true c b (next + 1) es (σ ++ k ∷ []) f.2 h.0 (wider fits) long (e₀, m₀, g₀) in
          ((e₁, m₁, narrow_agrees next e₁ σ l (k ∷ []) (fits e₁ m₁).1 g₁), (k, i))

      listed-every :
          (ts : Trees) (b : Variables) (next : ℕ) (es : List Environment) (σ : List ℤ) →
          FormedAll ts table false next →
          PassesAll table ts b next →
          Fits b next es →
          length σ ≡ next →
          Found (list_all table rows ts next es) σ →
          Found es σ × Every ts (value_in table rows) true σ
      listed-every nil b next es σ f h fits l found = (found, tt)
      listed-every (cons t ts) b next es σ f h fits l found =
          let fits' = list-fits t b next es f.0 h.0 fits in
          let (first, rest) = listed-every ts (after t b next) next (list table rows t next es) σ f.1 h.1 fits' l found in
          let (before, true-at) = listed-true t b next es σ f.0 h.0 fits l first in
          (before, (true-at, rest))

      listed-one :
          (ts : Trees) (b : Variables) (next : ℕ) (es : List Environment) (σ : List ℤ) →
          FormedAll ts table false next →
          PassesAny table ts b next →
          Fits b next es →
          length σ ≡ next →
          Found (list_any table rows ts next es) σ →
          Found es σ × One ts (value_in table rows) true σ
      listed-one nil b next es σ f h fits l found = absurd (Memᴰ.not-nil found.1)
      listed-one (cons t ts) b next es σ f h fits l found =
          let (e, m, g) = found in
          ⊎_elim
          (λ n. let (before, i) = listed-true t b next es σ f.0 h.0 fits l (e, n, g) in (before, inl i))
          (λ n. let (before, i) = listed-one ts b next es σ f.1 h.1 fits l (e, n, g) in (before, inr i))
          (Memᴰ.append_cases (list table rows t next es) m)

    -- and an environment that agrees with σ leads to one listed, if the restriction is true under σ
    mutual
      unfolding list after Passes Formed Is

      pub true-listed :
          (c : Tree) (b : Variables) (next : ℕ) (es : List Environment) (σ : List ℤ) →
          Formed c table false next →
          Passes table c b next →
          Fits b next es →
          length σ ≡ next →
          Found es σ →
          Is c (value_in table rows) true σ →
          Found (list table rows c next es) σ
      true-listed (plain true) b next es σ f h fits l found i = found
      true-listed (plain false) b next es σ f h fits l found i = clash refl i
      true-listed (atom true p ts) b next es σ f h fits l found i =
          let (e, m, g) = found in
          let (row, mr, t, w, q) = true-row p ts σ i in
          let (e₁, m₁, g₁) = fit-complete ts (arguments row) e σ g q in
          (e₁, mem_gather (matches rows p ts) m (mem_matches rows p ts e mr t w m₁), g₁)
      true-listed (atom false p ts) b next es σ f h fits l found i =
          let (e, m, g) = found in (
            e,
            mem_keep (λ e. is_false (value_in table rows p (numbers_in e ts))) m
                (false-is (ap (value_in table rows p) (bound-numbers b e σ ts (fits e m).0 g h) ∙ i)),
            g,
          )
      true-listed (compare v d x y) b next es σ f h fits l found i =
          let (e, m, g) = found in
          let q =
          ap₂ (sum_at_most d) (bound-number b e σ x (fits e m).0 g h.0) (bound-number b e σ y (fits e m).0 g h.1)
          ∙ i
          ∙ same_of_true v
          in
          (e, mem_keep (λ e. same v (sum_at_most d (number_in (look e x)) (number_in (look e y)))) m (ap (same v) q ∙ same_refl v), g)
      true-listed (join true ts) b next es σ f h fits l found i = every-listed ts b next es σ f.1 h fits l found i
      true-listed (join false ts) b next es σ f h fits l found i = one-listed ts b next es σ f.1 h fits l found i
      true-listed (quantifier v n excluded c g) b next es σ f h fits l found i = clash f.0 refl
      true-listed (some c) b next es σ f h fits l found i =
          let (e, m, g) = found in
          let (k, true-at) = i in
          let g₀ = widen_agrees next e σ l (k ∷ []) (fits e m).1 g in
          let long = one_more σ k l in
          let (e₁, m₁, g₁) = true-listed c b (next + 1) es (σ ++ k ∷ []) f.2 h.0 (wider fits) long (e, m, g₀) true-at in
          let (inner, supported) = list-fits c b (next + 1) es f.2 h.0 (wider fits) e₁ m₁ in
          (release e₁ next, mem_map (λ e. release e next) m₁, release_agrees next e₁ σ l k supported g₁)

      every-listed :
          (ts : Trees) (b : Variables) (next : ℕ) (es : List Environment) (σ : List ℤ) →
          FormedAll ts table false next →
          PassesAll table ts b next →
          Fits b next es →
          length σ ≡ next →
          Found es σ →
          Every ts (value_in table rows) true σ →
          Found (list_all table rows ts next es) σ
      every-listed nil b next es σ f h fits l found i = found
      every-listed (cons t ts) b next es σ f h fits l found i =
          every-listed ts (after t b next) next (list table rows t next es) σ f.1 h.1
          (list-fits t b next es f.0 h.0 fits) l
          (true-listed t b next es σ f.0 h.0 fits l found i.0) i.1

      one-listed :
          (ts : Trees) (b : Variables) (next : ℕ) (es : List Environment) (σ : List ℤ) →
          FormedAll ts table false next →
          PassesAny table ts b next →
          Fits b next es →
          length σ ≡ next →
          Found es σ →
          One ts (value_in table rows) true σ →
          Found (list_any table rows ts next es) σ
      one-listed nil b next es σ f h fits l found i = absurd i
      one-listed (cons t ts) b next es σ f h fits l found i =
          ⊎_elim
          (λ j. found_left _ σ (true-listed t b next es σ f.0 h.0 fits l found j))
          (λ j. found_right (list table rows t next es) σ (one-listed ts b next es σ f.1 h.1 fits l found j))
          i

    -- an environment listed agrees with σ exactly if one handed in does and the restriction is true under σ
    pub list_exact :
        (c : Tree) (b : Variables) (next : ℕ) (es : List Environment) →
        Formed c table false next →
        Passes table c b next →
        Fits b next es →
        (σ : List ℤ) →
        length σ ≡ next →
        Found (list table rows c next es) σ ↔ (Found es σ × Is c (value_in table rows) true σ)
    list_exact c b next es f h fits σ l =
        (listed-true c b next es σ f h fits l, λ w. true-listed c b next es σ f h fits l w.0 w.1)

    -- the same, said of the questions of the mode rule
    pub listing_exact :
        (c : Tree) (b : Variables) (next at : ℕ) (es : List Environment) {b' : Variables} →
        Formed c table false next →
        bindings c table b next at ≡ passed b' →
        Fits b next es →
        Fits b' next (list table rows c next es)
        × ((σ : List ℤ) →
        length σ ≡ next →
        Found (list table rows c next es) σ ↔ (Found es σ × Is c (value_in table rows) true σ))
    listing_exact c b next at es f e fits =
        let (h, s) = bindings-passes table c b next at e in (
          subst (λ (a : Variables). Fits a next (list table rows c next es)) s (list-fits c b next es f h fits),
          list_exact c b next es f h fits,
        )

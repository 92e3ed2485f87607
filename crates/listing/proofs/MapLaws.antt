-- Lists made of the environments of a list, one after another, each list behind the one before.
use Prim.Native.Nat.{ℕ, suc, ◌+◌, ◌*◌, ◌≤◌, ◌<◌}
use native.Mathlib.Omega.{arith}
use native.Mathlib.Numerals.{add-one}
use mathlib.Core.Path.{◌≡◌, refl, sym, ap, ap₂, ◌∙◌, subst}
use mathlib.Core.List.{List, ◌++◌}
use lib.ListN.{length, take, drop, length-append, take-append-drop}
use lib.Seq.{take-suc, take_all, take-take, drop-cons}
use Rattle.model.specs.Words.{Words}
use Rattle.model.specs.Lists.{gather}
use Rattle.model.specs.Listing.{Environment, free}
use Rattle.environments.specs.Environment.{place_of, place_at}
use Rattle.environments.specs.Listed.{Listed}
use Rattle.environments.proofs.ListedLaws.{environment_of, gather_snoc, listed_kept, listed_at}
use Rattle.environments.proofs.ListsLaws.{gather_append, listed-append}

module _ (f : Environment → List Environment) (es : List Environment) where
  -- what the environments before the i-th gave stands from `base` on, and the words before are kept
  pub record Mapping (i base made : ℕ) (before scratch : Words) : Type 0 where
    pub many : length (gather f (take i es)) ≡ made
    pub listed : Listed scratch base (gather f (take i es))
    pub front : take (17 * base) scratch ≡ take (17 * base) before

  pub map-start : (base : ℕ) (before : Words) → Mapping 0 base 0 before before
  unfolding gather
  map-start base before = record { many = refl; listed = record { stands = refl }; front = refl }

  one_more : (i : ℕ) → i < length es → gather f (take (i + 1) es) ≡ gather f (take i es) ++ f (environment_of es i)
  one_more i h =
      ap (λ (k : ℕ). gather f (take k es)) (add-one i)
      ∙ ap (gather f) (take-suc es i (λ x. free) h)
      ∙ gather_snoc f (take i es) (environment_of es i)

module _
    {f : Environment → List Environment} {es : List Environment} {i base made : ℕ} {before scratch : Words}
    (s : Mapping f es i base made before scratch)
  where
    -- the list handed in still stands
    pub map_read :
        (from : ℕ) → from + length es ≤ base → Listed before from es → i < length es →
        place_at scratch (from + i) ≡ place_of (environment_of es i)
    map_read from fits l h =
        let n = 17 * (from + length es) in
        let same : take n scratch ≡ take n before =
        sym (take-take n (17 * base) scratch (omega arith)) ∙ ap (take n) s.front ∙ take-take n (17 * base) before (omega arith) in
        listed_at scratch from es (listed_kept before from scratch es l same) i h

    -- one environment more
    pub map-step :
        (k : ℕ) (after : Words) →
        i < length es →
        k ≡ length (f (environment_of es i)) →
        Listed after (base + made) (f (environment_of es i)) →
        take (17 * (base + made)) after ≡ take (17 * (base + made)) scratch →
        Mapping f es (i + 1) base (made + k) before after
    map-step k after h e l same =
        let more = one_more f es i h in
        let done = gather f (take i es) in
        let front : (j : ℕ) → j ≤ 17 * (base + made) → take j after ≡ take j scratch =
        λ j b. sym (take-take j (17 * (base + made)) after b) ∙ ap (take j) same ∙ take-take j (17 * (base + made)) scratch b in
        record {
          many = ap length more ∙ length-append done (f (environment_of es i)) ∙ ap₂ (λ (a b : ℕ). a + b) s.many (sym e);
          listed =
              subst (Listed after base) (sym more)
              (listed-append after base done (f (environment_of es i))
              (listed_kept scratch base after done s.listed (front (17 * (base + length done)) (omega (arith, s.many))))
              (subst (λ (j : ℕ). Listed after (base + j) (f (environment_of es i))) (sym s.many) l));
          front = front (17 * base) (omega arith) ∙ s.front;
        }

    -- the places left do not do for it
    pub map-short : (left : ℕ) → i < length es → left < length (f (environment_of es i)) → made + left < length (gather f es)
    unfolding gather
    map-short left h few =
        let all : length (gather f es) ≡ made + (length (f (environment_of es i)) + length (gather f (drop (suc i) es))) =
        ap (λ (l : List Environment). length (gather f l)) (sym (take-append-drop i es))
        ∙ ap length (gather_append f (take i es) (drop i es))
        ∙ length-append (gather f (take i es)) (gather f (drop i es))
        ∙ ap₂ (λ (a b : ℕ). a + b) s.many
        (ap (λ (l : List Environment). length (gather f l)) (drop-cons es i (λ x. free) h)
        ∙ length-append (f (environment_of es i)) (gather f (drop (suc i) es))) in
        omega arith

    -- no environment is left
    pub map_end : length es ≤ i → (length (gather f es) ≡ made) × Listed scratch base (gather f es)
    map_end h =
        let all : gather f (take i es) ≡ gather f es = ap (gather f) (take_all i es h) in
        (ap length (sym all) ∙ s.many, subst (Listed scratch base) all s.listed)

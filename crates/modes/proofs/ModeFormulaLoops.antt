-- The mode rule over formulas one behind another, one at a time: those passed, and those left, which stand at the index
-- reached. And over the two parts of a quantifier.
use Prim.Native.Nat.{ℕ, ◌+◌, ◌≤◌, ◌<◌}
use native.Mathlib.Omega.{arith}
use mathlib.Core.Path.{◌≡◌, refl, sym, ap, ◌∙◌, subst, fun_ext, ap₂}
use mathlib.Core.Bool.{true, false}
use lib.ListN.{length}
use lib.Dec.{ltb}
use Rattle.model.specs.declared.Refusal.{Refusal}
use Rattle.model.specs.declared.Refusal.TheVariants.{Mode}
use Rattle.model.specs.Words.{Words}
use Rattle.model.specs.Lists.{span, all}
use Rattle.model.specs.Answer.{Outcome, passed, refused, ask, ◌>>=◌, refused_at}
use Rattle.model.specs.Tree.{Tree, Trees, nil, cons, count, encode, encode_all}
use Rattle.model.specs.Level.{Role, restriction, formula}
use Rattle.model.specs.Mode.{Variables, size, bindings, ask_modes, ask_modes_all}
use Rattle.laws.specs.Reading.Nodes.{Node, Nodes}
use Rattle.laws.specs.Reading.Parts.{first-parts, rest-parts}
use Rattle.std.specs.Prelude.{Result, Ok, Err}
use Rattle.model.specs.declared.Refused.{Refused}
use Rattle.modes.specs.declared.marks.Marks.{Marks}
use Rattle.modes.specs.declared.mode.Bound.{Bound}
use Rattle.policies.specs.Standing.{Here, HereAll}
use Rattle.modes.proofs.ModeLoops.{standing}
use Rattle.modes.specs.Mode.{set_of, told, HereBoth, Both, Binds, told_modes, Asks, AsksAll, AsksBoth, ask_both}

-- what a walk told says what the outcome is
other-told : {a b : ℕ} {q : Refusal} → ◌≡◌ {A = Result ℕ Refused} (Ok a) (Err (refused_at q b)) → ⊥
other-told e = let z : ◌≡◌ {A = ℕ} 0 1 = cc in omega arith

pub told-passed :
    (o : Outcome (Unit {0})) (behind next : ℕ) →
    Ok behind ≡ told_modes o next →
    (o ≡ passed tt) × (behind ≡ next)
unfolding told_modes
told-passed (passed u) behind next e = (refl, cc)
told-passed (refused q p) behind next e = absurd (other-told e)

pub told-refused :
    (o : Outcome (Unit {0})) (next : ℕ) {q : Refusal} {p : ℕ} →
    Err (refused_at q p) ≡ told_modes o next →
    o ≡ refused q p
unfolding told_modes
told-refused (passed u) next e = absurd (other-told (sym e))
told-refused (refused r x) next {q} {p} e =
    let same : refused_at r x ≡ refused_at q p = cc in ap₂ refused (ap (λ (f : Refused). f.0) same) (ap (λ (f : Refused). f.1) same)

module _ (table words : Words) (role : Role) (above scope : ℕ) where
  abbrev Stand : ℕ → Trees → ℕ → Type 0
  Stand at ts end = Nodes table words role above scope at ts end

  first-left : (n i : ℕ) (rest : Trees) → count rest + i ≡ n → i < n → (t : Tree) × (us : Trees) × (rest ≡ cons t us)
  unfolding count
  first-left n i nil e h = absurd (omega arith)
  first-left n i (cons t us) e h = (t, us, refl)

  none_left : (at : ℕ) (rest : Trees) (end : ℕ) → Stand at rest end → count rest ≤ 0 → (rest ≡ nil) × (end ≡ at)
  unfolding count encode_all
  none_left at nil end s h = (refl, omega (arith, s.stands.ends))
  none_left at (cons t us) end s h = absurd (omega arith)

  none_asks : (at : ℕ) → ask_modes_all nil table scope at ≡ passed tt
  unfolding ask_modes_all
  none_asks at = refl

  one_passes :
      (t : Tree) (us : Trees) (at : ℕ) →
      ask_modes t table scope at ≡ passed tt →
      ask_modes_all (cons t us) table scope at ≡ ask_modes_all us table scope (at + length (encode t))
  unfolding ask_modes_all size ◌>>=◌
  one_passes t us at e = rw e

  one-refused :
      (t : Tree) (us : Trees) (at : ℕ) {q : Refusal} {p : ℕ} →
      ask_modes t table scope at ≡ refused q p →
      ask_modes_all (cons t us) table scope at ≡ refused q p
  unfolding ask_modes_all ◌>>=◌
  one-refused t us at e = rw e

  -- n formulas from an index on, i of them passed
  abbrev pub SoFar : (n at i next : ℕ) → Type 0
  SoFar n at i next =
      (ts : Trees) (end : ℕ) → Stand at ts end → count ts ≡ n →
      (rest : Trees)
      × Stand next rest end
      × (count rest + i ≡ n)
      × (ask_modes_all ts table scope at ≡ ask_modes_all rest table scope next)

  pub so_far_none : (n at : ℕ) → SoFar n at 0 at
  so_far_none n at ts end s e = (ts, s, omega arith, refl)

  module _ (n at i next : ℕ) (inv : SoFar n at i next) where
    -- one more is left
    one_left :
        i < n → (ts : Trees) (end : ℕ) → Stand at ts end → count ts ≡ n →
        (t : Tree) × (us : Trees) × Stand next (cons t us) end × (count (cons t us) + i ≡ n)
        × (ask_modes_all ts table scope at ≡ ask_modes_all (cons t us) table scope next)
    one_left h ts end s e =
        let (rest, s', left, is) = inv ts end s e in
        let (t, us, q) = first-left n i rest left h in (
          t,
          us,
          subst (λ (l : Trees). Stand next l end) q s',
          subst (λ (l : Trees). count l + i ≡ n) q left,
          is ∙ ap (λ (l : Trees). ask_modes_all l table scope next) q,
        )

    pub next_here : i < n → HereAll table words role above scope n at → Here table words role above scope next
    next_here h (ts, end, e, s) =
        let (t, us, s', left, is) = one_left h ts end s e in
        (t, _, first-parts table words role above scope next end t us s')

    -- it passed
    pub next-passed :
        i < n → {r : Result ℕ Refused} {behind : ℕ} → r ≡ Ok behind → Asks table words role above scope next r →
        SoFar n at (i + 1) behind
    unfolding count
    next-passed h {r} {behind} p asks ts end s e =
        let (t, us, s', left, is) = one_left h ts end s e in
        let told = told-passed _ _ _ (sym p ∙ asks t _ (first-parts table words role above scope next end t us s')) in (
          us,
          subst (λ (k : ℕ). Stand k us end) (sym told.1) (rest-parts table words role above scope next end t us s'),
          omega arith,
          is ∙ one_passes t us next told.0 ∙ ap (ask_modes_all us table scope) (sym told.1),
        )

    -- it was refused
    pub next-refused :
        i < n → {r : Result ℕ Refused} {q : Refusal} {p : ℕ} → r ≡ Err (refused_at q p) → Asks table words role above scope next r →
        AsksAll table words role above scope n at (Err (refused_at q p))
    unfolding told_modes
    next-refused h {r} {q} {p} e asks ts end s c =
        let (t, us, s', left, is) = one_left h ts end s c in
        let out = told-refused _ _ (sym e ∙ asks t _ (first-parts table words role above scope next end t us s')) in
        ap (λ (o : Outcome (Unit {0})). told_modes o end) (sym (is ∙ one-refused t us next out))

    -- none is left
    pub all-passed : n ≤ i → AsksAll table words role above scope n at (Ok next)
    unfolding told_modes
    all-passed h ts end s c =
        let (rest, s', left, is) = inv ts end s c in
        let none = none_left next rest end s' (omega arith) in
        ap Ok (sym none.1)
        ∙ ap (λ (o : Outcome (Unit {0})). told_modes o end)
        (sym (is ∙ ap (λ (l : Trees). ask_modes_all l table scope next) none.0 ∙ none_asks next))

-- the mode rule at a quantifier, by what its restriction binds
module _ (c f : Tree) (table : Words) (scope v at first : ℕ) where
  both-no :
      {q : Refusal} {p : ℕ} →
      bindings c table (λ x. ltb x scope) (scope + v) first ≡ refused q p →
      ask_both c f table scope v at first ≡ refused q p
  unfolding ask_both ◌>>=◌
  both-no e = rw e

  module _ (b : Variables) (e : bindings c table (λ x. ltb x scope) (scope + v) first ≡ passed b) where
    both_misses : all b (span scope v) ≡ false → ask_both c f table scope v at first ≡ refused Mode at
    unfolding ask_both ◌>>=◌ ask
    both_misses h = rw (e, h)

    both-binds : all b (span scope v) ≡ true → ask_both c f table scope v at first ≡ ask_modes f table (scope + v) (first + size c)
    unfolding ask_both ◌>>=◌ ask
    both-binds h = rw (e, h)

-- what comes of a quantifier: r is what a walk of its restriction came to, from the outer variables
module _ (table words : Words) (level scope v at first : ℕ) (outer : Marks)
    (outside : (x : ℕ) → set_of outer x ≡ ltb x scope)
    (r : Result Bound Refused)
    (came :
    (c : Tree) (next : ℕ) →
    Node table words restriction level (scope + v) first c next →
    Binds c table (set_of outer) (scope + v) first next r) where
  abbrev Told : Result ℕ Refused → Type 0
  Told s = AsksBoth table words level scope v at first s

  restricts :
      (c : Tree) (next : ℕ) → Node table words restriction level (scope + v) first c next →
      bindings c table (λ x. ltb x scope) (scope + v) first ≡ told r
  restricts c next node =
      ap (λ (b : Variables). bindings c table b (scope + v) first) (sym (fun_ext outside)) ∙ sym (came c next node).outcome

  pub restriction-refused : {q : Refusal} {p : ℕ} → r ≡ Err (refused_at q p) → Told (Err (refused_at q p))
  unfolding told_modes
  restriction-refused {q} {p} e c f next parts =
      ap (λ (o : Outcome (Unit {0})). told_modes o next)
      (sym (both-no c f table scope v at first (restricts c _ parts.restricts ∙ ap told e)))

  module _ {m : Bound} (e : r ≡ Ok m) where
    binds :
        (c : Tree) (next : ℕ) → Node table words restriction level (scope + v) first c next →
        bindings c table (λ x. ltb x scope) (scope + v) first ≡ passed (set_of m.set)
    binds c next node = restricts c next node ∙ ap told e

    pub variables-missed : all (set_of m.set) (span scope v) ≡ false → Told (Err (refused_at Mode at))
    unfolding told_modes
    variables-missed h c f next parts =
        ap (λ (o : Outcome (Unit {0})). told_modes o next)
        (sym (both_misses c f table scope v at first (set_of m.set) (binds c _ parts.restricts) h))

    -- the body stands behind it
    body-there :
        (c f : Tree) (next : ℕ) → Both table words level (scope + v) first c f next →
        Node table words formula level (scope + v) m.next f next
    body-there c f next parts =
        subst (λ (k : ℕ). Node table words formula level (scope + v) k f next) (sym (standing (came c _ parts.restricts) e))
        parts.body

    pub body-here : HereBoth table words level (scope + v) first → Here table words formula level (scope + v) m.next
    body-here (c, f, next, parts) = (f, next, body-there c f next parts)

    pub body-asked :
        all (set_of m.set) (span scope v) ≡ true → (s : Result ℕ Refused) → Asks table words formula level (scope + v) m.next s → Told s
    body-asked h s asks c f next parts =
        asks f next (body-there c f next parts)
        ∙ ap (λ (o : Outcome (Unit {0})). told_modes o next)
        (ap (ask_modes f table (scope + v)) (standing (came c _ parts.restricts) e)
        ∙ sym (both-binds c f table scope v at first (set_of m.set) (binds c _ parts.restricts) h))

-- The mode rule over the operands of a join, one at a time: those passed come to the marks so far, and those left
-- stand at the index reached.
use Prim.Native.Nat.{ℕ, ◌+◌, ◌≤◌, ◌<◌}
use native.Mathlib.Omega.{arith}
use mathlib.Core.Path.{◌≡◌, refl, sym, ap, ◌∙◌, subst, fun_ext}
use mathlib.Core.Bool.{Bool, true, false, ◌&&◌}
use Rattle.std.specs.Prelude.{Result, Ok, Err}
use Rattle.std.proofs.lemmas.Result.{IfOk-at_ok}
use Rattle.model.specs.declared.Refusal.{Refusal}
use Rattle.model.specs.declared.Refused.{Refused}
use Rattle.model.specs.Words.{Words}
use Rattle.model.specs.Answer.{Outcome, passed, refused, ◌>>=◌, refused_at}
use Rattle.model.specs.Tree.{Tree, Trees, nil, cons, count}
use Rattle.model.specs.Level.{restriction}
use Rattle.model.specs.Mode.{Variables, size, bindings, bindings_all, bindings_any}
use Rattle.laws.specs.Reading.Nodes.{Node, Nodes}
use Rattle.laws.specs.Reading.Parts.{first-parts, rest-parts}
use Rattle.policies.specs.Standing.{Here, HereAll}
use Rattle.policies.proofs.Standing.{first-left, none_left}
use Rattle.modes.specs.declared.marks.Marks.{Marks}
use Rattle.modes.specs.declared.mode.Bound.{Bound}
use Rattle.modes.specs.Mode.{set_of, told, Came, Binds}
use Rattle.modes.proofs.ModeTerms.{and-true}

-- what stands where a walk passed
pub standing : {o : Outcome Variables} {next : ℕ} {r : Result Bound Refused} {b : Bound} → Came o next r → r ≡ Ok b → b.next ≡ next
standing {next = next} came e = IfOk-at_ok (λ b. b.next ≡ next) e came.stands

and_assoc : (a b c : Bool) → (a && (b && c)) ≡ ((a && b) && c)
and_assoc true b c = refl
and_assoc false b c = refl

-- the variables of a set that also those bind who come next
unfoldable pub meets : Variables → Outcome Variables → Outcome Variables
meets b o = o >>= λ rest. passed (λ x. b x && rest x)

-- one branch, and the others, meet a set
meets_one :
    (b f g : Variables) (o : Outcome Variables) →
    ((x : ℕ) → g x ≡ (b x && f x)) →
    meets b (o >>= λ rest. passed (λ x. f x && rest x)) ≡ meets g o
unfolding meets ◌>>=◌
meets_one b f g (refused q p) e = refl
meets_one b f g (passed rest) e =
    ap passed (fun_ext (λ x. and_assoc (b x) (f x) (rest x) ∙ ap (λ (c : Bool). c && rest x) (sym (e x))))

-- the operands of an all-of, one at a time: each hands its set to the next
module _ (table : Words) (scope : ℕ) (b : Variables) where
  abbrev pub All : Trees → ℕ → Outcome Variables
  All ts at = bindings_all ts table b scope at

  pub all_none : (at : ℕ) → All nil at ≡ passed b
  unfolding bindings_all
  all_none at = refl

  module _ (t : Tree) (us : Trees) (at : ℕ) where
    pub all_one : {c : Variables} → bindings t table b scope at ≡ passed c → All (cons t us) at ≡ bindings_all us table c scope (at + size t)
    unfolding bindings_all ◌>>=◌
    all_one e = rw e

    pub all-no : {q : Refusal} {p : ℕ} → bindings t table b scope at ≡ refused q p → All (cons t us) at ≡ refused q p
    unfolding bindings_all ◌>>=◌
    all-no e = rw e

-- those of an any-of: behind the first, a set meets what the others bind
module _ (table : Words) (scope : ℕ) (b : Variables) where
  abbrev pub Any : Trees → ℕ → Outcome Variables
  Any ts at = bindings_any ts table b scope at

  abbrev pub Met : Variables → Trees → ℕ → Outcome Variables
  Met set ts at = meets set (bindings_any ts table b scope at)

  pub any_none : (set : Variables) (at : ℕ) → Met set nil at ≡ passed set
  unfolding meets bindings_any ◌>>=◌
  any_none set at = ap passed (fun_ext (λ x. sym (and-true (set x))))

  module _ (t : Tree) (us : Trees) (at : ℕ) where
    pub any-first : {c : Variables} → bindings t table b scope at ≡ passed c → Any (cons t us) at ≡ Met c us (at + size t)
    unfolding meets bindings_any ◌>>=◌
    any-first e = rw e

    pub any-first-no : {q : Refusal} {p : ℕ} → bindings t table b scope at ≡ refused q p → Any (cons t us) at ≡ refused q p
    unfolding bindings_any ◌>>=◌
    any-first-no e = rw e

    pub any_one :
        (set c joint : Variables) → ((x : ℕ) → joint x ≡ (set x && c x)) →
        bindings t table b scope at ≡ passed c → Met set (cons t us) at ≡ Met joint us (at + size t)
    unfolding bindings_any ◌>>=◌
    any_one set c joint both e = rw e (meets_one set c joint (bindings_any us table b scope (at + size t)) both)

    pub any-no : (set : Variables) {q : Refusal} {p : ℕ} → bindings t table b scope at ≡ refused q p → Met set (cons t us) at ≡ refused q p
    unfolding meets bindings_any ◌>>=◌
    any-no set e = rw e

module _ (table words : Words) (above scope : ℕ) where
  abbrev Stand : ℕ → Trees → ℕ → Type 0
  Stand at ts end = Nodes table words restriction above scope at ts end

  -- what a walk of the child at an index came to
  abbrev pub Child : (next : ℕ) (b : Variables) (r : Result Bound Refused) → Type 0
  Child next b r = (c : Tree) (behind : ℕ) → Node table words restriction above scope next c behind → Binds c table b scope next behind r

  -- the n operands that stand at an index, which come to o: i of them passed, and what comes of those left
  pub record Come (n at : ℕ) (o : Trees → Outcome Variables) (i next : ℕ) (left : Trees → ℕ → Outcome Variables) : Type 0 where
    pub comes :
        (ts : Trees) (end : ℕ) → Stand at ts end → count ts ≡ n →
        (rest : Trees) × Stand next rest end × (count rest + i ≡ n) × (o ts ≡ left rest next)

  pub none-yet : {n at : ℕ} (left : Trees → ℕ → Outcome Variables) → Come n at (λ ts. left ts at) 0 at left
  none-yet left = record { comes = λ ts end s e. (ts, s, omega arith, refl) }

module _ {table words : Words} {above scope n at : ℕ} {o : Trees → Outcome Variables} {i next : ℕ} {left : Trees → ℕ → Outcome Variables}
    (come : Come table words above scope n at o i next left) where
  -- one more is left
  one-left :
      i < n → (ts : Trees) (end : ℕ) → Nodes table words restriction above scope at ts end → count ts ≡ n →
      (t : Tree) × (us : Trees) × Nodes table words restriction above scope next (cons t us) end × (count us + (i + 1) ≡ n) × (o ts ≡ left (cons t us) next)
  unfolding count
  one-left h ts end s e =
      let (rest, s', number, is) = come.comes ts end s e in
      let (t, us, q) = first-left table words above scope next n i rest end number h s' in (
        t,
        us,
        subst (λ (l : Trees). Nodes table words restriction above scope next l end) q s',
        omega (arith, ap count q),
        is ∙ ap (λ (l : Trees). left l next) q,
      )

  pub one-here : i < n → HereAll table words restriction above scope n at → Here table words restriction above scope next
  one-here h (ts, end, e, s) =
      let (t, us, s', number, is) = one-left h ts end s e in (t, _, first-parts table words restriction above scope next end t us s')

  -- its walk, from a set
  module _ (h : i < n) (start : Variables) {r : Result Bound Refused} (child : Child table words above scope next start r) where
    pub one-passes :
        {m : Bound} → r ≡ Ok m → (left' : Trees → ℕ → Outcome Variables) →
        ((t : Tree) (us : Trees) → bindings t table start scope next ≡ passed (set_of m.set) → left (cons t us) next ≡ left' us (next + size t)) →
        Come table words above scope n at o (i + 1) m.next left'
    unfolding size
    one-passes {m} p left' step = record {
      comes = λ ts end s e.
          let (t, us, s', number, is) = one-left h ts end s e in
          let came = child t _ (first-parts table words restriction above scope next end t us s') in
          let behind = sym (standing came p) in (
            us,
            subst (λ (k : ℕ). Nodes table words restriction above scope k us end) behind (rest-parts table words restriction above scope next end t us s'),
            number,
            is ∙ step t us (sym came.outcome ∙ ap told p) ∙ ap (left' us) behind,
          );
    }

    pub one-stops :
        {q : Refusal} {p : ℕ} → r ≡ Err (refused_at q p) →
        ((t : Tree) (us : Trees) → bindings t table start scope next ≡ refused q p → left (cons t us) next ≡ refused q p) →
        (ts : Trees) (end : ℕ) → Nodes table words restriction above scope at ts end → count ts ≡ n → Came (o ts) end (Err (refused_at q p))
    one-stops p step ts end s e =
        let (t, us, s', number, is) = one-left h ts end s e in
        let came = child t _ (first-parts table words restriction above scope next end t us s') in
        record { outcome = sym (is ∙ step t us (sym came.outcome ∙ ap told p)); stands = tt }

  -- none is left
  pub all-passed :
      n ≤ i → {set : Marks} → left nil next ≡ passed (set_of set) →
      (ts : Trees) (end : ℕ) → Nodes table words restriction above scope at ts end → count ts ≡ n → Came (o ts) end (Ok (record { set = set; next = next }))
  all-passed h last ts end s e =
      let (rest, s', number, is) = come.comes ts end s e in
      let none = none_left table words above scope next rest end s' (omega arith) in
      record { outcome = sym (is ∙ ap (λ (l : Trees). left l next) none.0 ∙ last); stands = sym none.1 }

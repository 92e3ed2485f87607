-- The mode rule with no places: what passes at a node, and the variables bound after it, by clauses that follow the tree.
-- The questions of model pass exactly if this holds, whatever the place.
use Rattle.std.specs.Prelude.{ℕ, ◌+◌, ◌*◌, ◌≡◌, refl, true, false, not, ◌&&◌, ◌||◌, length, eqb, ltb}
use Rattle.std.proofs.Common.{sym, ap, ap₂, ◌∙◌, subst}
use Rattle.model.specs.Words.{Words}
use Rattle.model.specs.Lists.{span, all, any}
use Rattle.model.specs.Answer.{passed, ask}
use Rattle.model.specs.Tree.{Tree, Trees, plain, atom, compare, join, quantifier, some, nil, cons}
use Rattle.model.specs.Mode.{Variables, size, is_bound, is_variable, inputs_bound, bindings, bindings_all, bindings_any, ask_modes, ask_modes_all}
use Rattle.model.specs.declared.Refusal.TheVariants.{Mode}
use Rattle.laws.specs.Words.Tests.{and_left, and_right, and-true}
use Rattle.laws.specs.Answer.{passed-same, ask-passed, ask-true, then_passed, pass_then}

-- what passed is one thing
-- the variables bound after a restriction, from those bound before it
unfoldable mutual
  pub after : Tree → Variables → ℕ → Variables
  after (plain v) b next = b
  after (atom true p ts) b next = λ x. b x || any (is_variable x) ts
  after (atom false p ts) b next = b
  after (compare v d x y) b next = b
  after (join true ts) b next = after_all ts b next
  after (join false ts) b next = after_any ts b next
  after (quantifier v n excluded c f) b next = b
  after (some c) b next = λ x. after c b (next + 1) x && not (eqb x next)

  pub after_all : Trees → Variables → ℕ → Variables
  after_all nil b next = b
  after_all (cons t ts) b next = after_all ts (after t b next) next

  pub after_any : Trees → Variables → ℕ → Variables
  after_any nil b next = λ x. true
  after_any (cons t ts) b next = λ x. after t b next x && after_any ts b next x

module _ (table : Words) where
  -- the mode rule passes at a restriction
  unfoldable mutual
    pub Passes : Tree → Variables → ℕ → Type 0
    Passes (plain v) b next = Unit {0}
    Passes (atom true p ts) b next = inputs_bound table p b 0 ts ≡ true
    Passes (atom false p ts) b next = all (is_bound b) ts ≡ true
    Passes (compare v d x y) b next = (is_bound b x ≡ true) × (is_bound b y ≡ true)
    Passes (join true ts) b next = PassesAll ts b next
    Passes (join false ts) b next = PassesAny ts b next
    Passes (quantifier v n excluded c f) b next = Unit {0}
    Passes (some c) b next = Passes c b (next + 1) × (after c b (next + 1) next ≡ true)

    pub PassesAll : Trees → Variables → ℕ → Type 0
    PassesAll nil b next = Unit {0}
    PassesAll (cons t ts) b next = Passes t b next × PassesAll ts (after t b next) next

    pub PassesAny : Trees → Variables → ℕ → Type 0
    PassesAny nil b next = Unit {0}
    PassesAny (cons t ts) b next = Passes t b next × PassesAny ts b next

  -- if the questions pass, the rule passes, and the variables are those
  mutual
    unfolding bindings Passes after

    pub bindings-passes :
        (c : Tree) (b : Variables) (next at : ℕ) {b' : Variables} →
        bindings c table b next at ≡ passed b' →
        Passes c b next × (after c b next ≡ b')
    bindings-passes (plain v) b next at e = (tt, passed-same e)
    bindings-passes (atom true p ts) b next at e =
        let (a, asked, rest) = then_passed (ask (inputs_bound table p b 0 ts) Mode at) _ e in
        (ask-passed _ _ _ asked, passed-same rest)
    bindings-passes (atom false p ts) b next at e =
        let (a, asked, rest) = then_passed (ask (all (is_bound b) ts) Mode at) _ e in
        (ask-passed _ _ _ asked, passed-same rest)
    bindings-passes (compare v d x y) b next at e =
        let (a, asked, rest) = then_passed (ask (is_bound b x && is_bound b y) Mode at) _ e in
        let test = ask-passed (is_bound b x && is_bound b y) Mode at asked in
        ((and_left _ _ test, and_right (is_bound b x) _ test), passed-same rest)
    bindings-passes (join true ts) b next at e = bindings-passes-all ts b next (at + 2) e
    bindings-passes (join false ts) b next at e = bindings-passes-any ts b next (at + 2) e
    bindings-passes (quantifier v n excluded c f) b next at e = (tt, passed-same e)
    bindings-passes (some c) b next at e =
        let (inner, first, rest) = then_passed (bindings c table b (next + 1) (at + 1)) _ e in
        let (a, asked, result) = then_passed (ask (inner next) Mode at) _ rest in
        let (h, same) = bindings-passes c b (next + 1) (at + 1) first in (
          (h, ap (λ (i : Variables). i next) same ∙ ask-passed _ _ _ asked),
          ap {B = Variables} (λ (i : Variables) (x : ℕ). i x && not (eqb x next)) same ∙ passed-same result,
        )

    bindings-passes-all :
        (ts : Trees) (b : Variables) (next at : ℕ) {b' : Variables} →
        bindings_all ts table b next at ≡ passed b' →
        PassesAll ts b next × (after_all ts b next ≡ b')
    bindings-passes-all nil b next at e = (tt, passed-same e)
    bindings-passes-all (cons t ts) b next at e =
        let (first, e₁, e₂) = then_passed (bindings t table b next at) _ e in
        let (h, same) = bindings-passes t b next at e₁ in
        let (k, rest) = bindings-passes-all ts first next (at + size t) e₂ in
        ((h, subst (λ (i : Variables). PassesAll ts i next) (sym same) k), ap (λ (i : Variables). after_all ts i next) same ∙ rest)

    bindings-passes-any :
        (ts : Trees) (b : Variables) (next at : ℕ) {b' : Variables} →
        bindings_any ts table b next at ≡ passed b' →
        PassesAny ts b next × (after_any ts b next ≡ b')
    bindings-passes-any nil b next at e = (tt, passed-same e)
    bindings-passes-any (cons t ts) b next at e =
        let (first, e₁, e₂) = then_passed (bindings t table b next at) _ e in
        let (rest, e₃, e₄) = then_passed (bindings_any ts table b next (at + size t)) _ e₂ in
        let (h, same) = bindings-passes t b next at e₁ in
        let (k, others) = bindings-passes-any ts b next (at + size t) e₃ in
        ((h, k), ap₂ {C = Variables} (λ (f r : Variables) (x : ℕ). f x && r x) same others ∙ passed-same e₄)

  -- and the other way round, at every place
  mutual
    unfolding bindings Passes after

    pub passes-bindings :
        (c : Tree) (b : Variables) (next at : ℕ) →
        Passes c b next →
        bindings c table b next at ≡ passed (after c b next)
    passes-bindings (plain v) b next at h = refl
    passes-bindings (atom true p ts) b next at h = pass_then _ (ask-true Mode at h) refl
    passes-bindings (atom false p ts) b next at h = pass_then _ (ask-true Mode at h) refl
    passes-bindings (compare v d x y) b next at h = pass_then _ (ask-true Mode at (and-true h.0 h.1)) refl
    passes-bindings (join true ts) b next at h = passes-bindings-all ts b next (at + 2) h
    passes-bindings (join false ts) b next at h = passes-bindings-any ts b next (at + 2) h
    passes-bindings (quantifier v n excluded c f) b next at h = refl
    passes-bindings (some c) b next at h =
        pass_then _ (passes-bindings c b (next + 1) (at + 1) h.0) (pass_then _ (ask-true Mode at h.1) refl)

    passes-bindings-all :
        (ts : Trees) (b : Variables) (next at : ℕ) →
        PassesAll ts b next →
        bindings_all ts table b next at ≡ passed (after_all ts b next)
    passes-bindings-all nil b next at h = refl
    passes-bindings-all (cons t ts) b next at h =
        pass_then _ (passes-bindings t b next at h.0) (passes-bindings-all ts (after t b next) next (at + size t) h.1)

    passes-bindings-any :
        (ts : Trees) (b : Variables) (next at : ℕ) →
        PassesAny ts b next →
        bindings_any ts table b next at ≡ passed (after_any ts b next)
    passes-bindings-any nil b next at h = refl
    passes-bindings-any (cons t ts) b next at h =
        pass_then _ (passes-bindings t b next at h.0) (pass_then _ (passes-bindings-any ts b next (at + size t) h.1) refl)

  -- the mode rule passes at each quantifier of a formula
  unfoldable mutual
    pub Moded : Tree → ℕ → Type 0
    Moded (plain b) scope = Unit {0}
    Moded (atom b p ts) scope = Unit {0}
    Moded (compare b d x y) scope = Unit {0}
    Moded (join b ts) scope = ModedAll ts scope
    Moded (quantifier b v excluded c f) scope =
        Passes c (λ x. ltb x scope) (scope + v)
        × (all (after c (λ x. ltb x scope) (scope + v)) (span scope v) ≡ true)
        × Moded f (scope + v)
    Moded (some c) scope = Unit {0}

    pub ModedAll : Trees → ℕ → Type 0
    ModedAll nil scope = Unit {0}
    ModedAll (cons t ts) scope = Moded t scope × ModedAll ts scope

  -- if the questions of a formula pass, the rule does
  mutual
    unfolding ask_modes Moded

    pub modes-moded : (f : Tree) (scope at : ℕ) → ask_modes f table scope at ≡ passed tt → Moded f scope
    modes-moded (plain b) scope at e = tt
    modes-moded (atom b p ts) scope at e = tt
    modes-moded (compare b d x y) scope at e = tt
    modes-moded (join b ts) scope at e = modes-moded-all ts scope (at + 2) e
    modes-moded (quantifier b v excluded c f) scope at e =
        let start = at + 3 + v * length excluded in
        let (b', e₁, e₂) = then_passed (bindings c table (λ x. ltb x scope) (scope + v) start) _ e in
        let (a, asked, e₃) = then_passed (ask (all b' (span scope v)) Mode at) _ e₂ in
        let (h, same) = bindings-passes c (λ x. ltb x scope) (scope + v) start e₁ in
        (h, rw same (ask-passed _ _ _ asked), modes-moded f (scope + v) (start + size c) e₃)
    modes-moded (some c) scope at e = tt

    modes-moded-all : (ts : Trees) (scope at : ℕ) → ask_modes_all ts table scope at ≡ passed tt → ModedAll ts scope
    modes-moded-all nil scope at e = tt
    modes-moded-all (cons t ts) scope at e =
        let (a, e₁, e₂) = then_passed (ask_modes t table scope at) _ e in
        (modes-moded t scope at e₁, modes-moded-all ts scope (at + size t) e₂)

  -- and the other way round, at every place
  mutual
    unfolding ask_modes Moded

    pub moded-modes : (f : Tree) (scope at : ℕ) → Moded f scope → ask_modes f table scope at ≡ passed tt
    moded-modes (plain b) scope at h = refl
    moded-modes (atom b p ts) scope at h = refl
    moded-modes (compare b d x y) scope at h = refl
    moded-modes (join b ts) scope at h = moded-modes-all ts scope (at + 2) h
    moded-modes (quantifier b v excluded c f) scope at h =
        let start = at + 3 + v * length excluded in
        pass_then _
        (passes-bindings c (λ x. ltb x scope) (scope + v) start h.0)
        (pass_then _ (ask-true Mode at h.1) (moded-modes f (scope + v) (start + size c) h.2))
    moded-modes (some c) scope at h = refl

    moded-modes-all : (ts : Trees) (scope at : ℕ) → ModedAll ts scope → ask_modes_all ts table scope at ≡ passed tt
    moded-modes-all nil scope at h = refl
    moded-modes-all (cons t ts) scope at h =
        pass_then _ (moded-modes t scope at h.0) (moded-modes-all ts scope (at + size t) h.1)

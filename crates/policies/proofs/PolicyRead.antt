-- What a walk tells of what model reads: of one node, of nodes one behind another, of a quantifier's two parts.
use Prim.Native.Nat.{ℕ, suc, ◌+◌, ◌-◌, ◌≤◌, ◌<◌, max}
use native.Mathlib.Omega.{arith}
use native.Mathlib.Nat.{sub-zero}
use mathlib.Core.Path.{◌≡◌, refl, sym, ap, ap₂, ◌∙◌}
use lib.ListN.{length}
use Rattle.model.specs.declared.Refusal.{Refusal}
use Rattle.model.specs.Words.{Words, level_limit}
use Rattle.model.specs.Answer.{Outcome, passed, refused, ◌>>=◌, refused_at}
use Rattle.model.specs.Tree.{Tree, Trees, nil, cons}
use Rattle.model.specs.Level.{Role, restriction, formula, greatest, greatest_all}
use Rattle.model.specs.Reading as R
use Rattle.model.specs.Reading.{repeat, read_node}
use Rattle.laws.specs.Reading.Encoded.{node-there}
use Rattle.policies.specs.Policy.{Told, walked, told, told_all, told_body, told_both, NodeTold, NodesTold, BothTold}
use Rattle.policies.specs.declared.policy.Walked.{Walked}
use Rattle.std.specs.Prelude.{Err}
use Rattle.model.specs.declared.Refused.{Refused}

-- an answer that a node was read, or refused, says what the reading gives
pub told-read :
    (role : Role) (above : ℕ) (o : Outcome (R.Read Tree)) {next level : ℕ} →
    walked next level ≡ told role above o →
    (r : R.Read Tree) × (o ≡ passed r) × (r.next ≡ next) × (greatest r.tree role above ≡ level)
unfolding told
told-read role above (refused q p) e = absurd (let z : ◌≡◌ {A = ℕ} 0 1 = cc in omega arith)
told-read role above (passed r) {next} {level} e =
    let same : ◌≡◌ {A = Walked} (record { next = next; level = level }) (record { next = r.next; level = greatest r.tree role above }) = cc in
    (r, refl, sym (ap (λ (w : Walked). w.next) same), sym (ap (λ (w : Walked). w.level) same))

pub told-refused :
    (role : Role) (above : ℕ) (o : Outcome (R.Read Tree)) {q : Refusal} {p : ℕ} →
    Err (refused_at q p) ≡ told role above o →
    o ≡ refused q p
unfolding told
told-refused role above (refused q' p') {q} {p} e =
    let same : refused_at q' p' ≡ refused_at q p = cc in ap₂ refused (ap (λ (f : Refused). f.0) same) (ap (λ (f : Refused). f.1) same)
told-refused role above (passed r) e = absurd (let z : ◌≡◌ {A = ℕ} 0 1 = cc in omega arith)

-- the index behind a node that was read is no further than the length
pub read_fits :
    (table words : Words) (role : Role) (above scope at : ℕ) {r : Told} {next level : ℕ} →
    r ≡ walked next level →
    NodeTold table words role above scope at r →
    next ≤ length words
read_fits table words role above scope at {r} {next} {level} e h =
    let depth : ℕ = level_limit + 1 in
    let t = told-read role above (read_node table words depth role above scope at) (sym e ∙ h depth (omega arith)) in
    omega (arith, (node-there table words depth role above scope at t.0 t.1).stands.fits, t.2)

-- trees behind others whose greatest level is `level`
unfoldable pub told_rest : Role → ℕ → ℕ → Outcome (R.Read Trees) → Told
told_rest role above level (refused q p) = Err (refused_at q p)
told_rest role above level (passed r) = walked r.next (max level (greatest_all r.tree role above))

pub greatest_all-least : (ts : Trees) (role : Role) (above : ℕ) → above ≤ greatest_all ts role above
unfolding greatest
greatest_all-least nil role above = omega arith
greatest_all-least (cons t ts) role above = let rest = greatest_all-least ts role above in omega arith

-- behind none
rest-first : (role : Role) (above : ℕ) (o : Outcome (R.Read Trees)) → told_all role above o ≡ told_rest role above above o
unfolding told_all told_rest
rest-first role above (refused q p) = refl
rest-first role above (passed r) =
    ap (walked r.next) (let least = greatest_all-least r.tree role above in omega arith)

-- of n nodes one behind another, i are read, with the greatest level `level`, and the next one stands at an index
module _ (role : Role) (above : ℕ) (one : ℕ → Outcome (R.Read Tree)) (n i next level : ℕ) where
  -- none are left
  rest-last : n ≤ i → above ≤ level → walked next level ≡ told_rest role above level (repeat (n - i) one next)
  unfolding told_rest repeat greatest
  rest-last h least = let none : n - i ≡ 0 = omega arith in rw none (ap (walked next) (omega arith))

  -- the next one is refused
  rest-refused :
      {q : Refusal} {p : ℕ} →
      i < n →
      Err (refused_at q p) ≡ told role above (one next) →
      Err (refused_at q p) ≡ told_rest role above level (repeat (n - i) one next)
  unfolding told_rest repeat ◌>>=◌
  rest-refused h e =
      let more : n - i ≡ suc (n - (i + 1)) = omega arith in rw (more, told-refused role above (one next) e)

  -- the next one is read
  rest_read :
      {behind deepest : ℕ} →
      i < n →
      walked behind deepest ≡ told role above (one next) →
      told_rest role above level (repeat (n - i) one next)
      ≡ told_rest role above (max level deepest) (repeat (n - (i + 1)) one behind)
  unfolding told_rest repeat greatest ◌>>=◌
  rest_read {behind} {deepest} h e =
      let t = told-read role above (one next) e in go t.0 t.1 t.2 t.3
    where
      levels :
          (r : R.Read Tree) (o : Outcome (R.Read Trees)) →
          told_rest role above level (o >>= λ rest. passed (record { tree = cons r.tree rest.tree; next = rest.next }))
          ≡ told_rest role above (max level (greatest r.tree role above)) o
      levels r (refused q p) = refl
      levels r (passed rest) = ap (walked rest.next) (omega arith)

      go :
          (r : R.Read Tree) →
          one next ≡ passed r →
          r.next ≡ behind →
          greatest r.tree role above ≡ deepest →
          told_rest role above level (repeat (n - i) one next)
          ≡ told_rest role above (max level deepest) (repeat (n - (i + 1)) one behind)
      go r read index most =
          let more : n - i ≡ suc (n - (i + 1)) = omega arith in rw (more, read, ← index, ← most) (levels r (repeat (n - (i + 1)) one r.next))

-- what all n nodes tell, those left do
abbrev pub Left : (table words : Words) (role : Role) (above scope n at i next level : ℕ) → Type 0
Left table words role above scope n at i next level =
    (depth : ℕ) → level_limit < depth + above →
    told_all role above (repeat n (read_node table words depth role above scope) at)
    ≡ told_rest role above level (repeat (n - i) (read_node table words depth role above scope) next)

module _ (table words : Words) (role : Role) (above scope n at : ℕ) where
  -- at first all are
  pub left-first : Left table words role above scope n at 0 at above
  left-first depth h = rw (sub-zero n) (rest-first role above _)

  module _ (i next level : ℕ) (left : Left table words role above scope n at i next level) where
    -- in the end none is
    pub left-last : n ≤ i → above ≤ level → NodesTold table words role above scope n at (walked next level)
    left-last k least depth h =
        rest-last role above (read_node table words depth role above scope) n i next level k least ∙ sym (left depth h)

    -- the next one is refused
    pub left-refused :
        i < n →
        {r : Told} {q : Refusal} {p : ℕ} →
        r ≡ Err (refused_at q p) →
        NodeTold table words role above scope next r →
        NodesTold table words role above scope n at (Err (refused_at q p))
    left-refused k e told depth h =
        rest-refused role above (read_node table words depth role above scope) n i next level k (sym e ∙ told depth h)
        ∙ sym (left depth h)

    -- the next one is read
    pub left-read :
        i < n →
        {r : Told} {behind deepest : ℕ} →
        r ≡ walked behind deepest →
        NodeTold table words role above scope next r →
        Left table words role above scope n at (i + 1) behind (max level deepest)
    left-read k e told depth h =
        left depth h
        ∙ rest_read role above (read_node table words depth role above scope) n i next level k (sym e ∙ told depth h)

-- a quantifier's parts
module _ (table words : Words) (level scope at : ℕ) {r : Told} (restricts : NodeTold table words restriction level scope at r) where
  -- the restriction is refused
  pub restriction-refused : {q : Refusal} {p : ℕ} → r ≡ Err (refused_at q p) → BothTold table words level scope at (Err (refused_at q p))
  unfolding told_both
  restriction-refused e depth h =
      rw (told-refused restriction level (read_node table words depth restriction level scope at) (sym e ∙ restricts depth h))

  module _ {next first : ℕ} (read : r ≡ walked next first) {s : Told} (body : NodeTold table words formula level scope next s) where
    -- the body is
    pub body_refused : {q : Refusal} {p : ℕ} → s ≡ Err (refused_at q p) → BothTold table words level scope at (Err (refused_at q p))
    unfolding told_both told_body
    body_refused e depth h =
        let t = told-read restriction level (read_node table words depth restriction level scope at) (sym read ∙ restricts depth h) in
        rw (
          t.1,
          t.2,
          told-refused formula level (read_node table words depth formula level scope next) (sym e ∙ body depth h),
        )

    -- both are read
    pub both_read : {behind second : ℕ} → s ≡ walked behind second → BothTold table words level scope at (walked behind (max first second))
    unfolding told_both told_body
    both_read e depth h =
        let t = told-read restriction level (read_node table words depth restriction level scope at) (sym read ∙ restricts depth h) in
        let u = told-read formula level (read_node table words depth formula level scope next) (sym e ∙ body depth h) in
        rw (t.1, t.2, u.1, u.2, t.3, u.3)

-- Places: a refused policy's place is within its words, and a refused log's within its rows; so answers are small numbers.
use Prim.Native.Nat.{ℕ, zero, suc, ◌+◌, ◌*◌, ◌%◌, ◌≤◌}
use Rattle.std.proofs.Common.{zero-add, sym, ap, ◌∙◌, subst, ⊎_elim, length-append, lit≤, leb-true}
use native.Mathlib.Omega.{arith}
use Rattle.std.specs.Prelude.{◌≡◌, refl, Bool, true, false, ◌&&◌, length, leb, ltb, eqb, ℤ, pos}
use mathlib.Core.List.{List, [], ◌∷◌, ◌++◌, Memᴰ}
use Rattle.model.specs.declared.Refusal.{Refusal}
use Rattle.model.specs.declared.Refusal.TheVariants.{Table, PolicyLength, Shape, Level, Predicate, Variable, Mode, LogLength, Row, Repeat}
use Rattle.model.specs.Words.{Words, word, value, level_limit, policy_limit}
use Rattle.model.specs.Answer.{Outcome, passed, refused, ask, in_turn, ◌>>=◌}
use Rattle.model.specs.Table.{predicates, good_record, ask_table}
use Rattle.model.specs.Log.{row_count, row_at, good_row, ask_log}
use Rattle.model.specs.Calls.{ask_policy}
use Rattle.model.specs.Tag.{Tag, tag_of}
use Rattle.model.specs.Level.{Role, restriction, formula, under, cost}
use Rattle.model.specs.Tree.{Tree, Trees, plain, atom, compare, join, quantifier, some, nil, cons, encode, encode_all}
use Rattle.model.specs.Lists.{span, all, gather}
use Rattle.laws.specs.Reading.Formed.{Formed, FormedAll, AllOfLength}
use Rattle.model.specs.Reading.{Read, own, repeat, questions, build, read_node, read_policy}
use Rattle.model.specs.Mode.{Variables, size, bindings, bindings_all, bindings_any, ask_modes, ask_modes_all}
use Rattle.laws.specs.Reading.Nodes.{Asked, asked}
use Rattle.laws.specs.Reading.Encoded.{There, node-there, read-encode, read_length}
use Rattle.laws.specs.Lists.Span.{span_mem}
use Rattle.laws.specs.Words.Tests.{and_right, decide}
use Rattle.laws.specs.Answer.{ask-passed}

-- a refusal's place is at most n
abbrev pub Within : {A : Type 0} (n : ℕ) (outcome : Outcome A) → Type 0
Within n (refused r p) = p ≤ n
Within n (passed a) = Unit {0}

pub within-ask : (b : Bool) (q : Refusal) (p n : ℕ) → p ≤ n → Within n (ask b q p)
unfolding ask
within-ask true q p n h = tt
within-ask false q p n h = h

pub within_then : {A B : Type 0} (n : ℕ) (o : Outcome A) (next : A → Outcome B) → Within n o → ((a : A) → o ≡ passed a → Within n (next a)) → Within n (o >>= next)
unfolding ◌>>=◌
within_then n (refused r p) next h k = h
within_then n (passed a) next h k = k a refl

module _ (table words : Words) where
  -- readers whose refusals are within the words, and which read no further than they go
  abbrev Bounded : (Role → ℕ → ℕ → ℕ → Outcome (Read Tree)) → Type 0
  Bounded read = (role : Role) (above scope at : ℕ) → at ≤ length words → Within (length words) (read role above scope at)

  repeat-within :
      (read : Role → ℕ → ℕ → ℕ → Outcome (Read Tree)) →
      Bounded read →
      There table words read →
      (role : Role) (above scope n at : ℕ) →
      at ≤ length words →
      Within (length words) (repeat n (read role above scope) at)
  unfolding repeat
  repeat-within read b there role above scope zero at h = tt
  repeat-within read b there role above scope (suc n) at h =
      within_then _ (read role above scope at) _ (b role above scope at h) λ first e.
      within_then _ (repeat n (read role above scope) first.next) _
      (repeat-within read b there role above scope n first.next (there role above scope at first e).stands.fits)
      λ rest e'. tt

  -- the nodes below one that passed its questions, and whose own words are there
  build-within :
      (read : Role → ℕ → ℕ → ℕ → Outcome (Read Tree)) →
      Bounded read →
      There table words read →
      (tag : Tag) (role : Role) (above level scope at : ℕ) →
      Asked table words role above scope at tag →
      Within (length words) (build words read tag role level scope at)
  unfolding build own
  build-within read b there (Tag.plain x) role above level scope at a = tt
  build-within read b there (Tag.atom x) role above level scope at a = tt
  build-within read b there (Tag.compare x) role above level scope at a = tt
  build-within read b there (Tag.join x) role above level scope at a =
      within_then _ (repeat (value words (at + 1)) (read (under role x) level scope) (at + 2)) _
      (repeat-within read b there (under role x) level scope (value words (at + 1)) (at + 2) a.fits)
      λ children e. tt
  build-within read b there (Tag.quantifier x) role above level scope at a =
      let v = value words (at + 1) in
      let m = value words (at + 2) in
      within_then _ (read restriction level (scope + v) (at + 3 + v * m)) _
      (b restriction level (scope + v) (at + 3 + v * m) (let f = a.fits in omega arith)) λ c e.
      within_then _ (read formula level (scope + v) c.next) _
      (b formula level (scope + v) c.next (there restriction level (scope + v) (at + 3 + v * m) c e).stands.fits)
      λ f e'. tt
  build-within read b there Tag.some role above level scope at a =
      within_then _ (read restriction level (scope + 1) (at + 1)) _
      (b restriction level (scope + 1) (at + 1) a.fits)
      λ c e. tt
  build-within read b there Tag.unused role above level scope at a = let f = a.fits in omega arith

  questions-within : (tag : Tag) (role : Role) (above scope at : ℕ) → at ≤ length words → Within (length words) (questions table words tag role above scope at)
  unfolding questions
  questions-within tag role above scope at h =
      within_then _ (ask _ Shape at) _ (within-ask _ Shape at _ h) λ _ _.
      within_then _ (ask _ Level at) _ (within-ask _ Level at _ h) λ _ _.
      within_then _ (ask _ Predicate at) _ (within-ask _ Predicate at _ h) λ _ _.
      within-ask _ Variable at _ h

  node-within : (depth : ℕ) → Bounded (read_node table words depth)
  unfolding read_node
  node-within zero role above scope at h = h
  node-within (suc depth) role above scope at h =
      let tag = tag_of (word words at) in
      within_then _ (questions table words tag role above scope at) _ (questions-within tag role above scope at h) λ _ e.
      build-within (read_node table words depth) (node-within depth) (node-there table words depth) tag role above
      (above + cost role tag) scope at (asked table words role above scope at tag e)

  -- questions 2 to 6
  pub read-within : Within (length words) (read_policy table words)
  unfolding read_policy
  read-within =
      within_then _ (ask _ PolicyLength 0) _ (within-ask _ PolicyLength 0 _ (omega arith)) λ _ _.
      within_then _ (read_node table words (level_limit + 1) formula 0 0 0) _ (node-within (level_limit + 1) formula 0 0 0 (omega arith)) λ r e.
      within_then _ (ask _ Shape r.next) _ (within-ask _ Shape r.next _ (node-there table words (level_limit + 1) formula 0 0 0 r e).stands.fits) λ _ _.
      tt

-- question 7: the places are those of the tree's words
mutual
  unfolding bindings size encode

  bindings-within : (c : Tree) (table : Words) (b : Variables) (next at n : ℕ) → at + size c ≤ n → Within n (bindings c table b next at)
  bindings-within (plain x) table b next at n h = tt
  bindings-within (atom true p ts) table b next at n h =
      within_then _ (ask _ Mode at) _ (within-ask _ Mode at n (omega arith)) λ _ _. tt
  bindings-within (atom false p ts) table b next at n h =
      within_then _ (ask _ Mode at) _ (within-ask _ Mode at n (omega arith)) λ _ _. tt
  bindings-within (compare x d l r) table b next at n h =
      within_then _ (ask _ Mode at) _ (within-ask _ Mode at n (omega arith)) λ _ _. tt
  bindings-within (join true ts) table b next at n h = bindings-all-within ts table b next (at + 2) n (omega arith)
  bindings-within (join false ts) table b next at n h = bindings-any-within ts table b next (at + 2) n (omega arith)
  bindings-within (quantifier x v excluded c f) table b next at n h = tt
  bindings-within (some c) table b next at n h =
      within_then _ (bindings c table b (next + 1) (at + 1)) _ (bindings-within c table b (next + 1) (at + 1) n (omega arith)) λ inner _.
      within_then _ (ask (inner next) Mode at) _ (within-ask _ Mode at n (omega arith)) λ _ _. tt

  bindings-all-within : (ts : Trees) (table : Words) (b : Variables) (next at n : ℕ) → at + length (encode_all ts) ≤ n → Within n (bindings_all ts table b next at)
  bindings-all-within nil table b next at n h = tt
  bindings-all-within (cons t ts) table b next at n h =
      let long = length-append (encode t) (encode_all ts) in
      within_then _ (bindings t table b next at) _ (bindings-within t table b next at n (omega arith)) λ first _.
      bindings-all-within ts table first next (at + size t) n (omega arith)

  bindings-any-within : (ts : Trees) (table : Words) (b : Variables) (next at n : ℕ) → at + length (encode_all ts) ≤ n → Within n (bindings_any ts table b next at)
  bindings-any-within nil table b next at n h = tt
  bindings-any-within (cons t ts) table b next at n h =
      let long = length-append (encode t) (encode_all ts) in
      within_then _ (bindings t table b next at) _ (bindings-within t table b next at n (omega arith)) λ first _.
      within_then _ (bindings_any ts table b next (at + size t)) _ (bindings-any-within ts table b next (at + size t) n (omega arith)) λ rest _. tt

-- tuples of v numbers take v words each
tuples-long : (v : ℕ) (τs : List (List ℤ)) → AllOfLength v τs → length (gather (λ (τ : List ℤ). τ) τs) ≡ v * length τs
unfolding AllOfLength gather
tuples-long v [] h = omega arith
tuples-long v (τ ∷ τs) h =
    let rest = tuples-long v τs h.1 in
    length-append τ (gather (λ (σ : List ℤ). σ) τs) ∙ omega (arith, h.0)

mutual
  unfolding ask_modes size encode Formed

  modes-within : (f : Tree) (table : Words) (scope at n : ℕ) → Formed f table true scope → at + size f ≤ n → Within n (ask_modes f table scope at)
  modes-within (plain x) table scope at n k h = tt
  modes-within (atom x p ts) table scope at n k h = tt
  modes-within (compare x d l r) table scope at n k h = tt
  modes-within (join x ts) table scope at n k h = modes-all-within ts table scope (at + 2) n k.1 (omega arith)
  modes-within (quantifier x v excluded c f) table scope at n k h =
      let start = at + 3 + v * length excluded in
      let front = (pos 0 ∷ pos v ∷ pos (length excluded) ∷ gather (λ (τ : List ℤ). τ) excluded) in
      let long = tuples-long v excluded k.3 in
      let long₁ = length-append front (encode c) in
      let long₂ = length-append (front ++ encode c) (encode f) in
      within_then _ (bindings c table (λ y. ltb y scope) (scope + v) start) _
      (bindings-within c table (λ y. ltb y scope) (scope + v) start n (omega arith)) λ bound _.
      within_then _ (ask (all bound (span scope v)) Mode at) _ (within-ask _ Mode at n (omega arith)) λ _ _.
      modes-within f table (scope + v) (start + size c) n k.6 (omega arith)
  modes-within (some c) table scope at n k h = tt

  modes-all-within : (ts : Trees) (table : Words) (scope at n : ℕ) → FormedAll ts table true scope → at + length (encode_all ts) ≤ n → Within n (ask_modes_all ts table scope at)
  modes-all-within nil table scope at n k h = tt
  modes-all-within (cons t ts) table scope at n k h =
      let long = length-append (encode t) (encode_all ts) in
      within_then _ (ask_modes t table scope at) _ (modes-within t table scope at n k.0 (omega arith)) λ _ _.
      modes-all-within ts table scope (at + size t) n k.1 (omega arith)

-- less room is room
pub within_more : {A : Type 0} (n m : ℕ) (o : Outcome A) → n ≤ m → Within n o → Within m o
within_more n m (refused r p) h k = omega arith
within_more n m (passed a) h k = tt

within_turn : {A : Type 0} (n : ℕ) (questions : A → Outcome (Unit {0})) (l : List A) → ((x : A) → Memᴰ x l → Within n (questions x)) → Within n (in_turn questions l)
unfolding in_turn
within_turn n questions [] h = tt
within_turn n questions (x ∷ l) h =
    within_then _ (questions x) _ (h x (Memᴰ.head refl)) λ _ _. within_turn n questions l (λ y m. h y (Memᴰ.tail m))

-- question 1
pub table-within : (table : Words) → Within 256 (ask_table table)
unfolding ask_table
table-within table =
    within_then _ (ask _ Table 0) _ (within-ask _ Table 0 256 (omega arith)) λ _ e.
    let few = leb-true (predicates table) 256 (and_right (eqb (length table % 3) 0 && leb 1 (predicates table)) _ (ask-passed _ Table 0 e)) in
    within_turn 256 (λ p. ask (good_record table p) Table p) (span 0 (predicates table)) (λ p m.
    let below = (span_mem 0 (predicates table) m).1 in
    within-ask (good_record table p) Table p 256 (omega (arith, zero-add (predicates table))))

whole : (tree : Tree) (words : Words) → encode tree ≡ words → 0 + size tree ≤ length words
unfolding size
whole tree words is = omega (arith, ap length is)

and-false : (a b : Bool) → b ≡ false → (a && b) ≡ false
and-false true b e = e
and-false false b e = refl

-- a policy that is too long is refused at place 0
too_long : (table words : Words) → leb (length words) policy_limit ≡ false → read_policy table words ≡ refused PolicyLength 0
unfolding read_policy ask ◌>>=◌
too_long table words e = rw (and-false (leb 1 (length words)) _ e)

read_short : (table words : Words) → Within policy_limit (read_policy table words)
read_short table words =
    ⊎_elim
    (λ e. within_more (length words) policy_limit (read_policy table words) (leb-true _ _ e) (read-within table words))
    (λ e. subst (Within policy_limit) (sym (too_long table words e)) (omega arith))
    (decide (leb (length words) policy_limit))

-- questions 1 to 7
pub policy-within : (table policy : Words) → Within policy_limit (ask_policy table policy)
unfolding ask_policy
policy-within table policy =
    within_then _ (ask_table table) _ (within_more 256 policy_limit (ask_table table) (lit≤ tt) (table-within table)) λ _ _.
    within_then _ (read_policy table policy) _ (read_short table policy) λ tree e.
    let (is, formed, levels) = read-encode table policy tree e in
    within_then _ (ask_modes tree table 0 0) _
    (within_more (length policy) policy_limit (ask_modes tree table 0 0) (read_length table policy tree e).1
    (modes-within tree table 0 0 (length policy) formed (whole tree policy is)))
    λ _ _. tt

-- questions 8 to 10
pub log-within : (table log : Words) → Within 4096 (ask_log table log)
unfolding ask_log
log-within table log =
    within_then _ (ask _ LogLength 0) _ (within-ask _ LogLength 0 4096 (omega arith)) λ _ e.
    let few = leb-true (row_count log) 4096 (and_right (eqb (length log % 8) 0) _ (ask-passed _ LogLength 0 e)) in
    within_turn 4096 _ (span 0 (row_count log)) (λ r m.
    let below = (span_mem 0 (row_count log) m).1 in
    within_then _ (ask (good_row table (row_at log r)) Row r) _ (within-ask _ Row r 4096 (omega (arith, zero-add (row_count log)))) λ _ _.
    within-ask _ Repeat r 4096 (omega (arith, zero-add (row_count log))))

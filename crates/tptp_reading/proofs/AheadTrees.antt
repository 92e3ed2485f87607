-- The scan for a byte that can follow an operand passes an operand: from where one stands it goes as from behind it. Every token
-- is passed by itself, connectives only where a parenthesis is open; and all-of and any-of, the only trees that have connectives
-- outside of parentheses, stand in parentheses as operands.
use Prim.Native.Nat.{ℕ, zero, suc, ◌+◌, ◌-◌, ◌/◌, ◌%◌, ◌≤◌, ◌<◌}
use native.Mathlib.Omega.{arith}
use mathlib.Core.Path.{◌≡◌, refl, ap, ◌∙◌}
use mathlib.Core.Logic.{◌⊎◌, ⊎_elim}
use mathlib.Core.Bool.{Bool, true, false, not, cond, ◌||◌}
use mathlib.Core.List.{List, [], ◌∷◌, ◌++◌, map, append_assoc}
use lib.ListN.{length}
use lib.Dec.{ltb, eqb}
use lib.IntN.{ℤ, pos, negsuc}
use borrow.Author.Tests.{eqb-true, ne_eqb, ltb-true, not-true}
use Rattle.model.specs.Bytes.{Text, bytes, blank, nought}
use Rattle.model.specs.Lists.{span, all, gather}
use Rattle.model.specs.Answer.{passed}
use Rattle.model.specs.Decimal.{digits, decimal}
use Rattle.model.specs.Tree.{Term, constant, variable, Tree, Trees, plain, atom, compare, join, quantifier, some, nil, cons}
use Rattle.model.specs.Tptp.{Tokens, Stand, predicate_token, variable_token, term_token, parenthesized, separated, connective, negation}
use Rattle.model.specs.Tptp.{binder, unequals, excludes, restricted, is_join, enclosed, tokens, operands}
use Rattle.model.specs.TptpReading.{Got, behind_blanks, begins_with, readers}
use Rattle.laws.specs.Words.Tests.{decide, and_left, and_right, and-false, or_cases, or_false_left, or_false_right}
use Rattle.laws.specs.Lists.Membership.{all_mem, all_intro, all_append}
use Rattle.laws.specs.Tptp.Spelling.TokensInFront.{stand-split}
use Rattle.laws.specs.Tptp.Sound.Policies.{operand_sound}
use Rattle.tptp_binders.specs.Ahead.{stopping}

-- a byte that is no parenthesis and no connective is passed at every depth
unfoldable quiet : ℕ → Bool
quiet b = not (eqb b 40 || eqb b 41 || eqb b 38 || eqb b 124)

quiet_passed : (b : ℕ) (t : Text) (depth : ℕ) → quiet b ≡ true → stopping (b ∷ t) depth ≡ stopping t depth
unfolding quiet stopping
quiet_passed b t depth e =
    let parentheses = eqb b 40 || eqb b 41 in
    let none = not-true (parentheses || eqb b 38 || eqb b 124) e in
    let front = or_false_left (parentheses || eqb b 38) (eqb b 124) none in
    let opens = or_false_left (eqb b 40) (eqb b 41) (or_false_left parentheses (eqb b 38) front) in
    let closes = or_false_right (eqb b 40) (eqb b 41) (or_false_left parentheses (eqb b 38) front) in
    let ands = or_false_right parentheses (eqb b 38) front in
    let ors = or_false_right (parentheses || eqb b 38) (eqb b 124) none in
    rw (opens, closes, ands, ors, and-false (eqb depth 0) refl)

blank_quiet : (b : ℕ) → blank b ≡ true → quiet b ≡ true
unfolding blank quiet
blank_quiet b e =
    ⊎_elim
    (λ k. ⊎_elim (λ l. rw (eqb-true b 32 l)) (λ l. rw (eqb-true b 10 l)) (or_cases (eqb b 32) (eqb b 10) k))
    (λ k. rw (eqb-true b 13 k))
    (or_cases (eqb b 32 || eqb b 10) (eqb b 13) e)

-- bytes that are all passed
all-passed : (u rest : Text) (depth : ℕ) → all quiet u ≡ true → stopping (u ++ rest) depth ≡ stopping rest depth
unfolding all
all-passed [] rest depth e = refl
all-passed (b ∷ u) rest depth e =
    quiet_passed b (u ++ rest) depth (and_left (quiet b) _ e) ∙ all-passed u rest depth (and_right (quiet b) _ e)

blanks_quiet : (gap : Text) → all blank gap ≡ true → all quiet gap ≡ true
blanks_quiet gap e = all_intro quiet gap (λ b m. blank_quiet b (all_mem blank e m))

-- numbers and names are such bytes
digit_quiet : (m : ℕ) → m < 10 → all quiet ((nought + m) ∷ []) ≡ true
unfolding all quiet
digit_quiet m h =
    rw (
      ne_eqb (nought + m) 40 (λ e. omega arith),
      ne_eqb (nought + m) 41 (λ e. omega arith),
      ne_eqb (nought + m) 38 (λ e. omega arith),
      ne_eqb (nought + m) 124 (λ e. omega arith),
    )

digits_quiet : (k n : ℕ) → all quiet (digits k n) ≡ true
unfolding all digits
digits_quiet zero n = refl
digits_quiet (suc k) n =
    ⊎_elim
    (λ e. rw e (digit_quiet n (ltb-true n 10 e)))
    (λ e. rw e (all_append quiet (digits k (n / 10)) _ (digits_quiet k (n / 10)) (digit_quiet (n % 10) (omega arith))))
    (decide (ltb n 10))

decimal_quiet : (z : ℤ) → all quiet (decimal z) ≡ true
unfolding all decimal quiet
decimal_quiet (pos n) = digits_quiet 10 n
decimal_quiet (negsuc n) = digits_quiet 10 (suc n)

predicate_quiet : (p : ℕ) → all quiet (predicate_token p) ≡ true
unfolding all predicate_token bytes quiet
predicate_quiet p = digits_quiet 10 p

variable_quiet : (x : ℕ) → all quiet (variable_token x) ≡ true
unfolding all variable_token bytes quiet
variable_quiet x = digits_quiet 10 x

term_quiet : (t : Term) → all quiet (term_token t) ≡ true
unfolding term_token
term_quiet (constant k) = decimal_quiet k
term_quiet (variable x) = variable_quiet x

-- a text behind its blanks
blanks-passed : (text : Text) (depth : ℕ) → stopping text depth ≡ stopping (behind_blanks text) depth
unfolding behind_blanks
blanks-passed [] depth = refl
blanks-passed (b ∷ t) depth =
    ⊎_elim
    (λ e. rw e (quiet_passed b t depth (blank_quiet b e) ∙ blanks-passed t depth))
    (λ e. rw e)
    (decide (blank b))

-- the scan stops at a byte that can follow an operand
halts : (c : ℕ) (text : Text) → (c ≡ 38) ⊎ (c ≡ 124) ⊎ (c ≡ 41) → begins_with c text ≡ true → stopping text 0 ≡ text
unfolding begins_with stopping
halts c [] is e = refl
halts c (b ∷ t) is e =
    let same = eqb-true b c e in
    ⊎_elim
    (λ k. let at : b ≡ 38 = same ∙ k in rw at)
    (⊎_elim (λ k. let at : b ≡ 124 = same ∙ k in rw at) (λ k. let at : b ≡ 41 = same ∙ k in rw at))
    is

pub stopping-here :
    (c : ℕ) (text : Text) →
    (c ≡ 38) ⊎ (c ≡ 124) ⊎ (c ≡ 41) →
    begins_with c (behind_blanks text) ≡ true →
    stopping text 0 ≡ behind_blanks text
stopping-here c text is e = blanks-passed text 0 ∙ halts c (behind_blanks text) is e

-- one token and the blanks before it, by what the scan does where the token begins
token-passed :
    (token text rest : Text) (before after : ℕ) →
    ((t : Text) → stopping (token ++ t) before ≡ stopping t after) →
    Stand (token ∷ []) text rest →
    stopping text before ≡ stopping rest after
unfolding Stand
token-passed token text rest before after h (gap, behind, blanks, is, same) =
    ap (λ (t : Text). stopping t before) (is ∙ append_assoc gap token behind)
    ∙ all-passed gap (token ++ behind) before (blanks_quiet gap blanks)
    ∙ h behind
    ∙ ap (λ (t : Text). stopping t after) same

-- a parenthesis opens, and closes
opened : (depth : ℕ) (t : Text) → stopping (bytes "(" ++ t) depth ≡ stopping t (suc depth)
unfolding bytes stopping
opened depth t = refl

closed : (depth : ℕ) (t : Text) → stopping (bytes ")" ++ t) (suc depth) ≡ stopping t depth
unfolding bytes stopping
closed depth t =
    let less : suc depth - 1 ≡ depth = omega arith in
    rw (ne_eqb (suc depth) 0 (λ e. omega arith), less)

-- tokens that the scan passes where at least so many parentheses are open
record Passes (low : ℕ) (ts : Tokens) : Type 0 where
  passes : (depth : ℕ) → low ≤ depth → (text rest : Text) → Stand ts text rest → stopping text depth ≡ stopping rest depth

-- a connective
passes-connective : (b : Bool) → Passes 1 (connective b ∷ [])
unfolding connective bytes stopping
passes-connective b =
    record { passes = λ depth l text rest s. token-passed (connective b) text rest depth depth (λ t. one b t depth l) s }
  where
    one : (b : Bool) (t : Text) (depth : ℕ) → 1 ≤ depth → stopping (connective b ++ t) depth ≡ stopping t depth
    one true t depth l = rw (ne_eqb depth 0 (λ e. omega arith))
    one false t depth l = rw (ne_eqb depth 0 (λ e. omega arith))

passes_deeper : {low : ℕ} {ts : Tokens} → Passes 0 ts → Passes low ts
passes_deeper p = record { passes = λ depth l text rest s. p.passes depth (omega arith) text rest s }

module _ {low : ℕ} where
  passes_none : Passes low []
  unfolding Stand
  passes_none = record { passes = λ depth l text rest s. ap (λ (t : Text). stopping t depth) s }

  passes_append : {a b : Tokens} → Passes low a → Passes low b → Passes low (a ++ b)
  passes_append {a} {b} p q =
      record {
        passes = λ depth l text rest s.
            let (mid, s₁, s₂) = stand-split a b text rest s in
            p.passes depth l text mid s₁ ∙ q.passes depth l mid rest s₂;
      }

  passes_quiet : {token : Text} → all quiet token ≡ true → Passes low (token ∷ [])
  passes_quiet {token} e =
      record { passes = λ depth l text rest s. token-passed token text rest depth depth (λ t. all-passed token t depth e) s }

  -- behind a quiet token
  passes-cons : {token : Text} {ts : Tokens} → all quiet token ≡ true → Passes low ts → Passes low (token ∷ ts)
  passes-cons e p = passes_append (passes_quiet e) p

  -- parentheses, whatever they are in
  passes-parenthesized : {ts : Tokens} → Passes 1 ts → Passes low (parenthesized ts)
  unfolding parenthesized
  passes-parenthesized {ts} p = record {
    passes = λ depth l text rest s.
        let (mid, s₁, s₂) = stand-split (bytes "(" ∷ ts) (bytes ")" ∷ []) text rest s in
        let (inner, s₃, s₄) = stand-split (bytes "(" ∷ []) ts text mid s₁ in
        token-passed (bytes "(") text inner depth (suc depth) (opened depth) s₃
        ∙ p.passes (suc depth) (omega arith) inner mid s₄
        ∙ token-passed (bytes ")") mid rest (suc depth) depth (closed depth) s₂;
  }

-- parts that are all passed
abbrev Each : ℕ → List Tokens → Type 0
Each low [] = Unit {0}
Each low (part ∷ parts) = Passes low part × Each low parts

each_map : {A : Type 0} {low : ℕ} (f : A → Tokens) → ((x : A) → Passes low (f x)) → (xs : List A) → Each low (map f xs)
each_map f h [] = tt
each_map f h (x ∷ xs) = (h x, each_map f h xs)

module _ {low : ℕ} {token : Text} (h : Passes low (token ∷ [])) where
  passes-gather : (parts : List Tokens) → Each low parts → Passes low (gather (λ next. token ∷ next) parts)
  unfolding gather
  passes-gather [] e = passes_none
  passes-gather (part ∷ parts) e = passes_append (passes_append h e.0) (passes-gather parts e.1)

  passes-separated : (parts : List Tokens) → Each low parts → Passes low (separated token parts)
  unfolding separated
  passes-separated [] e = passes_none
  passes-separated (part ∷ parts) e = passes_append e.0 (passes-gather parts e.1)

-- the parts of trees: a negation, the terms of an atom, a binder
module _ {low : ℕ} where
  passes-negation : (b : Bool) → Passes low (negation b)
  unfolding negation bytes all quiet
  passes-negation true = passes_none
  passes-negation false = passes_quiet refl

  passes-commas : (parts : List Tokens) → Each low parts → Passes low (separated (bytes ",") parts)
  unfolding bytes all quiet
  passes-commas parts e = passes-separated (passes_quiet refl) parts e

  passes-terms : (ts : List Term) → Passes low (separated (bytes ",") (map (λ t. term_token t ∷ []) ts))
  passes-terms ts = passes-commas _ (each_map (λ t. term_token t ∷ []) (λ t. passes_quiet (term_quiet t)) ts)

  passes-typed : (x : ℕ) → Passes low (variable_token x ∷ bytes ":" ∷ bytes "$int" ∷ [])
  unfolding bytes all quiet
  passes-typed x = passes-cons (variable_quiet x) (passes-cons refl (passes_quiet refl))

  passes-binder : (scope v : ℕ) → Passes low (binder scope v)
  unfolding binder bytes all quiet
  passes-binder scope v =
      let names = passes-commas _ (each_map (λ x. variable_token x ∷ bytes ":" ∷ bytes "$int" ∷ []) passes-typed (span scope v)) in
      passes_append (passes-cons refl names) (passes-cons refl (passes_quiet refl))

-- excluded tuples, and a restriction with them
each-unequal : (x : ℕ) (ks : List ℤ) → Each 1 (unequals x ks)
unfolding unequals bytes all quiet
each-unequal x [] = tt
each-unequal x (k ∷ ks) =
    (passes-cons (variable_quiet x) (passes-cons refl (passes_quiet (decimal_quiet k))), each-unequal (suc x) ks)

passes-excludes : (x : ℕ) (tuple : List ℤ) → Passes 1 (excludes x tuple)
unfolding excludes connective
passes-excludes x tuple =
    let parts = passes-separated (passes-connective false) (unequals x tuple) (each-unequal x tuple) in
    ⊎_elim (λ e. rw e parts) (λ e. rw e (passes-parenthesized parts)) (decide (eqb (length tuple) 1))

passes-restricted : {c : Tokens} (tuples : List Tokens) → Passes 1 c → Each 1 tuples → Passes 1 (restricted c tuples)
unfolding restricted connective
passes-restricted [] p e = p
passes-restricted {c} (tuple ∷ tuples) p e =
    passes-parenthesized (passes-separated (passes-connective true) (c ∷ tuple ∷ tuples) (p, e))

-- a tree's tokens are passed inside of parentheses, and everywhere where the tree is an operand
record Passed (t : Tree) (ts : Tokens) : Type 0 where
  inside : Passes 1 ts
  operand : Passes 0 (enclosed t ts)

passed_open : {t : Tree} {ts : Tokens} → is_join t ≡ false → Passes 0 ts → Passed t ts
unfolding enclosed
passed_open e p = record { inside = passes_deeper p; operand = rw e p }

passed-join : {t : Tree} {ts : Tokens} → is_join t ≡ true → Passes 1 ts → Passed t ts
unfolding enclosed
passed-join e p = record { inside = p; operand = rw e (passes-parenthesized p) }

plain_quiet : (b : Bool) → all quiet (cond b (bytes "$true") (bytes "$false")) ≡ true
unfolding bytes all quiet
plain_quiet true = refl
plain_quiet false = refl

quantifier_quiet : (b : Bool) → all quiet (cond b (bytes "!") (bytes "?")) ≡ true
unfolding bytes all quiet
quantifier_quiet true = refl
quantifier_quiet false = refl

-- between a restriction and a body
passes-between : (b : Bool) → Passes 1 (cond b (bytes "=>") (bytes "&") ∷ [])
unfolding connective bytes all quiet
passes-between true = passes_quiet refl
passes-between false = passes-connective true

mutual
  unfolding tokens is_join bytes all quiet

  tree-passed : (t : Tree) (scope : ℕ) → Passed t (tokens t scope)
  tree-passed (plain b) scope = passed_open refl (passes_quiet (plain_quiet b))
  tree-passed (atom b p ts) scope =
      passed_open refl
      (passes_append (passes-negation b) (passes-cons (predicate_quiet p) (passes-parenthesized (passes-terms ts))))
  tree-passed (compare b d x y) scope =
      let sum = passes-parenthesized (passes-cons (term_quiet x) (passes-cons refl (passes_quiet (decimal_quiet d)))) in
      let both = passes_append (passes-cons refl sum) (passes-cons refl (passes_quiet (term_quiet y))) in
      passed_open refl (passes_append (passes-negation b) (passes-cons refl (passes-parenthesized both)))
  tree-passed (join b ts) scope =
      passed-join refl (passes-separated (passes-connective b) (operands ts scope) (operands-passed ts scope))
  tree-passed (quantifier b v excluded c f) scope =
      let tuples = each_map (excludes scope) (passes-excludes scope) excluded in
      let restriction = passes_deeper (tree-passed c (scope + v)).operand in
      let body = passes_deeper (tree-passed f (scope + v)).operand in
      let front = passes-restricted (map (excludes scope) excluded) restriction tuples in
      let inner = passes-parenthesized (passes_append front (passes_append (passes-between b) body)) in
      passed_open refl (passes_append (passes-cons (quantifier_quiet b) (passes-binder scope v)) inner)
  tree-passed (some c) scope =
      let inner = passes-parenthesized (tree-passed c (scope + 1)).inside in
      passed_open refl (passes_append (passes-cons refl (passes-binder scope 1)) inner)

  operands-passed : (ts : Trees) (scope : ℕ) → Each 1 (operands ts scope)
  operands-passed nil scope = tt
  operands-passed (cons t ts) scope = (passes_deeper (tree-passed t scope).operand, operands-passed ts scope)

-- an operand that was read is passed
pub operand-stopping :
    (room : ℕ) (formula : Bool) (scope : ℕ) (text : Text) (p : ℕ) (g : Got Tree) →
    (readers room).operand formula scope text p ≡ passed g →
    stopping text 0 ≡ stopping g.rest 0
operand-stopping room formula scope text p g e =
    let read = operand_sound room formula scope text p g e in
    (tree-passed g.what scope).operand.passes 0 (omega arith) text g.rest read.stand

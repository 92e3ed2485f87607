-- How long the text of a policy is: a text that spells a tree has at least as many bytes as the tree has words; and the text that is
-- written of an accepted policy has at most 18 bytes for each of its words, and 14 more.
use Rattle.std.specs.Prelude.{ℕ, zero, suc, ◌+◌, ◌*◌, ◌≤◌, ◌<◌, ◌≡◌, refl, Bool, true, false, cond, List, [], ◌∷◌, ◌++◌, map, length, eqb, ℤ, pos, negsuc}
use Rattle.std.proofs.Common.{arith, ap, length-append}
use Rattle.std.proofs.lemmas.List.{length-map}
use Rattle.std.proofs.lemmas.Bool.{eqb-false}
use Rattle.model.specs.Words.{Words}
use Rattle.model.specs.Lists.{span, gather}
use Rattle.model.specs.Answer.{passed}
use Rattle.model.specs.Bytes.{Text, bytes}
use Rattle.model.specs.Decimal.{decimal}
use Rattle.model.specs.Tree.{Term, constant, variable, Tree, Trees, plain, atom, compare, join, quantifier, some, nil, cons, encode_term}
use Rattle.model.specs.Tree.{encode, encode_all}
use Rattle.model.specs.Tptp.{Tokens, predicate_token, variable_token, term_token, parenthesized, separated, connective, negation, binder}
use Rattle.model.specs.Tptp.{unequals, excludes, restricted, is_join, enclosed, tokens, operands, text_tokens, Stand, Spells, policy_text}
use Rattle.model.specs.Calls.{ask_policy}
use Rattle.laws.specs.Decimal.{digits-few, digits-some, digits-two}
use Rattle.laws.specs.Reading.Formed.{Formed, FormedAll, AllOfLength}
use Rattle.laws.specs.Reading.Items.{length-span}
use Rattle.laws.specs.Calls.Policy.{accepted-rules}

-- the bytes of tokens, and of lists of them
unfoldable weight : Tokens → ℕ
weight [] = 0
weight (token ∷ ts) = length token + weight ts

unfoldable total : List Tokens → ℕ
total [] = 0
total (part ∷ parts) = weight part + total parts

weight-append : (ts us : Tokens) → weight (ts ++ us) ≡ weight ts + weight us
unfolding weight
weight-append [] us = omega arith
weight-append (token ∷ ts) us = omega (arith, weight-append ts us)

-- a text has the bytes of the tokens that stand in it; with no blanks, these only
stand-weight : (ts : Tokens) (text rest : Text) → Stand ts text rest → weight ts + length rest ≤ length text
unfolding Stand weight
stand-weight [] text rest e = omega (arith, ap length e)
stand-weight (token ∷ ts) text rest (gap, behind, blanks, is, s) =
    omega (arith, ap length is, length-append gap token, length-append (gap ++ token) behind, stand-weight ts behind rest s)

gather-weight : (ts : Tokens) → length (gather (λ token. token) ts) ≡ weight ts
unfolding gather weight
gather-weight [] = refl
gather-weight (token ∷ ts) = omega (arith, length-append token (gather (λ t. t) ts), gather-weight ts)

-- parentheses, and parts with a token of one byte between any two
parenthesized-weight : (ts : Tokens) → weight (parenthesized ts) ≡ 2 + weight ts
unfolding parenthesized weight bytes
parenthesized-weight ts = omega (arith, weight-append ts (bytes ")" ∷ []))

further-weight :
    (token : Text) (parts : List Tokens) →
    length token ≡ 1 →
    weight (gather (λ (next : Tokens). token ∷ next) parts) ≡ total parts + length parts
unfolding gather weight total
further-weight token [] e = refl
further-weight token (part ∷ parts) e =
    omega (arith, weight-append part (gather (λ (next : Tokens). token ∷ next) parts), further-weight token parts e)

separated-weight :
    (token : Text) (parts : List Tokens) →
    length token ≡ 1 →
    (total parts ≤ weight (separated token parts))
    × (total parts + length parts ≤ weight (separated token parts) + 1)
    × (weight (separated token parts) ≤ total parts + length parts)
    × (1 ≤ length parts → weight (separated token parts) + 1 ≡ total parts + length parts)
unfolding separated weight total
separated-weight token [] e = (omega arith, omega arith, omega arith, λ h. absurd (omega arith))
separated-weight token (part ∷ parts) e =
    let both = weight-append part (gather (λ (next : Tokens). token ∷ next) parts) in
    let further = further-weight token parts e in
    (omega arith, omega arith, omega arith, λ h. omega arith)

-- the tokens of numbers, terms, variables and predicates
decimal-length : (k : ℤ) → (1 ≤ length (decimal k)) × (length (decimal k) ≤ 11)
unfolding decimal
decimal-length (pos n) = (digits-some 9 n, omega (arith, digits-few 10 n))
decimal-length (negsuc n) = (omega arith, omega (arith, digits-few 10 (suc n)))

variable-length : (x : ℕ) → (2 ≤ length (variable_token x)) × (length (variable_token x) ≤ 11)
unfolding variable_token bytes
variable-length x = (omega (arith, digits-some 9 x), omega (arith, digits-few 10 x))

-- a variable that can be in scope has at most two digits
variable-short : (x : ℕ) → x < 100 → length (variable_token x) ≤ 3
unfolding variable_token bytes
variable-short x h = omega (arith, digits-two 8 x h)

predicate-length : (p : ℕ) → (2 ≤ length (predicate_token p)) × (length (predicate_token p) ≤ 11)
unfolding predicate_token bytes
predicate-length p = (omega (arith, digits-some 9 p), omega (arith, digits-few 10 p))

term-length : (t : Term) → (1 ≤ length (term_token t)) × (length (term_token t) ≤ 11)
unfolding term_token
term-length (constant k) = decimal-length k
term-length (variable x) = (omega (arith, variable-length x), (variable-length x).1)

terms-total :
    (ts : List Term) →
    let parts = map (λ (t : Term). term_token t ∷ []) ts in
    (length ts ≤ total parts) × (total parts ≤ 11 * length ts)
unfolding total weight
terms-total [] = (omega arith, omega arith)
terms-total (t ∷ ts) =
    let (one, few) = term-length t in
    let (more, most) = terms-total ts in
    (omega arith, omega arith)

connective-length : (b : Bool) → length (connective b) ≡ 1
unfolding connective bytes
connective-length true = refl
connective-length false = refl

negation-weight : (b : Bool) → weight (negation b) ≤ 1
unfolding negation weight bytes
negation-weight true = omega arith
negation-weight false = omega arith

-- a binder of variables that can be in scope
declared_total :
    (x v : ℕ) →
    x + v ≤ 100 →
    total (map (λ (y : ℕ). variable_token y ∷ bytes ":" ∷ bytes "$int" ∷ []) (span x v)) ≤ 8 * v
unfolding total weight span bytes
declared_total x zero h = omega arith
declared_total x (suc v) h = omega (arith, variable-short x (omega arith), declared_total (suc x) v (omega arith))

binder-weight : (scope v : ℕ) → (3 ≤ weight (binder scope v)) × (scope + v ≤ 100 → weight (binder scope v) ≤ 3 + 9 * v)
unfolding binder weight bytes
binder-weight scope v =
    let parts = map (λ (y : ℕ). variable_token y ∷ bytes ":" ∷ bytes "$int" ∷ []) (span scope v) in
    let most = (separated-weight (bytes ",") parts refl).2 in
    let all = weight-append (separated (bytes ",") parts) (bytes "]" ∷ bytes ":" ∷ []) in
    let count = length-map (span scope v) (λ (y : ℕ). variable_token y ∷ bytes ":" ∷ bytes "$int" ∷ []) in
    let number = length-span scope v in
    (omega arith, λ h. omega (arith, declared_total scope v h))

-- an excluded tuple
unequals-total :
    (x : ℕ) (τ : List ℤ) →
    (length (unequals x τ) ≡ length τ) × (length τ ≤ total (unequals x τ)) × (x + length τ ≤ 100 → total (unequals x τ) ≤ 16 * length τ)
unfolding unequals total weight bytes
unequals-total x [] = (refl, omega arith, λ h. omega arith)
unequals-total x (k ∷ τ) =
    let (same, least, most) = unequals-total (suc x) τ in
    let (one, few) = decimal-length k in
    (ap suc same, omega arith, λ h. omega (arith, variable-short x (omega arith), most (omega arith)))

unequals-weight :
    (x : ℕ) (τ : List ℤ) →
    let parts = separated (bytes "|") (unequals x τ) in
    (length τ ≤ weight parts) × (1 ≤ length τ → x + length τ ≤ 100 → weight parts + 1 ≤ 17 * length τ)
unfolding bytes
unequals-weight x τ =
    let (same, least, most) = unequals-total x τ in
    let (all, more, few, exact) = separated-weight (bytes "|") (unequals x τ) refl in
    (omega arith, λ h k. omega (arith, most k, exact (omega arith)))

excludes-weight :
    (x : ℕ) (τ : List ℤ) →
    (length τ ≤ weight (excludes x τ)) × (1 ≤ length τ → x + length τ ≤ 100 → weight (excludes x τ) + 1 ≤ 18 * length τ)
unfolding excludes
excludes-weight x τ = go (eqb (length τ) 1) refl
  where
    parts : Tokens
    parts = separated (bytes "|") (unequals x τ)

    go :
        (b : Bool) →
        eqb (length τ) 1 ≡ b →
        (length τ ≤ weight (cond b parts (parenthesized parts)))
        × (1 ≤ length τ → x + length τ ≤ 100 → weight (cond b parts (parenthesized parts)) + 1 ≤ 18 * length τ)
    go true e = ((unequals-weight x τ).0, λ h k. omega (arith, (unequals-weight x τ).1 h k))
    go false e =
        let long = parenthesized-weight parts in
        let several = eqb-false (length τ) 1 e in
        (omega (arith, (unequals-weight x τ).0), λ h k. omega (arith, (unequals-weight x τ).1 h k))

-- excluded tuples, of v numbers each, with a token of one byte behind each
excluded-least : (x : ℕ) (τs : List (List ℤ)) → length (gather (λ (τ : List ℤ). τ) τs) ≤ total (map (excludes x) τs)
unfolding gather total
excluded-least x [] = omega arith
excluded-least x (τ ∷ τs) =
    omega (arith, length-append τ (gather (λ (σ : List ℤ). σ) τs), (excludes-weight x τ).0, excluded-least x τs)

excluded-most :
    (x v : ℕ) (τs : List (List ℤ)) →
    1 ≤ v →
    x + v ≤ 100 →
    AllOfLength v τs →
    total (map (excludes x) τs) + length τs ≤ 18 * length (gather (λ (τ : List ℤ). τ) τs)
unfolding gather total AllOfLength
excluded-most x v [] one h k = omega arith
excluded-most x v (τ ∷ τs) one h (long, k) =
    let first = (excludes-weight x τ).1 (omega arith) (omega arith) in
    omega (arith, length-append τ (gather (λ (σ : List ℤ). σ) τs), excluded-most x v τs one h k)

-- a restriction with its excluded tuples
restricted-weight :
    (c : Tokens) (tuples : List Tokens) →
    (weight c + total tuples ≤ weight (restricted c tuples)) × (weight (restricted c tuples) ≤ weight c + total tuples + length tuples + 3)
unfolding restricted total bytes
restricted-weight c [] = (omega arith, omega arith)
restricted-weight c (tuple ∷ tuples) =
    let parts = c ∷ tuple ∷ tuples in
    let long = parenthesized-weight (separated (bytes "&") parts) in
    let (all, least, most, exact) = separated-weight (bytes "&") parts refl in
    (omega arith, omega arith)

-- parentheses around all-of and any-of
enclosed-weight : (t : Tree) (ts : Tokens) → (weight ts ≤ weight (enclosed t ts)) × (weight (enclosed t ts) ≤ weight ts + 2)
unfolding enclosed
enclosed-weight t ts = go (is_join t)
  where
    go : (b : Bool) → (weight ts ≤ weight (cond b (parenthesized ts) ts)) × (weight (cond b (parenthesized ts) ts) ≤ weight ts + 2)
    go true = (omega (arith, parenthesized-weight ts), omega (arith, parenthesized-weight ts))
    go false = (omega arith, omega arith)

-- the words of terms are two each
term_words : (t : Term) → length (encode_term t) ≡ 2
unfolding encode_term
term_words (constant k) = refl
term_words (variable x) = refl

terms-words : (ts : List Term) → length (gather encode_term ts) ≡ 2 * length ts
unfolding gather
terms-words [] = refl
terms-words (t ∷ ts) = omega (arith, length-append (encode_term t) (gather encode_term ts), term_words t, terms-words ts)

-- an operand has at least as many bytes as words; a whole formula, which may be an all-of or any-of with no parentheses, lacks two at most
mutual
  unfolding tokens weight total is_join enclosed encode bytes

  operand-least : (t : Tree) (scope : ℕ) → length (encode t) ≤ weight (enclosed t (tokens t scope))
  operand-least (plain true) scope = omega arith
  operand-least (plain false) scope = omega arith
  operand-least (atom b p ts) scope =
      let parts = map (λ (t : Term). term_token t ∷ []) ts in
      let terms = separated (bytes ",") parts in
      let front = weight-append (negation b) (predicate_token p ∷ parenthesized terms) in
      let behind = parenthesized-weight terms in
      let least = (separated-weight (bytes ",") parts refl).1 in
      let number = length-map ts (λ (t : Term). term_token t ∷ []) in
      omega (arith, (predicate-length p).0, (terms-total ts).0, terms-words ts)
  operand-least (compare b d x y) scope =
      let sum = bytes "$sum" ∷ parenthesized (term_token x ∷ bytes "," ∷ decimal d ∷ []) ++ bytes "," ∷ term_token y ∷ [] in
      let front = weight-append (negation b) (bytes "$lesseq" ∷ parenthesized sum) in
      omega (arith, length-append (encode_term x) (encode_term y), term_words x, term_words y)
  operand-least (join b ts) scope =
      let long = parenthesized-weight (separated (connective b) (operands ts scope)) in
      let least = (separated-weight (connective b) (operands ts scope) (connective-length b)).0 in
      omega (arith, operands-least ts scope)
  operand-least (quantifier b v excluded c f) scope =
      let inner = restricted (enclosed c (tokens c (scope + v))) (map (excludes scope) excluded) in
      let body = cond b (bytes "=>") (bytes "&") ∷ enclosed f (tokens f (scope + v)) in
      let front = weight-append (binder scope v) (parenthesized (inner ++ body)) in
      let middle = parenthesized-weight (inner ++ body) in
      let both = weight-append inner body in
      let restrict = (restricted-weight (enclosed c (tokens c (scope + v))) (map (excludes scope) excluded)).0 in
      let τs = gather (λ (τ : List ℤ). τ) excluded in
      let long = length-append τs (encode c) in
      let longer = length-append (τs ++ encode c) (encode f) in
      let first = operand-least c (scope + v) in
      let second = operand-least f (scope + v) in
      omega (arith, (binder-weight scope v).0, excluded-least scope excluded)
  operand-least (some c) scope =
      let front = weight-append (binder scope 1) (parenthesized (tokens c (scope + 1))) in
      let behind = parenthesized-weight (tokens c (scope + 1)) in
      let first = operand-least c (scope + 1) in
      omega (arith, (enclosed-weight c (tokens c (scope + 1))).1)

  operands-least : (ts : Trees) (scope : ℕ) → length (encode_all ts) ≤ total (operands ts scope)
  operands-least nil scope = omega arith
  operands-least (cons t ts) scope =
      omega (arith, length-append (encode t) (encode_all ts), operand-least t scope, operands-least ts scope)

-- the text around a formula has 13 bytes, and the name
text-weight : (name : Text) (tree : Tree) → weight (text_tokens name tree) ≡ weight (tokens tree 0) + length name + 13
unfolding text_tokens weight bytes
text-weight name tree =
    let inner = name ∷ bytes "," ∷ bytes "axiom" ∷ bytes "," ∷ tokens tree 0 in
    omega (arith, weight-append (parenthesized inner) (bytes "." ∷ []), parenthesized-weight inner)

-- a text that spells a tree has at least as many bytes as the tree has words
pub text-least : (text : Text) (tree : Tree) → Spells text tree → length (encode tree) ≤ length text
unfolding Spells
text-least text tree (name, rest, word, good, stand, blanks) =
    let least = operand-least tree 0 in
    let open-less = (enclosed-weight tree (tokens tree 0)).1 in
    omega (arith, stand-weight (text_tokens name tree) text rest stand, text-weight name tree)

-- one of two texts
either-length : (b : Bool) (t u : Text) (n : ℕ) → length t ≤ n → length u ≤ n → length (cond b t u) ≤ n
either-length true t u n h k = h
either-length false t u n h k = k

-- a formed tree has at most 18 bytes for each word, less three: for parentheses around it, and a token behind it
mutual
  unfolding tokens weight total encode Formed bytes

  tokens-most :
      (t : Tree) (table : Words) (kind : Bool) (scope : ℕ) →
      Formed t table kind scope →
      weight (tokens t scope) + 3 ≤ 18 * length (encode t)
  tokens-most (plain true) table kind scope h = omega arith
  tokens-most (plain false) table kind scope h = omega arith
  tokens-most (atom b p ts) table kind scope h =
      let parts = map (λ (t : Term). term_token t ∷ []) ts in
      let terms = separated (bytes ",") parts in
      let front = weight-append (negation b) (predicate_token p ∷ parenthesized terms) in
      let behind = parenthesized-weight terms in
      let most = (separated-weight (bytes ",") parts refl).2 in
      let number = length-map ts (λ (t : Term). term_token t ∷ []) in
      omega (arith, negation-weight b, (predicate-length p).1, (terms-total ts).1, terms-words ts)
  tokens-most (compare b d x y) table kind scope h =
      let sum = parenthesized (term_token x ∷ bytes "," ∷ decimal d ∷ []) in
      let all = bytes "$sum" ∷ sum ++ bytes "," ∷ term_token y ∷ [] in
      let front = weight-append (negation b) (bytes "$lesseq" ∷ parenthesized all) in
      let long = parenthesized-weight all in
      let both = weight-append sum (bytes "," ∷ term_token y ∷ []) in
      let inner = parenthesized-weight (term_token x ∷ bytes "," ∷ decimal d ∷ []) in
      let words = length-append (encode_term x) (encode_term y) in
      let left = (term-length x).1 in
      let right = (term-length y).1 in
      omega (arith, negation-weight b, (decimal-length d).1, term_words x, term_words y)
  tokens-most (join b ts) table kind scope h =
      let most = (separated-weight (connective b) (operands ts scope) (connective-length b)).2 in
      omega (arith, operands-most ts table kind scope h.1)
  tokens-most (quantifier b v excluded c f) table kind scope (is, one, four, lengths, few, restrict, last) =
      let within : Tokens = enclosed c (tokens c (scope + v)) in
      let inner = restricted within (map (excludes scope) excluded) in
      let body = cond b (bytes "=>") (bytes "&") ∷ enclosed f (tokens f (scope + v)) in
      let front = weight-append (binder scope v) (parenthesized (inner ++ body)) in
      let middle = parenthesized-weight (inner ++ body) in
      let both = weight-append inner body in
      let most = (restricted-weight within (map (excludes scope) excluded)).1 in
      let number = length-map excluded (excludes scope) in
      let τs = gather (λ (τ : List ℤ). τ) excluded in
      let long = length-append τs (encode c) in
      let longer = length-append (τs ++ encode c) (encode f) in
      let first = tokens-most c table false (scope + v) restrict in
      let second = tokens-most f table true (scope + v) last in
      let closed_c = (enclosed-weight c (tokens c (scope + v))).1 in
      let closed_f = (enclosed-weight f (tokens f (scope + v))).1 in
      let bound = (binder-weight scope v).1 (omega arith) in
      let tuples = excluded-most scope v excluded one (omega arith) lengths in
      let sign = either-length b (bytes "!") (bytes "?") 1 (omega arith) (omega arith) in
      omega (arith, either-length b (bytes "=>") (bytes "&") 2 (omega arith) (omega arith))
  tokens-most (some c) table kind scope (is, few, inner) =
      let front = weight-append (binder scope 1) (parenthesized (tokens c (scope + 1))) in
      let behind = parenthesized-weight (tokens c (scope + 1)) in
      let bound = (binder-weight scope 1).1 (omega arith) in
      omega (arith, tokens-most c table false (scope + 1) inner)

  -- operands, with a token of one byte behind each
  operands-most :
      (ts : Trees) (table : Words) (kind : Bool) (scope : ℕ) →
      FormedAll ts table kind scope →
      total (operands ts scope) + length (operands ts scope) ≤ 18 * length (encode_all ts)
  operands-most nil table kind scope h = omega arith
  operands-most (cons t ts) table kind scope (h, k) =
      let first = tokens-most t table kind scope h in
      let closed = (enclosed-weight t (tokens t scope)).1 in
      omega (arith, length-append (encode t) (encode_all ts), operands-most ts table kind scope k)

-- the text that is written of an accepted policy has at most 18 bytes for each word, and 14 more
pub text-most :
    (table policy : Words) (tree : Tree) →
    ask_policy table policy ≡ passed tree →
    length (policy_text tree) ≤ 18 * length policy + 14
unfolding policy_text bytes
text-most table policy tree e =
    let (ok, is, rules) = accepted-rules table policy tree e in
    let words = ap length is in
    let most = tokens-most tree table true 0 rules.formed in
    omega (arith, gather-weight (text_tokens (bytes "a") tree), text-weight (bytes "a") tree)

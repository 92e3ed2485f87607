-- Laws for the texts of tokens: what stands between parts comes in front of all but the first, and fixed texts that meet are one.
use Prim.Native.Nat.{ℕ, zero, suc, ◌+◌, ◌*◌, ◌-◌, ◌≤◌, ◌<◌}
use native.Mathlib.Numerals.{add-one}
use native.Mathlib.Omega.{arith}
use mathlib.Core.Path.{◌≡◌, refl, sym, ap, ap₂, ◌∙◌}
use mathlib.Core.Bool.{Bool, true, false, cond}
use mathlib.Core.List.{List, [], ◌∷◌, ◌++◌, map, append_assoc, append-nil}
use lib.ListN.{length, drop, drop_of_length-le}
use lib.Seq.{drop-cons}
use lib.Dec.{eqb}
use lib.IntN.{ℤ, pos}
use Rattle.model.specs.Words.{Words, word, value, equal}
use Rattle.model.specs.Lists.{span, gather}
use Rattle.model.specs.Bytes.{Text, bytes}
use Rattle.model.specs.Decimal.{digits, decimal}
use Rattle.model.specs.Tree.{Term}
use Rattle.model.specs.Reading.{places, term_at}
use Rattle.model.specs.Tptp.{Tokens, variable_token, term_token, parenthesized, separated, binder, unequals, excludes}
use Rattle.tptp_putting.specs.Texts.{spelt, term_text, terms_text, variables_text, head_text, unequal_text, unequals_text, tuple_text}

pub spelt-append : (a b : Tokens) → spelt (a ++ b) ≡ spelt a ++ spelt b
unfolding spelt gather
spelt-append [] b = refl
spelt-append (token ∷ a) b = ap (λ (t : Text). token ++ t) (spelt-append a b) ∙ sym (append_assoc token (spelt a) (spelt b))

-- parts with a text in front of each
unfoldable pub preceded : Text → List Tokens → Text
preceded token parts = gather (λ part. token ++ spelt part) parts

pub separated_first :
    (token : Text) (part : Tokens) (parts : List Tokens) →
    spelt (separated token (part ∷ parts)) ≡ spelt part ++ preceded token parts
unfolding separated preceded gather spelt
separated_first token part parts =
    spelt-append part _ ∙ ap (λ (t : Text). spelt part ++ t) (go parts)
  where
    go : (parts : List Tokens) → spelt (gather (λ next. token ∷ next) parts) ≡ preceded token parts
    go [] = refl
    go (next ∷ parts) =
        spelt-append (token ∷ next) (gather (λ next. token ∷ next) parts)
        ∙ ap (λ (t : Text). (token ++ spelt next) ++ t) (go parts)

-- the texts of the numbers from i up to n
pub runs : (ℕ → Text) → ℕ → ℕ → Text
runs f i n = gather f (span i (n - i))

module _ (f : ℕ → Text) (i n : ℕ) where
  pub runs_more : i < n → runs f i n ≡ f i ++ runs f (i + 1) n
  unfolding runs gather span
  runs_more h = let count : n - i ≡ suc (n - (i + 1)) = omega arith in rw (count, add-one i)

  pub runs_none : n ≤ i → runs f i n ≡ []
  unfolding runs gather span
  runs_none h = let count : n - i ≡ 0 = omega arith in rw count

-- a term by its first word
module _ (words : Words) (i : ℕ) where
  pub constant_text : equal (word words i) (pos 0) ≡ true → term_text words i ≡ decimal (word words (i + 1))
  unfolding term_text term_at term_token
  constant_text e = rw e

  pub variable_text : equal (word words i) (pos 0) ≡ false → term_text words i ≡ bytes "X" ++ digits 10 (value words (i + 1))
  unfolding term_text term_at term_token variable_token
  variable_text e = rw e

-- the term with a number among those from an index on, behind a comma
abbrev pub next_term : (words : Words) (first i : ℕ) → Text
next_term words first i = bytes "," ++ term_text words (first + 2 * i)

one_token : (t : Text) → spelt (t ∷ []) ≡ t
unfolding spelt gather
one_token t = append-nil t

pub terms_first :
    (words : Words) (first n : ℕ) → 1 ≤ n → terms_text words first n ≡ term_text words first ++ runs (next_term words first) 1 n
unfolding terms_text places span term_text runs gather preceded
terms_first words first zero h = absurd (omega arith)
terms_first words first (suc n) h =
    let start : first + 2 * 0 ≡ first = omega arith in
    let count : n ≡ suc n - 1 = omega arith in
    separated_first (bytes ",") _ _
    ∙ ap₂ (λ (s t : Text). s ++ t) (one_token (term_text words (first + 2 * 0)) ∙ ap (term_text words) start) (go (span 1 n))
    ∙ ap (λ (k : ℕ). term_text words first ++ gather (next_term words first) (span 1 k)) count
  where
    go :
        (l : List ℕ) →
        preceded (bytes ",") (map (λ (t : Term). term_token t ∷ []) (map (term_at words) (map (λ (i : ℕ). first + 2 * i) l)))
        ≡ gather (next_term words first) l
    go [] = refl
    go (i ∷ l) = ap₂ (λ (s t : Text). (bytes "," ++ s) ++ t) (one_token (term_text words (first + 2 * i))) (go l)

-- a variable that is bound, behind others
abbrev pub next_variable : (x : ℕ) → Text
next_variable x = bytes ":$int,X" ++ digits 10 x

-- what stands behind the number of a variable is put in front of the next one, or of the end
bound-ends :
    (xs : List ℕ) →
    let bound = map (λ (x : ℕ). variable_token x ∷ bytes ":" ∷ bytes "$int" ∷ []) xs in
    spelt (bytes ":" ∷ bytes "$int" ∷ gather (λ next. bytes "," ∷ next) bound ++ bytes "]" ∷ bytes ":" ∷ [])
    ≡ gather next_variable xs ++ bytes ":$int]:"
unfolding spelt gather bytes variable_token
bound-ends [] = refl
bound-ends (x ∷ xs) =
    ap (λ (t : Text). bytes ":$int,X" ++ (digits 10 x ++ t)) (bound-ends xs)
    ∙ ap (λ (t : Text). bytes ":$int,X" ++ t) (sym (append_assoc (digits 10 x) (gather next_variable xs) (bytes ":$int]:")))

-- fixed texts that meet
lead_parts :
    (every : Bool) (t : Text) →
    cond every (bytes "!") (bytes "?") ++ (bytes "[X" ++ t) ≡ cond every (bytes "![X") (bytes "?[X") ++ t
unfolding bytes
lead_parts true t = refl
lead_parts false t = refl

open_parts :
    (alone : Bool) → cond alone (bytes ":$int]:(") (bytes ":$int]:((") ≡ bytes ":$int]:" ++ cond alone (bytes "(") (bytes "((")
unfolding bytes
open_parts true = refl
open_parts false = refl

pub head_parts :
    (every : Bool) (scope v : ℕ) (alone : Bool) → 1 ≤ v →
    head_text every scope v alone
    ≡ (cond every (bytes "![X") (bytes "?[X") ++ variables_text scope v) ++ cond alone (bytes ":$int]:(") (bytes ":$int]:((")
unfolding head_text variables_text binder separated variable_token spelt gather span bytes
head_parts every scope zero alone h = absurd (omega arith)
head_parts every scope (suc v) alone h =
    let count : v ≡ suc v - 1 = omega arith in
    let lead = cond every (bytes "![X") (bytes "?[X") in
    let number = digits 10 scope in
    let others = gather next_variable (span (suc scope) v) in
    let last = cond alone (bytes "(") (bytes "((") in
    let regrouped : (lead ++ (number ++ (others ++ bytes ":$int]:"))) ++ last
    ≡ (lead ++ (number ++ others)) ++ (bytes ":$int]:" ++ last)
    = simp append_assoc in
    ap (λ (t : Text). t ++ last)
    (lead_parts every _ ∙ ap (λ (t : Text). lead ++ (number ++ t)) (bound-ends (span (suc scope) v)))
    ∙ regrouped
    ∙ ap₂ (λ (k : ℕ) (t : Text). (lead ++ (number ++ gather next_variable (span (suc scope) k))) ++ t) count
    (sym (open_parts alone))

-- the numbers of v variables: the first, and those behind it
pub variables_first : (scope v : ℕ) → 1 ≤ v → variables_text scope v ≡ digits 10 scope ++ runs next_variable (scope + 1) (scope + v)
unfolding variables_text runs
variables_first scope v h =
    let count : v - 1 ≡ scope + v - (scope + 1) = omega arith in
    ap₂ (λ (x k : ℕ). digits 10 scope ++ gather next_variable (span x k)) (sym (add-one scope)) count

-- a variable that is not a number, and one behind others
unequal_part : (x : ℕ) (k : ℤ) → spelt (variable_token x ∷ bytes "!=" ∷ decimal k ∷ []) ≡ bytes "X" ++ unequal_text x k
unfolding spelt gather variable_token unequal_text
unequal_part x k = rw append-nil (simp append_assoc)

abbrev pub next_unequal : (x : ℕ) (k : ℤ) → Text
next_unequal x k = bytes "|X" ++ unequal_text x k

-- the rest of an excluded tuple
next_unequals : ℕ → List ℤ → Text
next_unequals x tuple = preceded (bytes "|") (unequals x tuple)

-- what stands of an excluded tuple from its number i on, behind the numbers before it
pub unequals_rest : ℕ → List ℤ → ℕ → Text
unequals_rest scope tuple i = next_unequals (scope + i) (drop i tuple)

module _ (scope : ℕ) (tuple : List ℤ) where
  pub tuple_starts :
      1 ≤ length tuple → unequals_text scope tuple ≡ (bytes "X" ++ unequal_text scope (word tuple 0)) ++ unequals_rest scope tuple 1
  unfolding unequals_rest unequals_text next_unequals unequals word
  tuple_starts h = go tuple h
    where
      go :
          (ks : List ℤ) → 1 ≤ length ks →
          unequals_text scope ks ≡ (bytes "X" ++ unequal_text scope (word ks 0)) ++ next_unequals (scope + 1) (drop 1 ks)
      go [] h = absurd (omega arith)
      go (k ∷ ks) h =
          separated_first (bytes "|") _ _
          ∙ ap₂ (λ (t : Text) (y : ℕ). t ++ next_unequals y ks) (unequal_part scope k) (sym (add-one scope))

  -- the next variable is x
  pub tuple_more :
      (i x : ℕ) → i < length tuple → x ≡ scope + i →
      unequals_rest scope tuple i ≡ next_unequal x (word tuple i) ++ unequals_rest scope tuple (i + 1)
  unfolding unequals_rest next_unequals unequals preceded gather word bytes
  tuple_more i x h e =
      let next : suc x ≡ scope + (i + 1) = omega arith in
      ap₂ next_unequals (sym e) (drop-cons tuple i (pos 0) h)
      ∙ ap (λ (t : Text). (bytes "|" ++ t) ++ next_unequals (suc x) (drop (suc i) tuple)) (unequal_part x (word tuple i))
      ∙ ap₂ (λ (y k : ℕ). next_unequal x (word tuple i) ++ next_unequals y (drop k tuple)) next (sym (add-one i))

  pub tuple_none : (i : ℕ) → length tuple ≤ i → unequals_rest scope tuple i ≡ []
  unfolding unequals_rest next_unequals unequals preceded gather
  tuple_none i h = ap (next_unequals (scope + i)) (drop_of_length-le tuple h)

-- an excluded tuple, with no parentheses where it is of one number
pub tuple_parts :
    (scope : ℕ) (tuple : List ℤ) →
    let single = eqb (length tuple) 1 in
    tuple_text scope tuple
    ≡ (cond single (bytes "&") (bytes "&(") ++ unequals_text scope tuple) ++ cond single (bytes "") (bytes ")")
unfolding tuple_text excludes parenthesized unequals_text spelt gather bytes
tuple_parts scope tuple = go (eqb (length tuple) 1)
  where
    parts : Tokens
    parts = separated (bytes "|") (unequals scope tuple)

    go :
        (b : Bool) →
        bytes "&" ++ spelt (cond b parts (parenthesized parts))
        ≡ (cond b (bytes "&") (bytes "&(") ++ unequals_text scope tuple) ++ cond b (bytes "") (bytes ")")
    go true = ap (λ (t : Text). bytes "&" ++ t) (sym (append-nil (spelt parts)))
    go false = ap (λ (t : Text). bytes "&(" ++ t) (spelt-append parts (bytes ")" ∷ []))

-- Policies in the TPTP typed form: the tokens of a tree, and the texts that spell it.
use Rattle.std.specs.Prelude.{ℕ, suc, ◌+◌, ◌≡◌, Bool, true, false, not, cond, ◌&&◌, List, [], ◌∷◌, ◌++◌, map, length, leb, eqb, ℤ}
use Rattle.model.specs.Words.{word_sized}
use Rattle.model.specs.Lists.{span, all, gather}
use Rattle.model.specs.Bytes.{Text, bytes, blank, small, word_byte}
use Rattle.model.specs.Decimal.{digits, decimal}
use Rattle.model.specs.Tree.{Term, constant, variable, Tree, Trees, plain, atom, compare, join, quantifier, some, nil, cons, count}

-- a token is a text with no blanks in it
abbrev pub Tokens : Type 0
Tokens = List Text

-- at most so many parentheses are open at once; the greatest number of a predicate or a variable
abbrev pub parenthesis_limit : ℕ
parenthesis_limit = 256

abbrev pub greatest_number : ℕ
greatest_number = 2147483647

unfoldable pub predicate_token : ℕ → Text
predicate_token p = bytes "p" ++ digits 10 p

unfoldable pub variable_token : ℕ → Text
variable_token x = bytes "X" ++ digits 10 x

unfoldable pub term_token : Term → Text
term_token (constant k) = decimal k
term_token (variable x) = variable_token x

unfoldable pub parenthesized : Tokens → Tokens
parenthesized ts = bytes "(" ∷ ts ++ bytes ")" ∷ []

-- parts with a token between any two
unfoldable pub separated : Text → List Tokens → Tokens
separated token [] = []
separated token (part ∷ parts) = part ++ gather (λ next. token ∷ next) parts

-- what stands between the operands of an all-of (true) or any-of
unfoldable pub connective : Bool → Text
connective b = cond b (bytes "&") (bytes "|")

-- before an atom that fails
unfoldable pub negation : Bool → Tokens
negation b = cond b [] (bytes "~" ∷ [])

-- v variables are bound, the next free ones
unfoldable pub binder : ℕ → ℕ → Tokens
binder scope v =
    bytes "["
    ∷ separated (bytes ",") (map (λ x. variable_token x ∷ bytes ":" ∷ bytes "$int" ∷ []) (span scope v))
    ++ bytes "]" ∷ bytes ":" ∷ []

-- an excluded tuple of the variables from x on: one of them is another number
unfoldable pub unequals : ℕ → List ℤ → List Tokens
unequals x [] = []
unequals x (k ∷ ks) = (variable_token x ∷ bytes "!=" ∷ decimal k ∷ []) ∷ unequals (suc x) ks

unfoldable pub excludes : ℕ → List ℤ → Tokens
excludes x tuple =
    let parts = separated (bytes "|") (unequals x tuple) in cond (eqb (length tuple) 1) parts (parenthesized parts)

-- a restriction's tokens, and those of its excluded tuples
unfoldable pub restricted : Tokens → List Tokens → Tokens
restricted c [] = c
restricted c (tuple ∷ tuples) = parenthesized (separated (bytes "&") (c ∷ tuple ∷ tuples))

unfoldable pub is_join : Tree → Bool
is_join (plain b) = false
is_join (atom b p ts) = false
is_join (compare b d x y) = false
is_join (join b ts) = true
is_join (quantifier b v excluded c f) = false
is_join (some c) = false

-- a tree's tokens where it is an operand, a restriction or a body: all-of and any-of stand in parentheses
unfoldable pub enclosed : Tree → Tokens → Tokens
enclosed tree ts = cond (is_join tree) (parenthesized ts) ts

-- the tokens of a tree with so many variables in scope
unfoldable mutual
  pub tokens : Tree → ℕ → Tokens
  tokens (plain b) scope = cond b (bytes "$true") (bytes "$false") ∷ []
  tokens (atom b p ts) scope =
      negation b ++ predicate_token p ∷ parenthesized (separated (bytes ",") (map (λ t. term_token t ∷ []) ts))
  tokens (compare b d x y) scope =
      negation b
      ++ bytes "$lesseq"
      ∷ parenthesized (bytes "$sum" ∷ parenthesized (term_token x ∷ bytes "," ∷ decimal d ∷ []) ++ bytes "," ∷ term_token y ∷ [])
  tokens (join b ts) scope = separated (connective b) (operands ts scope)
  tokens (quantifier b v excluded c f) scope =
      cond b (bytes "!") (bytes "?")
      ∷ binder scope v
      ++ parenthesized
      (restricted (enclosed c (tokens c (scope + v))) (map (excludes scope) excluded)
      ++ cond b (bytes "=>") (bytes "&")
      ∷ enclosed f (tokens f (scope + v)))
  tokens (some c) scope = bytes "?" ∷ binder scope 1 ++ parenthesized (tokens c (scope + 1))

  pub operands : Trees → ℕ → List Tokens
  operands nil scope = []
  operands (cons t ts) scope = enclosed t (tokens t scope) ∷ operands ts scope

-- the tokens of a text: a name, and the tree of a policy
unfoldable pub text_tokens : Text → Tree → Tokens
text_tokens name tree =
    bytes "tff" ∷ parenthesized (name ∷ bytes "," ∷ bytes "axiom" ∷ bytes "," ∷ tokens tree 0) ++ bytes "." ∷ []

-- a lower word: a small letter, then letters, digits and underscores
unfoldable pub lower_word : Text → Bool
lower_word [] = false
lower_word (b ∷ t) = small b && all word_byte t

-- the trees that are good by question 3: each node may stand where it does, in a formula (true) or a restriction; predicates, variables,
-- constants and d are words of 32 bits; terms, variables of a quantifier and numbers of a tuple are as many as question 3 allows. The
-- number of operands, at least 2, and that of excluded tuples have no greatest value here: a tree with more of them than 32 bits can
-- count has more words than a policy can have, so that its text is refused by question 2
unfoldable pub good_term : Term → Bool
good_term (constant k) = word_sized k
good_term (variable x) = leb x greatest_number

unfoldable pub good_tuple : ℕ → List ℤ → Bool
good_tuple v tuple = eqb (length tuple) v && all word_sized tuple

unfoldable mutual
  pub good_tree : Tree → Bool → Bool
  good_tree (plain b) formula = true
  good_tree (atom b p ts) formula = leb p greatest_number && leb 1 (length ts) && leb (length ts) 6 && all good_term ts
  good_tree (compare b d x y) formula = word_sized d && good_term x && good_term y
  good_tree (join b ts) formula = leb 2 (count ts) && good_trees ts formula
  good_tree (quantifier b v excluded c f) formula =
      formula && leb 1 v && leb v 4 && all (good_tuple v) excluded && good_tree c false && good_tree f true
  good_tree (some c) formula = not formula && good_tree c false

  pub good_trees : Trees → Bool → Bool
  good_trees nil formula = true
  good_trees (cons t ts) formula = good_tree t formula && good_trees ts formula

-- tokens stand in front of a text, with blanks before each of them, and this is the rest
unfoldable pub Stand : Tokens → Text → Text → Type 0
Stand [] text rest = text ≡ rest
Stand (token ∷ tokens) text rest =
    (gap : Text) × (behind : Text) × (all blank gap ≡ true) × (text ≡ gap ++ token ++ behind) × Stand tokens behind rest

-- a text spells a tree; it begins such a text
unfoldable pub Spells : Text → Tree → Type 0
Spells text tree =
    (name : Text)
    × (rest : Text)
    × (lower_word name ≡ true)
    × (good_tree tree true ≡ true)
    × Stand (text_tokens name tree) text rest
    × (all blank rest ≡ true)

unfoldable pub Begins : Text → Type 0
Begins text = (rest : Text) × (tree : Tree) × Spells (text ++ rest) tree

-- the text of a policy: its name is `a`, and there are no blanks
unfoldable pub policy_text : Tree → Text
policy_text tree = gather (λ token. token) (text_tokens (bytes "a") tree)

-- The texts of a tree's parts.
use Rattle.std.specs.Prelude.{ℕ, suc, ◌-◌, ◌≡◌, Bool, cond, List, [], ◌∷◌, ◌++◌, map, ℤ}
use Rattle.model.specs.Words.{Words}
use Rattle.model.specs.Lists.{span, gather}
use Rattle.model.specs.Bytes.{Text, bytes}
use Rattle.model.specs.Decimal.{digits, decimal}
use Rattle.model.specs.Reading.{places, term_at}
use Rattle.model.specs.Tptp.{Tokens, term_token, separated, binder, unequals, excludes}
use Rattle.laws.specs.Reading.Formed.{AllOfLength}

-- tokens one behind another
unfoldable pub spelt : Tokens → Text
spelt ts = gather (λ token. token) ts

-- the term at an index, and n terms from an index on
unfoldable pub term_text : Words → ℕ → Text
term_text words i = term_token (term_at words i)

unfoldable pub terms_text : Words → ℕ → ℕ → Text
terms_text words first n =
    spelt (separated (bytes ",") (map (λ t. term_token t ∷ []) (map (term_at words) (places first n))))

-- the numbers of v variables that are bound, and what stands between them
unfoldable pub variables_text : ℕ → ℕ → Text
variables_text scope v = digits 10 scope ++ gather (λ x. bytes ":$int,X" ++ digits 10 x) (span (suc scope) (v - 1))

-- what stands before the restriction of a quantifier of v variables, which is alone or has excluded tuples behind it
unfoldable pub head_text : Bool → ℕ → ℕ → Bool → Text
head_text every scope v alone =
    spelt (cond every (bytes "!") (bytes "?") ∷ binder scope v) ++ cond alone (bytes "(") (bytes "((")

-- a variable is not a number, behind the variable's letter; one of the variables from x on is not its number of a tuple
unfoldable pub unequal_text : ℕ → ℤ → Text
unequal_text x k = (digits 10 x ++ bytes "!=") ++ decimal k

unfoldable pub unequals_text : ℕ → List ℤ → Text
unequals_text x tuple = spelt (separated (bytes "|") (unequals x tuple))

-- an excluded tuple behind a restriction, and such tuples
unfoldable pub tuple_text : ℕ → List ℤ → Text
tuple_text x tuple = bytes "&" ++ spelt (excludes x tuple)

unfoldable pub tuples_text : ℕ → List (List ℤ) → Text
tuples_text x τs = gather (tuple_text x) τs

-- what stands behind a restriction up to the connective
unfoldable pub closed_text : ℕ → List (List ℤ) → Text
closed_text x [] = []
closed_text x (τ ∷ τs) = tuples_text x (τ ∷ τs) ++ bytes ")"

-- numbers are tuples of v numbers, one behind another
pub record Tuples (numbers : List ℤ) (v : ℕ) : Type 0 where
  pub list : List (List ℤ)
  pub are : numbers ≡ gather (λ tuple. tuple) list
  pub long : AllOfLength v list

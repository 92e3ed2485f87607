-- Words, the limits of the format, and tests on words.
-- A word is a signed number, and the contents of a slice are a list of words. Counts, places and indices are natural numbers.
use Rattle.std.specs.Prelude.{ℕ, Bool, true, false, ◌&&◌, ◌||◌, List, [], ◌∷◌, get_or, eqb, ℤ, pos, negsuc, nat_abs}
use Rattle.std.specs.Bool.{beq}
use Rattle.std.specs.Int.Signed.{le_z, lt_z}

abbrev pub Words : Type 0
Words = List ℤ

-- words of a predicate record, of a log row, and of a place of scratch
abbrev pub record_words : ℕ
record_words = 3

abbrev pub row_words : ℕ
row_words = 8

abbrev pub place_words : ℕ
place_words = 17

-- at most so many predicates, rows of a log, words of a policy, levels, and variables in scope
abbrev pub predicate_limit : ℕ
predicate_limit = 256

abbrev pub row_limit : ℕ
row_limit = 4096

abbrev pub policy_limit : ℕ
policy_limit = 1048576

abbrev pub level_limit : ℕ
level_limit = 64

abbrev pub scope_limit : ℕ
scope_limit = 16

-- the word at an index; 0 past the end
unfoldable pub word : Words → ℕ → ℤ
word ws i = get_or ws i (pos 0)

-- the value of a word that is not negative: a count, an arity, the number of a predicate or of a variable
unfoldable pub value : Words → ℕ → ℕ
value ws i = nat_abs (word ws i)

-- a word is at least `low`; from `low` to `high`; at least 0 and below `n`
unfoldable pub at_least : ℕ → ℤ → Bool
at_least low z = le_z (pos low) z

unfoldable pub within : ℕ → ℕ → ℤ → Bool
within low high z = le_z (pos low) z && le_z z (pos high)

unfoldable pub below : ℕ → ℤ → Bool
below n z = le_z (pos 0) z && lt_z z (pos n)

-- a number that a word of 32 bits can be
unfoldable pub word_sized : ℤ → Bool
word_sized z = le_z (negsuc 2147483647) z && le_z z (pos 2147483647)

-- equality of Bools, of numbers, of lists of numbers; membership in a list of tuples
abbrev pub same : (a b : Bool) → Bool
same a b = beq a b

unfoldable pub equal : ℤ → ℤ → Bool
equal (pos a) (pos b) = eqb a b
equal (pos a) (negsuc b) = false
equal (negsuc a) (pos b) = false
equal (negsuc a) (negsuc b) = eqb a b

unfoldable pub equal_all : List ℤ → List ℤ → Bool
equal_all [] [] = true
equal_all [] (y ∷ ys) = false
equal_all (x ∷ xs) [] = false
equal_all (x ∷ xs) (y ∷ ys) = equal x y && equal_all xs ys

unfoldable pub member : List ℤ → List (List ℤ) → Bool
member xs [] = false
member xs (ys ∷ rest) = equal_all xs ys || member xs rest

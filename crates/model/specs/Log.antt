-- The log, questions 8, 9 and 10, and the value of a ground atom in a log.
use Rattle.std.specs.Prelude.{ℕ, ◌*◌, ◌/◌, ◌%◌, Bool, false, not, cond, ◌&&◌, List, [], ◌∷◌, map, length, take, drop, leb, eqb, ℤ, pos}
use Rattle.model.specs.Words.{Words, word, value, within, below, equal, equal_all, row_words, row_limit}
use Rattle.model.specs.Lists.{span, all, any}
use Rattle.model.specs.Answer.{Outcome, ask, in_turn, ◌>>=◌}
use Rattle.model.specs.Table.{predicates, arity, complete}
use Rattle.model.specs.declared.Refusal.TheVariants.{LogLength, Row, Repeat}

-- the number of rows, the words of row r, and all rows
unfoldable pub row_count : Words → ℕ
row_count log = length log / row_words

unfoldable pub row_at : Words → ℕ → Words
row_at log r = take row_words (drop (row_words * r) log)

unfoldable pub rows : Words → List Words
rows log = map (row_at log) (span 0 (row_count log))

-- the front part of a log that has its first n rows
unfoldable pub front : ℕ → Words → Words
front n log = take (row_words * n) log

-- the six argument words of a row; whether the row says true
unfoldable pub arguments : Words → Words
arguments row = drop 2 row

unfoldable pub says_true : Words → Bool
says_true row = equal (word row 1) (pos 1)

-- question 9: the predicate exists, truth is 0 or 1, the unused arguments are 0
unfoldable pub good_row : Words → Words → Bool
good_row table row =
    below (predicates table) (word row 0)
    && within 0 1 (word row 1)
    && all (λ a. equal a (pos 0)) (drop (arity table (value row 0)) (arguments row))

-- two good rows hold the same atom
unfoldable pub same_atom : Words → Words → Bool
same_atom row other = equal (word row 0) (word other 0) && equal_all (arguments row) (arguments other)

-- question 8, then 9 and 10 at each row in turn
unfoldable pub ask_log : Words → Words → Outcome (Unit {0})
ask_log table log = do
  _ ← ask (eqb (length log % row_words) 0 && leb (row_count log) row_limit) LogLength 0
  in_turn (λ r. do
    _ ← ask (good_row table (row_at log r)) Row r
    ask (not (any (λ earlier. same_atom (row_at log r) (row_at log earlier)) (span 0 r))) Repeat r) (span 0 (row_count log))

-- the value of a ground atom: known, true or false; or unknown, which document 01 calls open
pub data Value : Type 0 where
  known : Bool → Value
  unknown : Value

-- a row holds the atom of predicate p at the given numbers
unfoldable pub holds : ℕ → List ℤ → Words → Bool
holds p ns row = equal (word row 0) (pos p) && equal_all (take (length ns) (arguments row)) ns

-- the truth of the atom's row; with no row, false if the predicate is complete, else unknown
unfoldable pub value_in : Words → List Words → ℕ → List ℤ → Value
value_in table [] p ns = cond (complete table p) (known false) unknown
value_in table (row ∷ rest) p ns = cond (holds p ns row) (known (says_true row)) (value_in table rest p ns)

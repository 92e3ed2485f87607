-- Logs as comma-separated text: question 14, the words that the records of a text spell, and the text of a log.
use Rattle.std.specs.Prelude.{ℕ, suc, ◌+◌, ◌-◌, Bool, ◌&&◌, List, [], ◌∷◌, ◌++◌, map, length, take, drop, replicate, eqb, pos}
use Rattle.model.specs.Words.{Words, word, value, row_words}
use Rattle.model.specs.Lists.{all}
use Rattle.model.specs.Answer.{Outcome, passed, ask, ◌>>=◌}
use Rattle.model.specs.Table.{arity}
use Rattle.model.specs.Log.{rows, good_row}
use Rattle.model.specs.Bytes.{Text}
use Rattle.model.specs.Csv.{Lines, none, line, bare, spell}
use Rattle.model.specs.CsvReading.{Records}
use Rattle.model.specs.Decimal.{good_number, number_of, decimal}
use Rattle.model.specs.declared.Refusal.TheVariants.{Record}

-- the row that a record's fields spell: their numbers, and zeros up to eight words
unfoldable pub row_of : List Text → Words
row_of fields = map number_of fields ++ replicate (row_words - length fields) (pos 0)

-- question 14 of a record: its fields are numbers, as many as the predicate's arity wants, and the row is good by question 9
unfoldable pub spells_row : Words → List Text → Bool
spells_row table fields =
    all good_number fields
    && eqb (length fields) (2 + arity table (value (row_of fields) 0))
    && good_row table (row_of fields)

-- question 14 at each record in turn, the first of which has the number r: the words of the log
unfoldable pub ask_records : Words → ℕ → Records → Outcome Words
ask_records table r [] = passed []
ask_records table r (fields ∷ rest) = do
  _ ← ask (spells_row table fields) Record r
  log ← ask_records table (suc r) rest
  passed (row_of fields ++ log)

-- the text of a log: a line for each row, of its predicate, its truth and as many arguments as the arity, all bare
unfoldable pub log_lines : Words → List Words → Lines
log_lines table [] = none
log_lines table (row ∷ rest) =
    line (bare (decimal (word row 0)))
    (map (λ n. bare (decimal n)) (drop 1 (take (2 + arity table (value row 0)) row)))
    (log_lines table rest)

unfoldable pub log_text : Words → Words → Text
log_text table log = spell (log_lines table (rows log))

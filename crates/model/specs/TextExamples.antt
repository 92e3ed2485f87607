-- Examples of logs as text, as one list of cases and one claim about the list.
use Rattle.std.specs.Prelude.{ℕ, zero, suc, ◌≡◌, refl, List, [], ◌∷◌, ◌++◌, map, length, replicate, negsuc}
use Prim.Native.String as S
use Rattle.model.specs.Words.{Words}
use Rattle.model.specs.Bytes.{Text, bytes}
use Rattle.model.specs.Answer.{Answer, Outcome, passed, number, place, count}
use Rattle.model.specs.CsvReading.{Records, read_csv}
use Rattle.model.specs.Calls.{read_log_call, write_log_call}
use Rattle.model.specs.Examples.{words, T, A, computing}
use Rattle.model.specs.Bytes
use Rattle.model.specs.Csv
use Rattle.model.specs.CsvReading
use Rattle.model.specs.Decimal
use Rattle.model.specs.LogText
use Rattle.model.specs.Calls

-- a text of so many times the same good record
unfoldable pub repeated : ℕ → Text
repeated zero = []
repeated (suc n) = bytes "2,1,5\r\n" ++ repeated n

pub data TextCase : Type 0 where
  -- the fields of a text, record by record
  splits : S.String → List (List S.String) → TextCase
  -- a call over table T: its input; number, place and count; all words, or bytes, of the buffer lent
  reads : S.String → ℕ → ℕ → ℕ → Words → TextCase
  writes : Words → ℕ → ℕ → ℕ → Text → TextCase
  -- the same record so many times is refused: number and place; the buffer has two words
  repeats : ℕ → ℕ → ℕ → TextCase

-- what comes out
pub data TextLeft : Type 0 where
  fields : Outcome Records → TextLeft
  left : ℕ → ℕ → ℕ → Words → Text → TextLeft

unfoldable pub text_left : Answer → Words → Text → TextLeft
text_left a ws t = left (number a) (place a) (count a) ws t

unfoldable pub comes_out : TextCase → TextLeft
comes_out (splits text records) = fields (read_csv (bytes text))
comes_out (reads text n p k buffer) =
    let r = read_log_call T (bytes text) (length buffer) in text_left r.answer r.buffer []
comes_out (writes log n p k buffer) = let r = write_log_call T log (length buffer) in text_left r.answer [] r.buffer
comes_out (repeats times n p) = let r = read_log_call T (repeated times) 2 in text_left r.answer r.buffer []

unfoldable pub must_come_out : TextCase → TextLeft
must_come_out (splits text records) = fields (passed (map (map bytes) records))
must_come_out (reads text n p k buffer) = left n p k buffer []
must_come_out (writes log n p k buffer) = left n p k [] buffer
must_come_out (repeats times n p) = left n p 0 (words (0 ∷ 0 ∷ [])) []

-- a text that is refused: number and place; the buffer has two words
unfoldable pub no : S.String → ℕ → ℕ → TextCase
no text n p = reads text n p 0 (words (0 ∷ 0 ∷ []))

-- the one row 0 1 7 9 100
unfoldable pub row : Words
row = words (0 ∷ 1 ∷ 7 ∷ 9 ∷ 100 ∷ 0 ∷ 0 ∷ 0 ∷ [])

-- a row with the least and the greatest word
unfoldable pub extremes : Words
extremes = words (0 ∷ 0 ∷ []) ++ negsuc 2147483647 ∷ words (2147483647 ∷ []) ++ negsuc 0 ∷ words (0 ∷ 0 ∷ 0 ∷ [])

unfoldable pub cases : List TextCase
cases =
    -- fields: empty ones, blanks, what stands in quotes; the last record with CRLF behind it or not, and an empty one
    splits "" []
    ∷ splits "\r\n" (("" ∷ []) ∷ [])
    ∷ splits "a, b,\r\n,c" (("a" ∷ " b" ∷ "" ∷ []) ∷ ("" ∷ "c" ∷ []) ∷ [])
    ∷ splits "\"a\"\"b\",\"\",\"c,\r\nd\"\r\n\"\"" (("a\"b" ∷ "" ∷ "c,\r\nd" ∷ []) ∷ ("" ∷ []) ∷ [])
    -- in quotes a CR or an LF stands alone, too
    ∷ splits "\"a\rb\",\"c\nd\"" (("a\rb" ∷ "c\nd" ∷ []) ∷ [])
    -- no rows; a row, with CRLF behind it or not; fields in quotes; two rows and room for more
    ∷ reads "" 0 0 0 (words (0 ∷ []))
    ∷ reads "0,1,7,9,100\r\n" 0 0 1 row
    ∷ reads "0,1,7,9,100" 0 0 1 row
    ∷ reads "\"0\",\"1\",7,\"9\",100\r\n" 0 0 1 row
    ∷ reads "0,1,7,9,100\r\n1,1,9,50" 0 0 2 (words A ++ words (0 ∷ []))
    ∷ reads "0,0,-2147483648,2147483647,-1" 0 0 1 extremes
    -- 13: a bare LF, a CR alone, quotes in a bare field, behind a quoted one and not closed, other bytes, also in quotes
    ∷ no "0,1,7,9,100\n" 13 11
    ∷ no "0,1,7,9,100\r" 13 12
    ∷ no "0,1,7,9,1\"0" 13 9
    ∷ no "0,1,7,9,\"1\"0" 13 11
    ∷ no "0,1,7,9,\"10" 13 11
    ∷ no "0,1,7,9,\t" 13 8
    ∷ no "0,1,7,9,\"\t\"" 13 9
    ∷ no "\u{7f}" 13 0
    -- 13: bytes of 128 and above, which are the codes of these characters, bare and in quotes
    ∷ no "0,1,7,9,\u{80}" 13 8
    ∷ no "0,1,7,9,1\u{9f}" 13 9
    ∷ no "0,1,7,9,\"\u{80}\"" 13 9
    ∷ no "0,1,7,9,\"1\u{9f}\"" 13 10
    -- 13 is asked before 14: the first record is none of a row, the last byte is not allowed
    ∷ no "x\r\n0,1,7,9,100\n" 13 14
    -- 14: an empty record, also behind a good one, and an empty field
    ∷ no "\r\n" 14 0
    ∷ no "0,1,7,9,100\r\n\r\n" 14 1
    ∷ no "0,1,7,9," 14 0
    -- 14: numbers that are none
    ∷ no "0,1,7,9,-0" 14 0
    ∷ no "0,1,7,9,07" 14 0
    ∷ no "0,1,7,9,+7" 14 0
    ∷ no "0,1,7,9, 7" 14 0
    ∷ no "0,1,7,9,7 " 14 0
    ∷ no "0,1,7,9,-" 14 0
    ∷ no "0,1,7,9,2147483648" 14 0
    ∷ no "0,1,7,9,-2147483649" 14 0
    ∷ no "0,1,7,9,\"1\"\"0\"" 14 0
    ∷ no "0,1,7,9,\"1\r0\"" 14 0
    ∷ no "0,1,7,9,\"1\n0\"" 14 0
    -- 14: an argument less, one more; a predicate that does not exist; truth 2
    ∷ no "0,1,7,9" 14 0
    ∷ no "0,1,7,9,100,0" 14 0
    ∷ no "3,1,7" 14 0
    ∷ no "-1,1,7" 14 0
    ∷ no "0,2,7,9,100" 14 0
    -- 8, by one record; it is asked before 10, so that the records may all be the same
    ∷ repeats 4097 8 0
    -- 14 is asked of every record before 10, and 10 before 12; then 12, by one word
    ∷ no "2,1,5\r\n2,0,5\r\n2,1" 14 2
    ∷ no "2,1,5\r\n2,0,5\r\n" 10 1
    ∷ no "2,1,5\r\n" 12 0
    ∷ reads "2,1,5\r\n" 12 0 0 (words (0 ∷ 0 ∷ 0 ∷ 0 ∷ 0 ∷ 0 ∷ 0 ∷ []))
    -- writing: no rows; log A; the extremes, and room for more
    ∷ writes [] 0 0 0 (0 ∷ [])
    ∷ writes (words A) 0 0 23 (bytes "0,1,7,9,100\r\n1,1,9,50\r\n")
    ∷ writes extremes 0 0 31 (bytes "0,0,-2147483648,2147483647,-1\r\n" ++ 0 ∷ [])
    -- 8, 9, 10 and 12, by one byte
    ∷ writes (words (0 ∷ [])) 8 0 0 (0 ∷ [])
    ∷ writes (words (2 ∷ 2 ∷ 5 ∷ 0 ∷ 0 ∷ 0 ∷ 0 ∷ 0 ∷ [])) 9 0 0 (0 ∷ [])
    ∷ writes (words (2 ∷ 1 ∷ 5 ∷ 0 ∷ 0 ∷ 0 ∷ 0 ∷ 0 ∷ 2 ∷ 1 ∷ 5 ∷ 0 ∷ 0 ∷ 0 ∷ 0 ∷ 0 ∷ [])) 10 1 0 (0 ∷ [])
    ∷ writes row 12 0 0 (replicate 12 0)
    ∷ []

-- to unfold this is to unfold every definition that the calls on the text of a log compute with
unfoldable pub computing_logs : Unit {0}
unfolding computing Bytes.bytes repeated text_left comes_out must_come_out no row extremes Bytes.digit Csv.text_data Csv.quotable Csv.content Csv.doubled Csv.spell_field Csv.spell_record Csv.spell CsvReading.move_behind CsvReading.move_bare CsvReading.move_first CsvReading.move CsvReading.add_byte CsvReading.add_field CsvReading.add_record CsvReading.at_end CsvReading.follow CsvReading.read_from CsvReading.read_csv Decimal.numeral Decimal.plain_digits Decimal.good_number Decimal.number_of Decimal.digits Decimal.decimal LogText.row_of LogText.spells_row LogText.ask_records LogText.log_lines LogText.log_text Calls.in_room Calls.ask_reading Calls.read_log_call Calls.ask_writing Calls.filled_text Calls.text_result Calls.write_log_call
computing_logs = tt

-- the claim
pub text_examples : map comes_out cases ≡ map must_come_out cases
unfolding computing Bytes.bytes repeated text_left comes_out must_come_out no row extremes cases Bytes.digit Csv.text_data Csv.quotable Csv.content Csv.doubled Csv.spell_field Csv.spell_record Csv.spell CsvReading.move_behind CsvReading.move_bare CsvReading.move_first CsvReading.move CsvReading.add_byte CsvReading.add_field CsvReading.add_record CsvReading.at_end CsvReading.follow CsvReading.read_from CsvReading.read_csv Decimal.numeral Decimal.plain_digits Decimal.good_number Decimal.number_of Decimal.digits Decimal.decimal LogText.row_of LogText.spells_row LogText.ask_records LogText.log_lines LogText.log_text Calls.in_room Calls.ask_reading Calls.read_log_call Calls.ask_writing Calls.filled_text Calls.text_result Calls.write_log_call
text_examples = refl

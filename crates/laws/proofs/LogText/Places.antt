-- Places and questions of a refused reading: the place is a record's, a byte's or a row's, and the question is not 9.
use Rattle.std.specs.Prelude.{ℕ, suc, ◌+◌, ◌≤◌, ◌<◌, max, ◌≡◌, refl, ◌≢◌, Bool, true, false, length}
use Rattle.std.proofs.Common.{arith, subst}
use mathlib.Core.List.{List, [], ◌∷◌, Memᴰ}
use Rattle.std.specs.Prelude.{Err}
use Rattle.model.specs.declared.Refusal.{Refusal}
use Rattle.model.specs.declared.Refusal.TheVariants.{Table, LogLength, Row, Repeat, Room, Record}
use Rattle.model.specs.Words.{Words}
use Rattle.model.specs.Lists.{span}
use Rattle.model.specs.Answer.{Outcome, question, refused, passed, ask, answer, in_turn, ◌>>=◌, refused_at}
use Rattle.model.specs.Table.{predicates, good_record, ask_table}
use Rattle.model.specs.Log.{row_count, row_at, good_row, ask_log}
use Rattle.model.specs.Bytes.{Text}
use Rattle.model.specs.CsvReading.{Records, read_csv}
use Rattle.model.specs.LogText.{spells_row, ask_records}
use Rattle.model.specs.Calls.{in_room, ask_reading, read_log_call}
use Rattle.laws.specs.Answer.{ask-true, answer-refused}
use Rattle.laws.specs.Lists.Span.{span_mem}
use Rattle.laws.specs.Csv.Place.{csv-place}
use Rattle.laws.specs.Csv.Sound.{records-few}
use Rattle.laws.specs.Calls.Places.{Within, within-ask, within_then, within_more, table-within, log-within}
use Rattle.laws.specs.Calls.Room.{fit-within}
use Rattle.laws.specs.LogText.Rows.{rows-good}

-- question 13: the place of a byte, or the text's end
csv-within : (t : Text) → Within (length t) (read_csv t)
csv-within t = go (read_csv t) refl
  where
    go : (o : Outcome Records) → read_csv t ≡ o → Within (length t) o
    go (refused r p) e = (csv-place t r p e).within
    go (passed rs) e = tt

-- question 14: the number of a record
records-within : (table : Words) (r : ℕ) (rs : Records) (n : ℕ) → r + length rs ≤ n → Within n (ask_records table r rs)
unfolding ask_records
records-within table r [] n h = tt
records-within table r (fields ∷ rest) n h =
    within_then _ (ask (spells_row table fields) Record r) _ (within-ask _ Record r n (omega arith)) λ _ _.
    within_then _ (ask_records table (suc r) rest) _ (records-within table (suc r) rest n (omega arith)) λ _ _. tt

-- all questions of a reading
asking-within : (table : Words) (text : Text) (buffer : ℕ) → Within (max 4096 (length text)) (ask_reading table text buffer)
unfolding ask_reading
asking-within table text buffer =
    let n = max 4096 (length text) in
    within_then n (ask_table table) _ (within_more 256 n (ask_table table) (omega arith) (table-within table)) λ _ _.
    within_then n (read_csv text) _ (within_more (length text) n (read_csv text) (omega arith) (csv-within text)) λ rs e.
    within_then n (ask_records table 0 rs) _ (records-within table 0 rs n (omega (arith, records-few text rs e))) λ log _.
    within_then n (ask_log table log) _ (within_more 4096 n (ask_log table log) (omega arith) (log-within table log)) λ _ _.
    fit-within buffer log n

-- the place of a refused reading is at most the row limit or the text's length
pub reading-within :
    (table : Words) (text : Text) (buffer : ℕ) (r : Refusal) (p : ℕ) →
    (read_log_call table text buffer).answer ≡ Err (refused_at r p) →
    p ≤ max 4096 (length text)
unfolding read_log_call
reading-within table text buffer r p e =
    subst (Within (max 4096 (length text)))
    (answer-refused row_count (ask_reading table text buffer) r p e)
    (asking-within table text buffer)

-- what is refused is not refused by question 9
abbrev Other : {A : Type 0} → Outcome A → Type 0
Other (refused r p) = question r ≢ 9
Other (passed a) = Unit {0}

other-ask : (b : Bool) (q : Refusal) (p : ℕ) → question q ≢ 9 → Other (ask b q p)
unfolding ask
other-ask true q p h = tt
other-ask false q p h = h

other_then :
    {A B : Type 0} (o : Outcome A) (next : A → Outcome B) →
    Other o →
    ((a : A) → o ≡ passed a → Other (next a)) →
    Other (o >>= next)
unfolding ◌>>=◌
other_then (refused r p) next h k = h
other_then (passed a) next h k = k a refl

other_turn :
    {A : Type 0} (questions : A → Outcome (Unit {0})) (l : List A) →
    ((x : A) → Memᴰ x l → Other (questions x)) →
    Other (in_turn questions l)
unfolding in_turn
other_turn questions [] h = tt
other_turn questions (x ∷ l) h =
    other_then (questions x) _ (h x (Memᴰ.head refl)) λ _ _. other_turn questions l (λ y m. h y (Memᴰ.tail m))

other-table : (table : Words) → Other (ask_table table)
unfolding ask_table question
other-table table =
    other_then (ask _ Table 0) _ (other-ask _ Table 0 (omega arith)) λ _ _.
    other_turn (λ p. ask (good_record table p) Table p) (span 0 (predicates table)) (λ p m. other-ask _ Table p (omega arith))

other-csv : (t : Text) → Other (read_csv t)
unfolding question
other-csv t = go (read_csv t) refl
  where
    go : (o : Outcome Records) → read_csv t ≡ o → Other o
    go (refused r p) e = rw (csv-place t r p e).csv (omega arith)
    go (passed rs) e = tt

other-records : (table : Words) (r : ℕ) (rs : Records) → Other (ask_records table r rs)
unfolding ask_records question
other-records table r [] = tt
other-records table r (fields ∷ rest) =
    other_then (ask (spells_row table fields) Record r) _ (other-ask _ Record r (omega arith)) λ _ _.
    other_then (ask_records table (suc r) rest) _ (other-records table (suc r) rest) λ _ _. tt

-- good rows pass question 9
other-log : (table log : Words) → ((i : ℕ) → i < row_count log → good_row table (row_at log i) ≡ true) → Other (ask_log table log)
unfolding ask_log question
other-log table log good =
    other_then (ask _ LogLength 0) _ (other-ask _ LogLength 0 (omega arith)) λ _ _.
    other_turn _ (span 0 (row_count log)) (λ i m.
    let below = (span_mem 0 (row_count log) m).1 in
    other_then (ask (good_row table (row_at log i)) Row i) _
    (rw (ask-true Row i (good i (omega arith))) tt) λ _ _.
    other-ask _ Repeat i (omega arith))

other-fit : {A : Type 0} (buffer : ℕ) (xs : List A) → Other (in_room buffer xs)
unfolding in_room question
other-fit buffer xs = other_then (ask _ Room 0) _ (other-ask _ Room 0 (omega arith)) λ _ _. tt

asking-other : (table : Words) (text : Text) (buffer : ℕ) → Other (ask_reading table text buffer)
unfolding ask_reading
asking-other table text buffer =
    other_then (ask_table table) _ (other-table table) λ _ ok.
    other_then (read_csv text) _ (other-csv text) λ rs _.
    other_then (ask_records table 0 rs) _ (other-records table 0 rs) λ log e.
    other_then (ask_log table log) _ (other-log table log (rows-good table ok 0 rs log e).good) λ _ _.
    other-fit buffer log

-- a reading is never refused by question 9: 14 has asked it
pub never-row : (table : Words) (text : Text) (buffer p : ℕ) → (read_log_call table text buffer).answer ≡ Err (refused_at Row p) → ⊥
unfolding read_log_call question
never-row table text buffer p e =
    subst Other (answer-refused row_count (ask_reading table text buffer) Row p e) (asking-other table text buffer) refl

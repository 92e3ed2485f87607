-- The reading of a log, question by question, and what it leaves in the buffer.
use Prim.Native.Nat.{ℕ, ◌*◌, ◌-◌, ◌/◌, ◌%◌, ◌≤◌, ◌<◌}
use native.Mathlib.Omega.{arith}
use mathlib.Core.Path.{◌≡◌, refl, sym, ap, ap₂, ◌∙◌, subst}
use mathlib.Core.Logic.{◌⊎◌, inl, inr, ⊎_elim}
use mathlib.Core.Bool.{Bool, true, false}
use mathlib.Core.List.{◌++◌}
use lib.ListN.{length, take}
use lib.Dec.{leb, eqb}
use borrow.Author.Tests.{leb-true, le-leb, lt-leb}
use Rattle.std.specs.Prelude.{Result, Ok, Err}
use Rattle.model.specs.declared.Refusal.{Refusal}
use Rattle.model.specs.declared.Refusal.TheVariants.{LogLength, Room}
use Rattle.model.specs.Words.{Words}
use Rattle.model.specs.Bytes.{Text}
use Rattle.model.specs.Answer.{Answer, AnswersAs, Outcome, passed, refused, ask, answer, count, ◌>>=◌, refused_at}
use Rattle.model.specs.Table.{ask_table}
use Rattle.model.specs.Log.{row_count, ask_log}
use Rattle.model.specs.CsvReading.{Records, read_csv}
use Rattle.model.specs.LogText.{ask_records}
use Rattle.model.specs.Calls.{zeros, filled, in_room, ask_reading, read_log_call}
use Rattle.laws.specs.Answer.{answers, refused-passed, passed-same}
use Rattle.laws.specs.Words.Tests.{and-false}
use Rattle.model.specs.declared.Refused.{Refused}
use Rattle.csv_reading.specs.Rows.{ask_text, Stand, RowsRead}
use Rattle.log_texts.specs.LogText.{settled_log, ReadsLog}

-- rows read once more, to a place with room for them
pub again_stands :
    (table : Words) (text : Text) (words log : Words) (n : ℕ) (r : Result ℕ Refused) →
    RowsRead table text words r →
    ask_text table text ≡ passed log →
    length log ≡ 8 * n →
    8 * n ≤ length words →
    take (8 * n) words ≡ log
again_stands table text words log n (Err q) e f l h = refused-passed (sym e ∙ f)
again_stands table text words log n (Ok m) s f l h =
    let same : s.log ≡ log = passed-same (sym s.asked ∙ f) in
    let many : m ≡ n = omega (arith, s.long, l, ap length same) in
    rw (← many) (s.stands (omega (arith, h, many))) ∙ same

-- the length of the log that a text spells
pub log-long :
    (table : Words) (text : Text) (words : Words) (n : ℕ) → Stand table text words n → (log : Words) → ask_text table text ≡ passed log → length log ≡ 8 * n
log-long table text words n s log e = ap length (sym (passed-same (sym s.asked ∙ e))) ∙ s.long

-- the rows where they stand
pub log-stands :
    (table : Words) (text : Text) (words : Words) (n : ℕ) →
    Stand table text words n →
    (log : Words) →
    ask_text table text ≡ passed log →
    8 * n ≤ length words →
    take (8 * n) words ≡ log
log-stands table text words n s log e h = s.stands h ∙ passed-same (sym s.asked ∙ e)

-- questions 8 to 12 of the rows
module _ (table : Words) (room : ℕ) (log : Words) where
  pub settled-refused : {q : Refusal} {p : ℕ} → ask_log table log ≡ refused q p → Err (refused_at q p) ≡ answer row_count (settled_log table room log)
  unfolding settled_log answer ◌>>=◌
  settled-refused e = rw e

  pub settled-many : (n : ℕ) → length log ≡ 8 * n → 4096 < n → Err (refused_at LogLength 0) ≡ answer row_count (settled_log table room log)
  unfolding ask_log row_count ask ◌>>=◌
  settled-many n l h =
      settled-refused (rw (and-false (eqb (length log % 8) 0) (lt-leb (length log / 8) 4096 (omega (arith, l, h)))))

  pub settled-short : ask_log table log ≡ passed tt → room < length log → Err (refused_at Room 0) ≡ answer row_count (settled_log table room log)
  unfolding settled_log in_room ask answer ◌>>=◌
  settled-short e h = rw (e, lt-leb (length log) room h)

  pub settled-passed : (n : ℕ) → length log ≡ 8 * n → ask_log table log ≡ passed tt → length log ≤ room → Ok n ≡ answer row_count (settled_log table room log)
  unfolding settled_log in_room ask answer ◌>>=◌ row_count
  settled-passed n l e h = rw (e, le-leb (length log) room h) (ap Ok (let z : n ≡ length log / 8 = omega (arith, l) in z))

  pub settled-cases :
      ((q : Refusal) × (p : ℕ) × (settled_log table room log ≡ refused q p))
      ⊎ ((settled_log table room log ≡ passed log) × (length log ≤ room))
  unfolding settled_log in_room ask ◌>>=◌
  settled-cases = go (ask_log table log)
    where
      fitting :
          (b : Bool) →
          leb (length log) room ≡ b →
          ((q : Refusal) × (p : ℕ) × ((ask b Room 0 >>= λ _. passed log) ≡ refused q p))
          ⊎ (((ask b Room 0 >>= λ _. passed log) ≡ passed log) × (length log ≤ room))
      fitting true e = inr (refl, leb-true (length log) room e)
      fitting false e = inl (Room, 0, refl)

      go :
          (o : Outcome (Unit {0})) →
          ((q : Refusal) × (p : ℕ) × ((o >>= λ _. in_room room log) ≡ refused q p)) ⊎ (((o >>= λ _. in_room room log) ≡ passed log) × (length log ≤ room))
      go (refused q p) = inl (q, p, refl)
      go (passed u) = fitting (leb (length log) room) refl

module _ (table : Words) (text : Text) (room : ℕ) where
  -- all questions, from those that were asked
  reading-table : {q : Refusal} {p : ℕ} → ask_table table ≡ refused q p → ask_reading table text room ≡ refused q p
  unfolding ask_reading ◌>>=◌
  reading-table e = rw e

  reading-text : {q : Refusal} {p : ℕ} → ask_table table ≡ passed tt → ask_text table text ≡ refused q p → ask_reading table text room ≡ refused q p
  unfolding ask_reading ask_text ◌>>=◌
  reading-text e f = rw e (go (read_csv text) f)
    where
      go :
          (o : Outcome Records) {q : Refusal} {p : ℕ} →
          (o >>= λ records. ask_records table 0 records) ≡ refused q p →
          (o >>= λ records. ask_records table 0 records >>= λ log. ask_log table log >>= λ _. in_room room log) ≡ refused q p
      go (refused r k) e = same e
        where
          same : {A B : Type 0} {r q : Refusal} {k p : ℕ} → ◌≡◌ {A = Outcome A} (refused r k) (refused q p) → ◌≡◌ {A = Outcome B} (refused r k) (refused q p)
          same e = cc
      go (passed rs) e = rw e

  reading-asked : (log : Words) → ask_table table ≡ passed tt → ask_text table text ≡ passed log → ask_reading table text room ≡ settled_log table room log
  unfolding ask_reading ask_text settled_log ◌>>=◌
  reading-asked log e f = rw e (go (read_csv text) f)
    where
      go :
          (o : Outcome Records) →
          (o >>= λ records. ask_records table 0 records) ≡ passed log →
          (o >>= λ records. ask_records table 0 records >>= λ log. ask_log table log >>= λ _. in_room room log) ≡ (ask_log table log >>= λ _. in_room room log)
      go (refused r k) e = refused-passed e
      go (passed rs) e = rw e

  -- a refusal
  leaves-refused : (after : Words) {q : Refusal} {p : ℕ} → ask_reading table text room ≡ refused q p → ReadsLog table text room after (answer row_count (refused q p))
  unfolding answer count filled
  leaves-refused after e = record {
    answered = rw e;
    fits = omega arith;
    wrote = rw e (ap zeros (let z : room - 8 * 0 ≡ room = omega arith in z));
  }

  pub table-refused : (after : Words) {q : Refusal} {p : ℕ} → ask_table table ≡ refused q p → ReadsLog table text room after (Err (refused_at q p))
  unfolding answer
  table-refused after e = leaves-refused after (reading-table e)

  pub text-refused : (after : Words) {q : Refusal} {p : ℕ} → ask_table table ≡ passed tt → ask_text table text ≡ refused q p → ReadsLog table text room after (Err (refused_at q p))
  unfolding answer
  text-refused after e f = leaves-refused after (reading-text e f)

  -- the rows, which fit
  leaves-rows :
      (after : Words) (n : ℕ) →
      length after ≡ room →
      (s : Stand table text after n) →
      ask_reading table text room ≡ passed s.log →
      length s.log ≤ room →
      ReadsLog table text room after (answer row_count (passed s.log))
  unfolding answer count filled row_count
  leaves-rows after n l s e h =
      let many : 8 * (length s.log / 8) ≡ 8 * n = omega (arith, s.long) in
      record {
        answered = rw e;
        fits = omega (arith, s.long, h);
        wrote =
            rw (e, many) (ap₂ (λ (ws : Words) (k : ℕ). ws ++ zeros (room - k)) (s.stands (omega (arith, s.long, h, l))) (sym s.long));
      }

  -- the answer about rows that stand at the front if they fit
  pub rows_settled :
      (after : Words) (n : ℕ) (r : Answer) →
      length after ≡ room →
      ask_table table ≡ passed tt →
      (s : Stand table text after n) →
      r ≡ answer row_count (settled_log table room s.log) →
      ReadsLog table text room after r
  rows_settled after n r l e s a =
      ⊎_elim
      (λ (w : (q : Refusal) × (p : ℕ) × (settled_log table room s.log ≡ refused q p)).
      let (q, p, o) = w in
      subst (ReadsLog table text room after) (sym (a ∙ ap (answer row_count) o))
      (leaves-refused after (reading-asked s.log e s.asked ∙ o)))
      (λ (w : (settled_log table room s.log ≡ passed s.log) × (length s.log ≤ room)).
      subst (ReadsLog table text room after) (sym (a ∙ ap (answer row_count) w.0))
      (leaves-rows after n l s (reading-asked s.log e s.asked ∙ w.0) w.1))
      (settled-cases table room s.log)

-- what stands behind the words counted becomes zero
pub read-cleared :
    (table : Words) (text : Text) (buffer after after' : Words) (r : Answer) (n : ℕ) →
    ReadsLog table text (length buffer) after r →
    length after ≡ length buffer →
    n ≡ count r →
    after' ≡ take (8 * n) after ++ zeros (length after - 8 * n) →
    AnswersAs (read_log_call table text (length buffer)).answer r × (after' ≡ (read_log_call table text (length buffer)).buffer)
unfolding read_log_call
read-cleared table text buffer after after' r n l k e c = (answers l.answered, c ∙ rw (e, k) l.wrote)

-- The words that records spell: eight for each record, which are a good row of numbers of 32 bits.
use Rattle.std.specs.Prelude.{ℕ, zero, suc, ◌+◌, ◌*◌, ◌-◌, ◌<◌, ◌≡◌, refl, ◌&&◌, take, drop, pos}
use Rattle.std.proofs.Common.{arith, ap, ◌∙◌, take_at}
use Rattle.std.proofs.Math.Path.{subst}
use Rattle.std.proofs.Math.Bool.{true}
use mathlib.Core.List.{List, [], ◌∷◌, ◌++◌, map}
use Rattle.std.proofs.Math.ListN.{length, replicate, length-append, length-map, length-replicate}
use Rattle.std.proofs.Math.Seq.{drop-append-add}
use Rattle.std.proofs.Math.Dec.{eqb}
use borrow.Author.Tests.{eqb-true}
use Rattle.model.specs.Words.{Words, value, word_sized}
use Rattle.model.specs.Lists.{all}
use Rattle.model.specs.Answer.{passed, ask}
use Rattle.model.specs.Table.{arity, ask_table}
use Rattle.model.specs.Log.{row_count, row_at, good_row}
use Rattle.model.specs.Bytes.{Text}
use Rattle.model.specs.CsvReading.{Records}
use Rattle.model.specs.Decimal.{good_number, number_of}
use Rattle.model.specs.LogText.{row_of, spells_row, ask_records}
use Rattle.model.specs.declared.Refusal.TheVariants.{Record}
use Rattle.laws.specs.Words.Tests.{and_left, and_right, and-true}
use Rattle.laws.specs.Lists.Membership.{all_append}
use Rattle.laws.specs.Answer.{ask-passed, passed-same, then_passed}
use Rattle.laws.specs.Decimal.{decimal_only}
use Rattle.laws.specs.LogText.Back.{Spellable, used-short}

-- the first row of a log, and those behind it
first-row : (row log : Words) → length row ≡ 8 → row_at (row ++ log) 0 ≡ row
unfolding row_at
first-row row log e = take_at row log 8 e

next_row : (row log : Words) (i : ℕ) → length row ≡ 8 → row_at (row ++ log) (suc i) ≡ row_at log i
unfolding row_at
next_row row log i e =
    let count : 8 * suc i ≡ length row + 8 * i = omega arith in
    ap (λ (k : ℕ). take 8 (drop k (row ++ log))) count ∙ ap (take 8) (drop-append-add row log (8 * i))

-- the words of as many rows as there are records: each row passes question 9, and the words have 32 bits
pub record GoodRows (table : Words) (rs : Records) (log : Words) : Type 0 where
  pub long : length log ≡ 8 * length rs
  pub good : (i : ℕ) → i < row_count log → good_row table (row_at log i) ≡ true
  pub sized : all word_sized log ≡ true

no_rows : (table : Words) → GoodRows table [] []
unfolding row_count all
no_rows table = record { long = refl; good = λ i l. absurd (omega arith); sized = refl }

-- one row more, in front
row_more :
    (table row log : Words) (fields : List Text) (rest : Records) →
    Spellable table row →
    GoodRows table rest log →
    GoodRows table (fields ∷ rest) (row ++ log)
unfolding row_count
row_more table row log fields rest s h = record {
  long = length-append row log ∙ omega (arith, s.eight, h.long);
  good = good;
  sized = all_append word_sized row log s.sized h.sized;
}
  where
    good : (i : ℕ) → i < row_count (row ++ log) → good_row table (row_at (row ++ log) i) ≡ true
    good zero l = ap (good_row table) (first-row row log s.eight) ∙ s.good
    good (suc i) l =
        ap (good_row table) (next_row row log i s.eight) ∙ h.good i (omega (arith, s.eight, length-append row log))

-- zeros, and the numbers that texts spell, have 32 bits
zeros-sized : (n : ℕ) → all word_sized (replicate n (pos 0)) ≡ true
unfolding all word_sized
zeros-sized zero = refl
zeros-sized (suc n) = and-true refl (zeros-sized n)

numbers-sized : (ts : List Text) → all good_number ts ≡ true → all word_sized (map number_of ts) ≡ true
unfolding all
numbers-sized [] e = refl
numbers-sized (t ∷ ts) e = and-true (decimal_only t (and_left _ _ e)).1 (numbers-sized ts (and_right (good_number t) _ e))

module _ (table : Words) (ok : ask_table table ≡ passed tt) where
  -- the row of a record that passes question 14
  record_row : (fields : List Text) → spells_row table fields ≡ true → Spellable table (row_of fields)
  unfolding spells_row row_of
  record_row fields e =
      let n = 2 + arity table (value (row_of fields) 0) in
      let numbers = and_left (all good_number fields) _ (and_left _ _ e) in
      let count = eqb-true (length fields) n (and_right (all good_number fields) _ (and_left _ _ e)) in
      let good : good_row table (row_of fields) ≡ true = and_right (all good_number fields && eqb (length fields) n) _ e in
      let few = used-short table ok (row_of fields) good in
      let words = map number_of fields in
      let zeros = replicate (8 - length fields) (pos 0) in
      record {
        eight =
            length-append words zeros ∙ omega (arith, length-map fields number_of, length-replicate (8 - length fields) (pos 0));
        good = good;
        sized = all_append word_sized words zeros (numbers-sized fields numbers) (zeros-sized (8 - length fields));
      }

  -- the words that records spell are eight for each record, good rows, of 32 bits
  pub rows-good : (r : ℕ) (rs : Records) (log : Words) → ask_records table r rs ≡ passed log → GoodRows table rs log
  unfolding ask_records
  rows-good r [] log e = subst (GoodRows table []) (passed-same e) (no_rows table)
  rows-good r (fields ∷ rest) log e =
      let (u, e₁, e₂) = then_passed (ask (spells_row table fields) Record r) _ e in
      let (log', e₃, e₄) = then_passed (ask_records table (suc r) rest) _ e₂ in
      let row = record_row fields (ask-passed _ _ _ e₁) in
      subst (GoodRows table (fields ∷ rest)) (passed-same e₄)
      (row_more table (row_of fields) log' fields rest row (rows-good (suc r) rest log' e₃))

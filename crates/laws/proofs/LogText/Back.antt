-- The text of an accepted log is read, and gives the log: record by record, each spells its row.
use Rattle.std.specs.Prelude.{ℕ, suc, ◌+◌, ◌-◌, ◌≡◌, true, ℤ, pos}
use Rattle.std.proofs.Common.{arith, ◌∙◌, eq-eqb}
use Rattle.std.proofs.Math.Path.{refl, sym, ap, ap₂}
use mathlib.Core.List.{List, [], ◌∷◌, ◌++◌, map, Memᴰ}
use Rattle.std.proofs.Math.ListN.{replicate, take-append-drop}
use Rattle.std.proofs.lemmas.List.{length-map}
use Rattle.model.specs.Words.{Words, value, word_sized}
use Rattle.model.specs.Lists.{all, gather}
use Rattle.model.specs.Answer.{passed, ◌>>=◌}
use Rattle.model.specs.Table.{arity, ask_table}
use Rattle.model.specs.Log.{rows, ask_log}
use Rattle.model.specs.Csv.{contents}
use Rattle.model.specs.CsvReading.{read_csv}
use Rattle.model.specs.Decimal.{good_number, number_of, decimal}
use Rattle.model.specs.LogText.{row_of, spells_row, ask_records, log_lines, log_text}
use Rattle.model.specs.declared.Refusal.TheVariants.{Record}
use Rattle.laws.specs.Words.Tests.{and_left, and_right, and-true}
use Rattle.laws.specs.Lists.Membership.{all_take}
use Rattle.laws.specs.Answer.{ask-true, pass_then}
use Rattle.laws.specs.Log as log-laws
use Rattle.laws.specs.Csv.Complete.{csv-complete}
use Rattle.laws.specs.Decimal.{decimal-good}
use Rattle.laws.specs.LogText.Back.{rows_whole, rows-joined, Spellable, used, line-fields, used-length, unused, lines_good, spellable}

-- words in decimal are numbers, and those words
numbers-good :
    (ws : Words) →
    all word_sized ws ≡ true →
    (all good_number (map decimal ws) ≡ true) × (map number_of (map decimal ws) ≡ ws)
unfolding all
numbers-good [] e = (refl, refl)
numbers-good (n ∷ ws) e =
    let (g, is) = decimal-good n (and_left _ _ e) in
    let (gs, are) = numbers-good ws (and_right (word_sized n) _ e) in
    (and-true g gs, ap₂ (λ (z : ℤ) (zs : Words). z ∷ zs) is are)

module _ (table : Words) (ok : ask_table table ≡ passed tt) where
  module _ (row : Words) (h : Spellable table row) where
    -- the fields written of it spell it
    row_back : row_of (map decimal (used table row)) ≡ row
    unfolding row_of
    row_back =
        let n = 2 + arity table (value row 0) in
        ap₂ (λ (ws : Words) (k : ℕ). ws ++ replicate (8 - k) (pos 0))
        (numbers-good (used table row) (all_take word_sized n row h.sized)).1
        (length-map (used table row) decimal ∙ used-length table ok row h)
        ∙ ap (λ (ws : Words). used table row ++ ws) (sym (unused table ok row h))
        ∙ take-append-drop n row

    -- and pass question 14
    row-spelled : spells_row table (map decimal (used table row)) ≡ true
    unfolding spells_row
    row-spelled =
        let n = 2 + arity table (value row 0) in
        rw row_back
        (and-true (and-true (numbers-good (used table row) (all_take word_sized n row h.sized)).0
        (eq-eqb _ _ (length-map (used table row) decimal ∙ used-length table ok row h))) h.good)

  -- the records of the rows' lines give the rows
  records_back :
      (rs : List Words) →
      ((row : Words) → Memᴰ row rs → Spellable table row) →
      (r : ℕ) →
      ask_records table r (contents (log_lines table rs)) ≡ passed (gather (λ row. row) rs)
  unfolding log_lines contents ask_records gather
  records_back [] h r = refl
  records_back (row ∷ rs) h r =
      let here = h row (Memᴰ.head refl) in
      rw (line-fields table row (omega (arith, here.eight)))
      (pass_then _ (ask-true Record r (row-spelled row here))
      (pass_then _ (records_back rs (λ row' m. h row' (Memᴰ.tail m)) (suc r)) (rw (row_back row here))))

-- an accepted log of numbers of 32 bits is read back from its text
pub text_back :
    (table log : Words) →
    all word_sized log ≡ true →
    ask_table table ≡ passed tt →
    ask_log table log ≡ passed tt →
    (read_csv (log_text table log) >>= ask_records table 0) ≡ passed log
unfolding log_text
text_back table log sized ok e =
    let a = log-laws.accepted table log e in
    pass_then (ask_records table 0) (csv-complete (log_lines table (rows log)) (lines_good table (rows log)))
    (records_back table ok (rows log) (spellable table log sized a) 0 ∙ ap passed (rows-joined log (rows_whole log a.whole)))

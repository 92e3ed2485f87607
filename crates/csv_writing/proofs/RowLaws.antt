-- Laws for the writing of rows: fields behind one another, the end of a line, and lines behind one another.
use Prim.Native.Nat.{ℕ, suc, ◌+◌, ◌*◌, ◌-◌, ◌/◌, ◌≤◌, ◌<◌}
use native.Mathlib.Nat.{sub-zero}
use native.Mathlib.Numerals.{add-one}
use native.Mathlib.Omega.{arith}
use mathlib.Core.Path.{◌≡◌, refl, sym, ap, ap₂, ◌∙◌}
use mathlib.Core.Bool.{true}
use mathlib.Core.List.{[], ◌∷◌, ◌++◌, map, append_assoc}
use lib.ListN.{length, take, drop, drop_of_length-le, length-take}
use lib.Seq.{drop-cons, length-take-le, get_or-take}
use lib.IntN.{ℤ, pos}
use Rattle.model.specs.Words.{Words, word, value}
use Rattle.model.specs.Lists.{span, gather}
use Rattle.model.specs.Answer.{passed}
use Rattle.model.specs.Table.{arity, ask_table}
use Rattle.model.specs.Log.{row_count, row_at, rows, good_row, ask_log}
use Rattle.model.specs.Bytes.{Text, comma, cr, lf}
use Rattle.model.specs.Csv.{bare, spell_field, spell_record, spell}
use Rattle.model.specs.Decimal.{decimal}
use Rattle.model.specs.LogText.{log_lines, log_text}
use Rattle.laws.specs.Log as log-laws
use Rattle.laws.specs.Log.{row_at-length}
use Rattle.laws.specs.LogText.Back.{used-short}
use Rattle.csv_writing.specs.Row.{fields_of, line_of}
use Rattle.text.specs.declared.writer.Writer.{Writer}
use Rattle.text.specs.Adds.{Adds}
use Rattle.text.proofs.PutLaws.{Left, left-none, adds_then}

-- the fields from the word i on of the first n words of a row, each behind a comma
pub behind : Words → ℕ → ℕ → Text
behind row n i = gather (λ z. comma ∷ decimal z) (drop i (take n row))

-- the record of the first words is the first of them, and the others behind it
pub fields-first : (row : Words) (n : ℕ) → fields_of row n ≡ decimal (word row 0) ++ behind row n 1
unfolding fields_of behind spell_record spell_field gather
fields-first row n = ap (λ (t : Text). decimal (word row 0) ++ t) (go (drop 1 (take n row)))
  where
    go : (ws : Words) → gather (λ g. comma ∷ spell_field g) (map (λ z. bare (decimal z)) ws) ≡ gather (λ z. comma ∷ decimal z) ws
    go [] = refl
    go (z ∷ ws) = ap (λ (t : Text). comma ∷ decimal z ++ t) (go ws)

module _ (row : Words) (n i : ℕ) where
  pub behind_more : i < n → n ≤ length row → behind row n i ≡ (comma ∷ decimal (word row i)) ++ behind row n (i + 1)
  unfolding behind word gather
  behind_more h l =
      ap (gather (λ z. comma ∷ decimal z))
      (drop-cons (take n row) i (pos 0) (omega (arith, length-take-le n row l))
      ∙ ap₂ (λ (z : ℤ) (k : ℕ). z ∷ drop k (take n row)) (get_or-take n row i (pos 0) h) (sym (add-one i)))

  pub behind-none : n ≤ i → behind row n i ≡ []
  unfolding behind gather
  behind-none h =
      let few : length (take n row) ≤ i = omega (arith, length-take n row) in
      ap (gather (λ z. comma ∷ decimal z)) (drop_of_length-le (take n row) few)

-- the arity of a good row, as it is found, and its line
module _ (table row : Words) (v a : ℕ) (predicate : v ≡ value row 0) (found : a ≡ arity table v) where
  same-arity : a ≡ arity table (value row 0)
  same-arity = found ∙ ap (arity table) predicate

  pub arity-few : ask_table table ≡ passed tt → good_row table row ≡ true → 2 + a ≤ 8
  arity-few ok g = omega (arith, used-short table ok row g, same-arity)

  pub line_adds :
      {end : Text} {w w₁ w₂ : Writer} → Adds (fields_of row (2 + a)) w w₁ → Adds end w₁ w₂ → end ≡ cr ∷ lf ∷ [] →
      Adds (line_of table row) w w₂
  unfolding line_of
  line_adds fields last e = rw (← same-arity, ← e) (adds_then fields last)

-- the words of a row, as they are lent, are the row
abbrev pub lent_row : (log : Words) (r : ℕ) → Words
lent_row log r = take (8 * r + 8 - 8 * r) (drop (8 * r) log)

lent_row_lem : (log : Words) (r : ℕ) → lent_row log r ≡ row_at log r
unfolding row_at
lent_row_lem log r = let eight : 8 * r + 8 - 8 * r ≡ 8 = omega arith in ap (λ (n : ℕ). take n (drop (8 * r) log)) eight

-- it has eight words and is good
pub row-good :
    (table log : Words) (r : ℕ) →
    ask_log table log ≡ passed tt →
    r < length log / 8 →
    (length (lent_row log r) ≡ 8) × (good_row table (lent_row log r) ≡ true)
unfolding row_count
row-good table log r ok h =
    (ap length (lent_row_lem log r) ∙ row_at-length log r h, ap (good_row table) (lent_row_lem log r) ∙ (log-laws.accepted table log ok).good r h)

-- the text of n rows of a log from row r on
pub lines_from : Words → Words → ℕ → ℕ → Text
lines_from table log r n = spell (log_lines table (map (row_at log) (span r n)))

module _ (table log : Words) where
  pub lines_start : (w : Writer) → Left (log_text table log) (lines_from table log 0 (length log / 8 - 0)) w w
  unfolding log_text rows row_count lines_from
  lines_start w = rw (sub-zero (length log / 8)) (left-none (log_text table log) w)

  module _ (r n : ℕ) where
    pub lines_more : r < n → lines_from table log r (n - r) ≡ line_of table (lent_row log r) ++ lines_from table log (r + 1) (n - (r + 1))
    unfolding lines_from line_of fields_of span log_lines spell
    lines_more h =
        let count : n - r ≡ suc (n - (r + 1)) = omega arith in
        rw (count, lent_row_lem log r, add-one r, append_assoc)

    pub lines_none : n ≤ r → lines_from table log r (n - r) ≡ []
    unfolding lines_from span log_lines spell
    lines_none h = let count : n - r ≡ 0 = omega arith in rw count

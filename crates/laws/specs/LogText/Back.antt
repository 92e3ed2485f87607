-- The lines that are written of an accepted log: a good row is spelled by its predicate, its truth and as many arguments as the arity,
-- since its other arguments are 0. That they are read back stands in proofs/.
use Rattle.std.specs.Prelude.{ℕ, zero, suc, ◌+◌, ◌*◌, ◌-◌, ◌%◌, ◌≤◌, ◌<◌, ◌≡◌, true, length, take, drop, pos}
use Rattle.std.proofs.Common.{arith, ◌∙◌, length-drop, drop-drop, take-add, take_all, length-take-le}
use Rattle.std.proofs.Math.Path.{refl, sym, ap}
use mathlib.Core.List.{List, [], ◌∷◌, ◌++◌, map, Memᴰ}
use Rattle.std.proofs.Math.ListN.{replicate}
use Rattle.std.proofs.lemmas.List.{length-replicate}
use Rattle.model.specs.Words.{Words, word, value, word_sized}
use Rattle.model.specs.Lists.{all, span, gather}
use Rattle.model.specs.Answer.{passed}
use Rattle.model.specs.Table.{predicates, arity, ask_table}
use Rattle.model.specs.Log.{row_count, row_at, rows, arguments, good_row}
use Rattle.model.specs.Bytes.{Text}
use Rattle.model.specs.Csv.{bare, content, good_field, good_lines}
use Rattle.model.specs.Decimal.{decimal}
use Rattle.model.specs.LogText.{log_lines}
use Rattle.laws.specs.Words.Tests.{and_left, and-true}
use Rattle.laws.specs.Words.Standing.{below-value}
use Rattle.laws.specs.Lists.Membership.{all_take, all_drop}
use Rattle.laws.specs.Table as table-laws
use Rattle.laws.specs.Log as log-laws
use Rattle.laws.specs.Log.{zeros-same, zeros-all, unused-zero, row_at-length, rows_mem}
use Rattle.laws.specs.Decimal.{decimal-text}

-- so many rows of a log, one behind another
rows-from : (log : Words) (i n : ℕ) → gather (λ row. row) (map (row_at log) (span i n)) ≡ take (8 * n) (drop (8 * i) log)
unfolding gather span row_at
rows-from log i zero = refl
rows-from log i (suc n) =
    let count : 8 * suc n ≡ 8 + 8 * n = omega arith in
    let next : 8 * suc i ≡ 8 * i + 8 = omega arith in
    let rest = drop (8 * i) log in
    ap (λ (l : Words). take 8 rest ++ l)
    (rows-from log (suc i) n ∙ ap (λ (k : ℕ). take (8 * n) (drop k log)) next ∙ ap (take (8 * n)) (sym (drop-drop 8 (8 * i) log)))
    ∙ sym (take-add 8 (8 * n) rest)
    ∙ ap (λ (k : ℕ). take k rest) (sym count)

-- a log of whole rows
pub rows_whole : (log : Words) → length log % 8 ≡ 0 → length log ≡ 8 * row_count log
unfolding row_count
rows_whole log e = omega arith

-- all rows of a log, one behind another, are the log
pub rows-joined : (log : Words) → length log ≡ 8 * row_count log → gather (λ row. row) (rows log) ≡ log
unfolding rows
rows-joined log e = rows-from log 0 (row_count log) ∙ take_all (8 * row_count log) log (omega arith)

-- a row that a record can spell: eight words of 32 bits that question 9 accepts
pub record Spellable (table row : Words) : Type 0 where
  pub eight : length row ≡ 8
  pub good : good_row table row ≡ true
  pub sized : all word_sized row ≡ true

-- the words that are written of a row
abbrev pub used : Words → Words → Words
used table row = take (2 + arity table (value row 0)) row

-- the fields of a row's line: those words in decimal
pub line-fields :
    (table row : Words) →
    1 ≤ length row →
    map content (bare (decimal (word row 0)) ∷ map (λ n. bare (decimal n)) (drop 1 (used table row))) ≡ map decimal (used table row)
unfolding word content
line-fields table row l = go row (2 + arity table (value row 0)) l (omega arith)
  where
    bare-fields : (ws : Words) → map content (map (λ n. bare (decimal n)) ws) ≡ map decimal ws
    bare-fields [] = refl
    bare-fields (n ∷ ws) = ap (λ (ts : List Text). decimal n ∷ ts) (bare-fields ws)

    go :
        (ws : Words) (n : ℕ) →
        1 ≤ length ws →
        1 ≤ n →
        map content (bare (decimal (word ws 0)) ∷ map (λ n. bare (decimal n)) (drop 1 (take n ws))) ≡ map decimal (take n ws)
    go [] n l m = absurd (omega arith)
    go (x ∷ ws) zero l m = absurd (omega arith)
    go (x ∷ ws) (suc n) l m = ap (λ (ts : List Text). decimal x ∷ ts) (bare-fields (take n ws))

module _ (table : Words) (ok : ask_table table ≡ passed tt) where
  -- a good row's predicate, and its arity
  pub good-arity : (row : Words) → good_row table row ≡ true → (value row 0 < predicates table) × (arity table (value row 0) ≤ 6)
  unfolding good_row value
  good-arity row g =
      let known = below-value (predicates table) (word row 0) (and_left _ _ (and_left _ _ g)) in
      (known.1, (table-laws.arity-range table (table-laws.accepted table ok) (value row 0) known.1).1)

  -- of a good row at most eight words are written
  pub used-short : (row : Words) → good_row table row ≡ true → 2 + arity table (value row 0) ≤ 8
  used-short row g = omega (arith, (good-arity row g).1)

  module _ (row : Words) (h : Spellable table row) where
    pub used-length : length (used table row) ≡ 2 + arity table (value row 0)
    used-length = length-take-le _ row (let s = used-short row h.good in omega (arith, h.eight))

    -- what is not written of it is 0
    pub unused : drop (2 + arity table (value row 0)) row ≡ replicate (8 - (2 + arity table (value row 0))) (pos 0)
    unfolding arguments
    unused =
        let n = arity table (value row 0) in
        sym (drop-drop n 2 row)
        ∙ zeros-same _ _ (unused-zero table row (value row 0) n refl h.good refl) (zeros-all (8 - (2 + n)))
        (simp (length-drop, length-replicate) (omega (arith, h.eight)))

-- the lines of rows keep the rules
pub lines_good : (table : Words) (rs : List Words) → good_lines (log_lines table rs) ≡ true
unfolding log_lines good_lines all good_field
lines_good table [] = refl
lines_good table (row ∷ rs) =
    and-true (and-true (decimal-text (word row 0)) (fields-good (drop 1 (used table row)))) (lines_good table rs)
  where
    fields-good : (ws : Words) → all good_field (map (λ n. bare (decimal n)) ws) ≡ true
    fields-good [] = refl
    fields-good (n ∷ ws) = and-true (decimal-text n) (fields-good ws)

row_sized : (log : Words) (i : ℕ) → all word_sized log ≡ true → all word_sized (row_at log i) ≡ true
unfolding row_at
row_sized log i e = all_take word_sized 8 (drop (8 * i) log) (all_drop word_sized (8 * i) log e)

-- each row of an accepted log can be spelled
pub spellable :
    (table log : Words) →
    all word_sized log ≡ true →
    log-laws.Accepted table log →
    (row : Words) →
    Memᴰ row (rows log) →
    Spellable table row
spellable table log sized a row m =
    let (i, b, q) = rows_mem log m in
    record {
      eight = ap length q ∙ row_at-length log i b;
      good = ap (good_row table) q ∙ a.good i b;
      sized = ap (all word_sized) q ∙ row_sized log i sized;
    }

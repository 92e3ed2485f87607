-- Laws for the reading of a whole text: records one after another, question 14 of them, and their rows.
use Prim.Native.Nat.{ℕ, suc, ◌+◌, ◌*◌, ◌≤◌}
use native.Mathlib.Numerals.{add-one}
use native.Mathlib.Omega.{arith}
use mathlib.Core.Path.{◌≡◌, refl, sym, ap, ap₂, ◌∙◌}
use mathlib.Core.Bool.{true, false}
use mathlib.Core.List.{List, [], ◌∷◌, ◌++◌, append_assoc, append-nil}
use lib.ListN.{length, take, length-append}
use Rattle.model.specs.declared.Refusal.TheVariants.{Csv, Record}
use Rattle.model.specs.Answer.{Outcome, passed, refused, ask, ◌>>=◌}
use Rattle.model.specs.Words.{Words}
use Rattle.model.specs.Bytes.{Text}
use Rattle.model.specs.Lists.{gather}
use Rattle.model.specs.CsvReading.{Records, start, at_end, read_from, read_csv}
use Rattle.model.specs.LogText.{row_of, spells_row, ask_records}
use Rattle.laws.specs.Answer.{then_same}
use Rattle.std.specs.Prelude.{Option, Some, None}
use Rattle.std.specs.Option.{option_or}
use Rattle.text.specs.declared.cursor.Cursor.{Cursor}
use Rattle.csv_reading.specs.Field.{reading}
use Rattle.csv_reading.specs.Record.{Reads}
use Rattle.csv_reading.specs.Rows.{Placed, ask_text, Stand}
use Rattle.csv_reading.proofs.FieldLaws.{empty}

gather-more : (f : List Text → Words) (xs : Records) (x : List Text) → gather f (xs ++ x ∷ []) ≡ gather f xs ++ f x
unfolding gather
gather-more f [] x = append-nil (f x)
gather-more f (y ∷ xs) x = ap (λ (l : Words). f y ++ l) (gather-more f xs x) ∙ sym (append_assoc (f y) (gather f xs) (f x))

-- records that all spell rows, and these rows
pub record Good (table : Words) (records : Records) (count : ℕ) (rows : Words) : Type 0 where
  pub asked : (rs : Records) → ask_records table 0 (records ++ rs) ≡ (ask_records table count rs >>= λ log. passed (gather row_of records ++ log))
  pub long : length (gather row_of records) ≡ 8 * count
  pub stands : 8 * count ≤ length rows → take (8 * count) rows ≡ gather row_of records

-- records that all spell rows, or the first that does not
abbrev pub Judged : (table : Words) (records : Records) (count : ℕ) (rows : Words) (bad : Option ℕ) → Type 0
Judged table records count rows None = Good table records count rows
Judged table records count rows (Some n) = (rs : Records) → ask_records table 0 (records ++ rs) ≡ refused Record n

-- the records before a place, so many
pub record Gone (table : Words) (text : Text) (here : Cursor) (count : ℕ) (bad : Option ℕ) (rows : Words) : Type 0 where
  pub records : Records
  pub from : count ≤ here.at
  pub reads : read_csv text ≡ (reading start here >>= λ rs. passed (records ++ rs))
  pub judged : Judged table records count rows bad

pub gone_none : (table : Words) (text : Text) (rows : Words) (here : Cursor) → here.rest.now ≡ text → here.at ≡ 0 → Gone table text here 0 None rows
unfolding read_csv gather
gone_none table text rows here e f = record {
  records = [];
  from = omega arith;
  reads = ap₂ (λ (p : ℕ) (t : Text). read_from start p t) (sym f) (sym e) ∙ then_same _;
  judged = record { asked = λ rs. then_same _; long = refl; stands = λ k. refl };
}

module _ (table : Words) (records : Records) (count : ℕ) (rows : Words) (g : Good table records count rows) (x : List Text) where
  -- a record more that spells a row
  good_more :
      (rows' row : Words) →
      spells_row table x ≡ true →
      row ≡ row_of x →
      length row ≡ 8 →
      length rows' ≡ length rows →
      (8 * count + 8 ≤ length rows → take (8 * count + 8) rows' ≡ take (8 * count) rows ++ row) →
      Good table (records ++ x ∷ []) (count + 1) rows'
  unfolding ask_records ask ◌>>=◌
  good_more rows' row e spelt long same stands =
      let eight : 8 * (count + 1) ≡ 8 * count + 8 = omega arith in
      record {
        asked = λ rs.
            ap (ask_records table 0) (append_assoc records (x ∷ []) rs)
            ∙ g.asked (x ∷ rs)
            ∙ rw (e, add-one) (go (ask_records table (suc count) rs));
        long = ap length (gather-more row_of records x) ∙ length-append (gather row_of records) (row_of x) ∙ omega (arith, g.long, long, ap length spelt);
        stands = λ h.
            rw eight (stands (omega (arith, h, same)))
            ∙ ap₂ (λ (a b : Words). a ++ b) (g.stands (omega (arith, h, same))) spelt
            ∙ sym (gather-more row_of records x);
      }
    where
      go :
          (o : Outcome Words) →
          ((o >>= λ log. passed (row_of x ++ log)) >>= λ log. passed (gather row_of records ++ log))
          ≡ (o >>= λ log. passed (gather row_of (records ++ x ∷ []) ++ log))
      go (refused r p) = refl
      go (passed log) =
          ap passed
          (sym (append_assoc (gather row_of records) (row_of x) log) ∙ ap (λ (l : Words). l ++ log) (sym (gather-more row_of records x)))

  -- a record more that spells none
  good-no-more : spells_row table x ≡ false → (rs : Records) → ask_records table 0 ((records ++ x ∷ []) ++ rs) ≡ refused Record count
  unfolding ask_records ask ◌>>=◌
  good-no-more e rs = ap (ask_records table 0) (append_assoc records (x ∷ []) rs) ∙ g.asked (x ∷ rs) ∙ rw e

module _ (table : Words) (text : Text) (here : Cursor) (count : ℕ) (bad : Option ℕ) (rows : Words) (g : Gone table text here count bad rows) where
  -- a place where no allowed text goes on so
  pub gone_bad : (p : ℕ) → reading start here ≡ refused Csv p → ask_text table text ≡ refused Csv p
  unfolding ask_text ◌>>=◌
  gone_bad p e = rw (g.reads, e)

  module _ (new : Cursor) (row : Option Words) (r : Reads table here row new) where
    more : Records
    more = g.records ++ r.fields ∷ []

    reads_more : read_csv text ≡ (reading start new >>= λ rs. passed (more ++ rs))
    unfolding more ◌>>=◌
    reads_more =
        g.reads ∙ ap (λ (o : Outcome Records). o >>= λ rs. passed (g.records ++ rs)) r.reads ∙ go (reading start new)
      where
        go :
            (o : Outcome Records) →
            ((o >>= λ rs. passed (r.fields ∷ rs)) >>= λ rs. passed (g.records ++ rs)) ≡ (o >>= λ rs. passed ((g.records ++ r.fields ∷ []) ++ rs))
        go (refused r p) = refl
        go (passed rs) = ap passed (sym (append_assoc g.records (r.fields ∷ []) rs))

    gone_to : (rows' : Words) (bad' : Option ℕ) → Judged table more (count + 1) rows' bad' → Gone table text new (count + 1) bad' rows'
    gone_to rows' bad' j = record { records = more; from = omega (arith, g.from, r.behind); reads = reads_more; judged = j }

-- once a record spelled no row, the others make no difference
behind_bad :
    (table : Words) (records : Records) (count : ℕ) (rows rows' : Words) (n : ℕ) (x : List Text) →
    Judged table records count rows (Some n) → Judged table (records ++ x ∷ []) (count + 1) rows' (Some n)
behind_bad table records count rows rows' n x j rs = ap (ask_records table 0) (append_assoc records (x ∷ []) rs) ∙ j (x ∷ rs)

-- a record more that spells a row, and one that spells none
pub gone_row :
    (table : Words) (text : Text) (here : Cursor) (count : ℕ) (bad : Option ℕ) (rows : Words) (new : Cursor) (row rows' : Words) →
    Gone table text here count bad rows →
    Reads table here (Some row) new →
    length row ≡ 8 →
    length rows' ≡ length rows →
    Placed count row rows rows' →
    Gone table text new (count + 1) bad rows'
unfolding more
gone_row table text here count None rows new row rows' g r long same placed =
    gone_to table text here count None rows g new (Some row) r rows' None
    (good_more table g.records count rows g.judged r.fields rows' row r.spelled.0 r.spelled.1 long same placed)
gone_row table text here count (Some n) rows new row rows' g r long same placed =
    gone_to table text here count (Some n) rows g new (Some row) r rows' (Some n) (behind_bad table g.records count rows rows' n r.fields g.judged)

pub gone_none_more :
    (table : Words) (text : Text) (here : Cursor) (count : ℕ) (bad : Option ℕ) (rows : Words) (new : Cursor) →
    Gone table text here count bad rows →
    Reads table here None new →
    Gone table text new (count + 1) (option_or bad (Some count)) rows
unfolding more
gone_none_more table text here count None rows new g r =
    gone_to table text here count None rows g new None r rows (Some count) (good-no-more table g.records count rows g.judged r.fields r.spelled)
gone_none_more table text here count (Some n) rows new g r =
    gone_to table text here count (Some n) rows g new None r rows (Some n) (behind_bad table g.records count rows rows n r.fields g.judged)

-- the whole text was read
module _ (table : Words) (text : Text) (here : Cursor) (count : ℕ) (rows : Words) (h : length here.rest.now ≡ 0) where
  all_read : {bad : Option ℕ} (g : Gone table text here count bad rows) → read_csv text ≡ passed (g.records ++ [])
  unfolding read_from at_end ◌>>=◌
  all_read g = g.reads ∙ ap (λ (t : Text). read_from start here.at t >>= λ rs. passed (g.records ++ rs)) (empty here.rest.now h)

  pub read_bad : (n p : ℕ) → Gone table text here count (Some n) rows → p ≡ n → ask_text table text ≡ refused Record p
  unfolding ask_text ◌>>=◌
  read_bad n p g e = rw (all_read g, e) (g.judged [])

  pub read-good : Gone table text here count None rows → Stand table text rows count
  unfolding ask_text ◌>>=◌ ask_records
  read-good g = record {
    log = gather row_of g.records;
    asked = rw (all_read g) (g.judged.asked [] ∙ ap passed (append-nil (gather row_of g.records)));
    long = g.judged.long;
    stands = g.judged.stands;
  }

-- Laws for the reading of records: fields one after another, the numbers that they put into a row, and question 14.
use Prim.Native.Nat.{ℕ, suc, ◌+◌, ◌-◌, ◌≤◌, ◌<◌}
use native.Mathlib.Numerals.{add-one}
use native.Mathlib.Omega.{arith}
use mathlib.Core.Path.{◌≡◌, refl, sym, ap, ap₂, ◌∙◌, subst}
use mathlib.Core.Logic.{⊎_elim}
use mathlib.Core.Bool.{Bool, true, false, cond, ◌&&◌, false≢true}
use mathlib.Core.List.{List, [], ◌∷◌, ◌++◌, map, map-append, append_assoc}
use lib.ListN.{length, set, replicate, length-append, length-map}
use lib.Seq.{set-append_seam}
use lib.Dec.{leb, ltb, eqb}
use lib.IntN.{ℤ, pos}
use borrow.Author.Tests.{leb-false, ltb-true, le-leb, ne_eqb}
use Rattle.model.specs.declared.Refusal.TheVariants.{Csv}
use Rattle.model.specs.Answer.{Outcome, passed, refused, ◌>>=◌}
use Rattle.model.specs.Words.{Words, value, row_words}
use Rattle.model.specs.Bytes.{Text}
use Rattle.model.specs.Lists.{all}
use Rattle.model.specs.CsvReading.{Records, start, field, move, read_from, add_byte, add_field, add_record}
use Rattle.model.specs.Decimal.{good_number, number_of}
use Rattle.model.specs.Table.{arity, ask_table}
use Rattle.model.specs.Log.{good_row}
use Rattle.model.specs.LogText.{spells_row, row_of}
use Rattle.laws.specs.Words.Tests.{decide, and_left, and_right, and-false, and_one}
use Rattle.laws.specs.Answer.{then_same}
use Rattle.laws.specs.LogText.Back.{good-arity}
use Rattle.text.specs.declared.cursor.Cursor.{Cursor}
use Rattle.csv_reading.specs.declared.field.End.{End}
use Rattle.csv_reading.specs.declared.field.End.TheVariants.{Comma, Line}
use Rattle.std.specs.Prelude.{Option, Some, None}
use Rattle.std.specs.Option.{is_some}
use Rattle.text.specs.Reading.{spelt}
use Rattle.csv_reading.proofs.FieldLaws.{same_here, same_then}
use Rattle.csv_reading.specs.Field.{add_all, attach, reading, goes_on, Same, Onward, FieldOf}
use Rattle.csv_reading.specs.Record.{Put, RowAsked, Spelled, Reads}

-- whole fields in front of the first record
pub cons_all : List Text → Records → Records
cons_all [] rs = rs
cons_all (f ∷ fs) rs = add_all f (add_field (cons_all fs rs))

add_all-first : (f : Text) (r : List Text) (rs : Records) → add_all f (([] ∷ r) ∷ rs) ≡ (f ∷ r) ∷ rs
unfolding add_all add_byte
add_all-first [] r rs = refl
add_all-first (b ∷ f) r rs = ap (add_byte b) (add_all-first f r rs)

cons_all_record : (fs : List Text) (r : List Text) (rs : Records) → cons_all fs (r ∷ rs) ≡ (fs ++ r) ∷ rs
unfolding cons_all add_field
cons_all_record [] r rs = refl
cons_all_record (f ∷ fs) r rs = ap (λ (x : Records). add_all f (add_field x)) (cons_all_record fs r rs) ∙ add_all-first f (fs ++ r) rs

cons_all_more : (fs : List Text) (f : Text) (rs : Records) → cons_all (fs ++ f ∷ []) rs ≡ cons_all fs (add_all f (add_field rs))
unfolding cons_all
cons_all_more [] f rs = refl
cons_all_more (g ∷ fs) f rs = ap (λ (x : Records). add_all g (add_field x)) (cons_all_more fs f rs)

-- what was read of a record up to a place: its fields so far, and the row of their numbers
pub record Held (old here : Cursor) (fields : ℕ) (good : Bool) (row : Words) : Type 0 where
  pub contents : List Text
  pub size : length contents ≡ fields
  pub from : old.at + fields ≤ here.at
  pub same : Same old here
  pub reads : reading start old ≡ (reading field here >>= λ rs. passed (cons_all contents rs))
  pub said : good ≡ all good_number contents && leb fields 8
  pub numbers : good ≡ true → row ≡ row_of contents
  pub long : length row ≡ 8

-- a record that is not empty begins with a field
begins : (p : ℕ) (t : Text) → 1 ≤ length t → read_from start p t ≡ read_from field p t
unfolding read_from move
begins p [] h = absurd (omega (arith, h))
begins p (b ∷ t) h = refl

pub held_none : (here : Cursor) → 1 ≤ length here.rest.now → Held here here 0 true (replicate 8 (pos 0))
unfolding cons_all all row_of
held_none here h = record {
  contents = [];
  size = refl;
  from = omega arith;
  same = same_here here;
  reads = begins here.at here.rest.now h ∙ then_same _;
  said = refl;
  numbers = λ e. refl;
  long = refl;
}

-- the same with one field more, and what stands behind it
pub record Ended (old here : Cursor) (fields : ℕ) (good : Bool) (row : Words) (end : End) (new : Cursor) : Type 0 where
  pub contents : List Text
  pub content : Text
  pub size : length (contents ++ content ∷ []) ≡ fields
  pub from : old.at + fields ≤ here.at + 1
  pub same : Same old here
  pub onward : Onward here end new
  pub reads : reading start old ≡ (goes_on end new >>= λ rs. passed (cons_all contents (add_all content rs)))
  pub said : good ≡ all good_number (contents ++ content ∷ []) && leb fields 8
  pub numbers : good ≡ true → row ≡ row_of (contents ++ content ∷ [])
  pub long : length row ≡ 8

attach_then :
    (f : Text) (fs : List Text) (o : Outcome Records) →
    (attach f o >>= λ rs. passed (cons_all fs rs)) ≡ (o >>= λ rs. passed (cons_all fs (add_all f rs)))
unfolding attach ◌>>=◌
attach_then f fs (refused r p) = refl
attach_then f fs (passed rs) = refl

-- a test of all fields, with one more
all-last : (test : Text → Bool) (fs : List Text) (f : Text) → all test (fs ++ f ∷ []) ≡ all test fs && test f
unfolding all
all-last test [] f = and_one (test f)
all-last test (g ∷ fs) f = ap (λ (b : Bool). test g && b) (all-last test fs f) ∙ sym (and_assoc (test g) (all test fs) (test f))
  where
    and_assoc : (a b c : Bool) → (a && b) && c ≡ a && (b && c)
    and_assoc true b c = refl
    and_assoc false b c = refl

-- a number more is good if there is room for it
good_more :
    (fs : List Text) (f : Text) (k : ℕ) →
    (all good_number fs && leb k 8) && (good_number f && ltb k 8) ≡ all good_number (fs ++ f ∷ []) && leb (k + 1) 8
good_more fs f k =
    room (all good_number fs) (good_number f) (leb k 8) (ltb k 8) (λ e. le-leb k 8 (let h = ltb-true k 8 e in omega arith))
    ∙ ap₂ (λ (a b : Bool). a && b) (sym (all-last good_number fs f)) (ap (λ (n : ℕ). leb n 8) (sym (add-one k)))
  where
    room : (a b x y : Bool) → (y ≡ true → x ≡ true) → (a && x) && (b && y) ≡ (a && b) && y
    room false b x y h = refl
    room true false true y h = refl
    room true false false y h = refl
    room true true true y h = refl
    room true true false true h = absurd (false≢true (h refl))
    room true true false false h = refl

-- what bytes spell is a number exactly if they are a good one
spelt-some : (t : Text) → is_some (spelt t) ≡ good_number t
unfolding spelt
spelt-some t = go (good_number t)
  where
    go : (b : Bool) → is_some (cond b (Some (number_of t)) None) ≡ b
    go true = refl
    go false = refl

spelt-number : (t : Text) → good_number t ≡ true → spelt t ≡ Some (number_of t)
unfolding spelt
spelt-number t e = rw e refl

-- the row of numbers with one number more
row-more : (fields : List Text) (f : Text) → length fields < 8 → set (row_of fields) (length fields) (number_of f) ≡ row_of (fields ++ f ∷ [])
unfolding row_of
row-more fields f h =
    let numbers = map number_of fields in
    let size : length numbers ≡ length fields = length-map fields number_of in
    let left : row_words - length fields ≡ suc (row_words - length (fields ++ f ∷ [])) = omega (arith, length-append fields (f ∷ []), h) in
    ap₂ (λ (n i : ℕ). set (numbers ++ replicate n (pos 0)) i (number_of f)) left (sym size)
    ∙ set-append_seam numbers (pos 0) (replicate (row_words - length (fields ++ f ∷ [])) (pos 0)) (number_of f)
    ∙ sym (append_assoc numbers (number_of f ∷ []) (replicate (row_words - length (fields ++ f ∷ [])) (pos 0)))
    ∙ ap (λ (x : Words). x ++ replicate (row_words - length (fields ++ f ∷ [])) (pos 0)) (sym (map-append number_of fields (f ∷ [])))

pub held_more :
    (old here new : Cursor) (fields : ℕ) (good : Bool) (row : Words) (v : Option ℤ) (end : End) (row' : Words) (put : Bool) →
    Held old here fields good row →
    FieldOf here v end new →
    Put v fields row row' put →
    length row' ≡ length row →
    {e : End} → end ≡ e →
    Ended old here (fields + 1) (good && put) row' e new
held_more old here new fields good row v end row' put held f p l ends =
    let fits : put ≡ good_number f.content && ltb fields 8 =
    p.said ∙ ap₂ (λ (b : Bool) (n : ℕ). b && ltb fields n) (ap is_some f.is ∙ spelt-some f.content) held.long
    in subst (λ (x : End). Ended old here (fields + 1) (good && put) row' x new) ends (record {
      contents = held.contents;
      content = f.content;
      size = length-append held.contents (f.content ∷ []) ∙ ap (λ (n : ℕ). n + 1) held.size;
      from = omega (arith, held.from);
      same = held.same;
      onward = f.onward;
      reads =
          held.reads
          ∙ ap (λ (o : Outcome Records). o >>= λ rs. passed (cons_all held.contents rs)) f.reads
          ∙ attach_then f.content held.contents (goes_on end new);
      said = ap₂ (λ (a b : Bool). a && b) held.said fits ∙ good_more held.contents f.content fields;
      numbers = λ e.
          let now = and_right good put e in
          let room : fields < 8 = ltb-true fields 8 (and_right (good_number f.content) _ (sym fits ∙ now)) in
          p.put now (number_of f.content) (f.is ∙ spelt-number f.content (and_left _ _ (sym fits ∙ now)))
          ∙ ap₂ (λ (x : Words) (n : ℕ). set x n (number_of f.content)) (held.numbers (and_left good put e)) (sym held.size)
          ∙ row-more held.contents f.content (omega (arith, held.size, room));
      long = l ∙ held.long;
    })

-- a comma behind the field
pub ended-comma : (old here new : Cursor) (fields : ℕ) (good : Bool) (row : Words) → Ended old here fields good row Comma new → Held old new fields good row
unfolding goes_on ◌>>=◌
ended-comma old here new fields good row e = record {
  contents = e.contents ++ e.content ∷ [];
  size = e.size;
  from = omega (arith, e.from, e.onward.0);
  same = same_then old here new e.same e.onward.1;
  reads = e.reads ∙ go (reading field new);
  said = e.said;
  numbers = e.numbers;
  long = e.long;
}
  where
    go :
        (o : Outcome Records) →
        ((o >>= λ rs. passed (add_field rs)) >>= λ rs. passed (cons_all e.contents (add_all e.content rs)))
        ≡ (o >>= λ rs. passed (cons_all (e.contents ++ e.content ∷ []) rs))
    go (refused r p) = refl
    go (passed rs) = ap passed (sym (cons_all_more e.contents e.content rs))

-- a place where no allowed text goes on so
pub held_bad :
    (old here : Cursor) (fields : ℕ) (good : Bool) (row : Words) (p : ℕ) →
    Held old here fields good row → reading field here ≡ refused Csv p → reading start old ≡ refused Csv p
unfolding ◌>>=◌
held_bad old here fields good row p held e = held.reads ∙ rw e refl

-- question 14, of fields that are no numbers, of a row that is not good, and of too many fields
module _ (table : Words) (fields : List Text) where
  pub no-numbers : all good_number fields ≡ false → spells_row table fields ≡ false
  unfolding spells_row
  no-numbers e = rw e

  pub bad_row : good_row table (row_of fields) ≡ false → spells_row table fields ≡ false
  unfolding spells_row
  bad_row e = and-false (all good_number fields && eqb (length fields) (2 + arity table (value (row_of fields) 0))) e

  pub good-row :
      all good_number fields ≡ true →
      good_row table (row_of fields) ≡ true →
      eqb (length fields) (2 + arity table (value (row_of fields) 0)) ≡ spells_row table fields
  unfolding spells_row
  good-row e f = rw (e, f) (sym (and_one _))

  too_many : ask_table table ≡ passed tt → 8 < length fields → spells_row table fields ≡ false
  unfolding spells_row
  too_many t h =
      ⊎_elim
      (λ e.
      let k = (good-arity table t (row_of fields) e).1 in
      ap (λ (b : Bool). b && good_row table (row_of fields))
      (and-false (all good_number fields) (ne_eqb (length fields) (2 + arity table (value (row_of fields) 0)) (λ z. absurd (omega (arith, z, k, h))))))
      bad_row
      (decide (good_row table (row_of fields)))

  -- of fields that are not all numbers with room in a row
  pub not_good : ask_table table ≡ passed tt → all good_number fields && leb (length fields) 8 ≡ false → spells_row table fields ≡ false
  not_good t e =
      ⊎_elim
      (λ f. too_many t (leb-false (length fields) 8 (ap (λ (b : Bool). b && leb (length fields) 8) (sym f) ∙ e)))
      no-numbers
      (decide (all good_number fields))

-- the answer to question 14, from the row
module _ (table row : Words) (k : ℕ) where
  pub spells_bad : good_row table row ≡ false → RowAsked table row k false
  spells_bad e fields s g t = sym (bad_row table fields (rw (← t) e))

  pub spells-good : good_row table row ≡ true → RowAsked table row k (eqb k (2 + arity table (value row 0)))
  spells-good e fields s g t =
      ap₂ (λ (n : ℕ) (w : Words). eqb n (2 + arity table (value w 0))) (sym s) t ∙ good-row table fields g (rw (← t) e)

-- a whole record
module _ (table : Words) (old here new : Cursor) (fields : ℕ) (good : Bool) (row : Words) (e : Ended old here fields good row Line new) (h : 1 ≤ length old.rest.now) where
  ended-line : (r : Option Words) → Spelled table (e.contents ++ e.content ∷ []) r → Reads table old r new
  unfolding goes_on ◌>>=◌ add_record
  ended-line r s = record {
    fields = e.contents ++ e.content ∷ [];
    reads = e.reads ∙ go (reading start new);
    behind = omega (arith, e.from, e.onward.0, e.same.whole, h, e.size, length-append e.contents (e.content ∷ []));
    same = same_then old here new e.same e.onward.1;
    spelled = s;
  }
    where
      go :
          (o : Outcome Records) →
          ((o >>= λ rs. passed (add_record rs)) >>= λ rs. passed (cons_all e.contents (add_all e.content rs)))
          ≡ (o >>= λ rs. passed ((e.contents ++ e.content ∷ []) ∷ rs))
      go (refused r p) = refl
      go (passed rs) =
          ap passed (ap (cons_all e.contents) (add_all-first e.content [] rs) ∙ cons_all_record e.contents (e.content ∷ []) rs)

  -- its fields are no numbers, or too many
  pub line_bad : ask_table table ≡ passed tt → good ≡ false → Reads table old None new
  line_bad t g =
      ended-line None
      (not_good table (e.contents ++ e.content ∷ []) t (ap (λ (n : ℕ). all good_number (e.contents ++ e.content ∷ []) && leb n 8) e.size ∙ sym e.said ∙ g))

  module _ (g : good ≡ true) (r : Bool) (s : RowAsked table row fields r) where
    asked : r ≡ spells_row table (e.contents ++ e.content ∷ [])
    asked = s (e.contents ++ e.content ∷ []) e.size (and_left _ (leb fields 8) (sym e.said ∙ g)) (e.numbers g)

    pub line_none : r ≡ false → Reads table old None new
    line_none n = ended-line None (sym asked ∙ n)

    pub line-some : r ≡ true → Reads table old (Some row) new
    line-some y = ended-line (Some row) (sym asked ∙ y, e.numbers g)

-- Whole fields: a number's bytes and what follows them in the field, bare or in quotes, and what stands behind the field.
use Prim.Native.Nat.{ℕ, ◌≤◌, ◌<◌}
use native.Mathlib.Nat.{eq-or-lt_of_le}
use native.Mathlib.Omega.{arith}
use mathlib.Core.Path.{◌≡◌, refl, sym, ap, ◌∙◌, subst}
use mathlib.Core.Logic.{⊎_elim}
use mathlib.Core.Bool.{Bool, true, false, cond}
use mathlib.Core.List.{[], ◌∷◌, ◌++◌, append_assoc, append-nil}
use lib.ListN.{length, get_or, drop, length-append}
use lib.Seq.{drop-cons}
use lib.Dec.{eqb}
use lib.IntN.{ℤ}
use borrow.Author.Tests.{eq-eqb, ne_eqb}
use Rattle.std.specs.Prelude.{Option, None, Ok, Err}
use Rattle.model.specs.declared.Refusal.TheVariants.{Csv}
use Rattle.model.specs.Answer.{refused}
use Rattle.model.specs.Bytes.{Text, quote}
use Rattle.model.specs.Csv.{text_data}
use Rattle.model.specs.CsvReading.{field, quoting, move_first, move, follow, read_from}
use Rattle.model.specs.Decimal.{good_number}
use Rattle.laws.specs.Lists.Membership.{all_append}
use Rattle.text.specs.declared.cursor.Cursor.{Cursor}
use Rattle.text.specs.Passing.{Passed, Passes, Stops}
use Rattle.text.specs.Reading.{NumberAt, spelt}
use Rattle.csv_reading.specs.declared.field.End.{End}
use Rattle.csv_reading.specs.declared.field.End.TheVariants.{Comma, Line}
use Rattle.csv_reading.specs.declared.field.BadByte.{BadByte}
use Rattle.csv_reading.specs.Field.{attach, behind, reading, Same, Onward, Bare, Quoted, Content, EndOf, FieldOf}
use Rattle.csv_reading.proofs.FieldLaws.{attach-append, attach-refused, quoting-text, field-text, closing-rest, read_past, empty, same_passed, same_then}

-- what lies behind a place lies behind one before it
onward-from : (a b c : Cursor) (e : End) → a.at ≤ b.at → Same a b → Onward b e c → Onward a e c
onward-from a b c Comma h s o = (omega (arith, h, o.0), same_then a b c s o.1)
onward-from a b c Line h s o = (omega (arith, h, s.whole, o.0), same_then a b c s o.1)

first_of : (t : Text) → 1 ≤ length t → t ≡ get_or t 0 0 ∷ drop 1 t
first_of t h = drop-cons t 0 0 h

-- the content of a field, whose first bytes may be a number, up to what stands behind the field
pub record Contents (old : Cursor) (v : Option ℤ) (more : ℕ) (new : Cursor) : Type 0 where
  pub content : Text
  pub from : old.at ≤ new.at
  pub same : Same old new
  pub reads : reading field old ≡ attach content (behind new.at new.rest.now)
  pub is : cond (eqb more 0) v None ≡ spelt content

module _ (n m : Cursor) (bytes rest : Text) (v : Option ℤ) (more : ℕ) where
  -- the bytes behind a number's in its field: none, or some, so that the field is none
  value :
      v ≡ spelt bytes →
      ((b : ℕ) (t : Text) → n.rest.now ≡ b ∷ t → (x : Text) → good_number (bytes ++ b ∷ x) ≡ false) →
      (more ≡ 0 → rest ≡ []) →
      (1 ≤ more → (b : ℕ) × (t : Text) × (x : Text) × (n.rest.now ≡ b ∷ t) × (rest ≡ b ∷ x)) →
      cond (eqb more 0) v None ≡ spelt (bytes ++ rest)
  unfolding spelt
  value is longer none some =
      ⊎_elim
      (λ (k : 0 ≡ more). rw (eq-eqb more 0 (sym k), none (sym k), append-nil) is)
      (λ (k : 0 < more).
      let s = some k in
      rw (ne_eqb more 0 (λ z. absurd (omega (arith, z, k))), s.4, longer s.0 s.1 s.3 s.2) refl)
      (eq-or-lt_of_le (let o : 0 ≤ more = omega arith in o))

module _ (old q n m : Cursor) (v : Option ℤ) (more : ℕ) (number : NumberAt q n v) where
  -- the number's bytes in quotes
  quoted-number : reading quoting q ≡ attach number.bytes (reading quoting n)
  quoted-number =
      ap (read_from quoting q.at) number.passed.rest
      ∙ quoting-text number.bytes q.at n.at n.rest.now number.text number.passed.at

  -- in quotes
  quoted-contents : Passed (quote ∷ []) old q → Quoted n m more → Contents old v more m
  unfolding move move_first follow
  quoted-contents p c = record {
    content = number.bytes ++ c.bytes;
    from = omega (arith, p.at, number.passed.at, c.behind);
    same = same_then old q m (same_passed _ old q p) (same_then q n m (same_passed _ q n number.passed) c.same);
    reads =
        read_past field quote old q p
        ∙ quoted-number
        ∙ ap (attach number.bytes) c.reads
        ∙ attach-append number.bytes c.bytes _
        ∙ ap (attach _) (closing-rest m.at m.rest.now c.stop);
    is = value n m number.bytes c.bytes v more number.is number.longer c.none
        (λ k. let s = c.some k in (get_or n.rest.now 0 0, drop 1 n.rest.now, s.0, first_of n.rest.now (omega (arith, c.behind, c.same.whole)), s.1));
  }

  -- bare
  bare-contents : (q ≡ old) × Stops (λ c. eqb c quote) old.rest.now → Bare n m more → Contents old v more m
  bare-contents p b = subst (λ (c : Cursor). Contents c v more m) p.0 (record {
    content = number.bytes ++ b.bytes;
    from = omega (arith, number.passed.at, b.passed.at);
    same = same_then q n m (same_passed _ q n number.passed) (same_passed _ n m b.passed);
    reads =
        ap (read_from field q.at) split
        ∙ field-text (number.bytes ++ b.bytes) q.at m.at m.rest.now (all_append text_data _ _ number.text b.bare)
        (omega (arith, length-append number.bytes b.bytes, number.passed.at, b.passed.at)) b.stop
        (subst (Stops (λ c. eqb c quote)) (ap (λ (c : Cursor). c.rest.now) (sym p.0) ∙ split) p.1);
    is = value n m number.bytes b.bytes v more number.is number.longer (λ k. empty b.bytes (b.size ∙ k))
        (λ k.
        let first = first_of b.bytes (omega (arith, b.size, k)) in
        (get_or b.bytes 0 0, drop 1 b.bytes ++ m.rest.now, drop 1 b.bytes, b.passed.rest ∙ ap (λ (t : Text). t ++ m.rest.now) first, first));
  })
    where
      split : q.rest.now ≡ (number.bytes ++ b.bytes) ++ m.rest.now
      split = number.passed.rest ∙ ap (λ (t : Text). number.bytes ++ t) b.passed.rest ∙ sym (append_assoc number.bytes b.bytes m.rest.now)

  pub contents : (quotes : Bool) → Passes quote old q quotes → Content quotes n m (Ok more) → Contents old v more m
  contents true p c = quoted-contents p c
  contents false p c = bare-contents p c

  -- a place where no allowed text goes on so
  pub content_bad : (quotes : Bool) (bad : BadByte) → Passes quote old q quotes → Content quotes n m (Err bad) → reading field old ≡ refused Csv bad.0
  unfolding move move_first follow
  content_bad true bad p e = read_past field quote old q p ∙ quoted-number ∙ ap (attach number.bytes) e ∙ attach-refused number.bytes _
  content_bad false bad p e = absurd e

-- what stands behind the field
module _ (old m new : Cursor) (v : Option ℤ) (more : ℕ) (c : Contents old v more m) where
  pub whole : (end : End) (w : Option ℤ) → EndOf m end new → w ≡ cond (eqb more 0) v None → FieldOf old w end new
  whole end w e f = record {
    content = c.content;
    reads = c.reads ∙ ap (attach c.content) e.reads;
    is = f ∙ c.is;
    onward = onward-from old m new end c.from c.same e.onward;
  }

  pub ending_bad : (bad : BadByte) → behind m.at m.rest.now ≡ refused Csv bad.0 → reading field old ≡ refused Csv bad.0
  ending_bad bad e = c.reads ∙ ap (attach c.content) e ∙ attach-refused c.content _

-- Every allowed text is read, and gives the contents of its fields.
use Rattle.std.specs.Prelude.{ℕ, suc, ◌≤◌, ◌≡◌, refl, true, false, not, ◌&&◌, length, leb, eqb}
use Rattle.std.proofs.Common.{arith, sym, ◌∙◌, length-append}
use Rattle.std.proofs.Math.Path.{ap}
use Rattle.std.proofs.Math.Logic.{⊎_elim}
use mathlib.Core.List.{List, [], ◌∷◌, ◌++◌, map, append_assoc, append-nil}
use borrow.Author.Tests.{eqb-true, leb-true, not-true}
use Rattle.model.specs.Bytes.{Text, lf, cr, quote, comma}
use Rattle.model.specs.Lists.{all, gather}
use Rattle.model.specs.Answer.{passed}
use Rattle.model.specs.Csv.{text_data, quotable, Field, bare, quoted, content, good_field, doubled, spell_field, spell_record, Lines, none}
use Rattle.model.specs.Csv.{last, line, spell, good_lines, contents}
use Rattle.model.specs.CsvReading.{Records, State, start, field, inside, quoting, closing, adds, move, move_first, move_bare, move_behind}
use Rattle.model.specs.CsvReading.{add_byte, add_field, add_record, at_end, follow, read_from, read_csv}
use Rattle.laws.specs.Words.Tests.{decide, and_left, and_right}
use Rattle.laws.specs.Answer.{pass_then}

-- a state in which a bare field goes on, if it does
data Bare : State → Type 0 where
  before : Bare field
  amid : Bare inside

-- a state in which the field at hand can end
data Whole : State → Type 0 where
  plain : {s : State} → Bare s → Whole s
  closed : Whole closing

-- a text that stands behind a field: it has these further fields of the record, and these further records
abbrev Follows : Text → List Text → Records → Type 0
Follows t fs rs = (s : State) → Whole s → (q : ℕ) → read_from s q t ≡ passed (([] ∷ fs) ∷ rs)

follows_end : Follows [] [] []
unfolding read_from at_end add_record
follows_end s (plain before) q = refl
follows_end s (plain amid) q = refl
follows_end s closed q = refl

follows-line : (t : Text) (rs : Records) → ((q : ℕ) → read_from start q t ≡ passed rs) → Follows (cr ∷ lf ∷ t) [] rs
unfolding read_from follow move move_first move_bare move_behind text_data add_record
follows-line t rs h s (plain before) q = pass_then _ (h _) refl
follows-line t rs h s (plain amid) q = pass_then _ (h _) refl
follows-line t rs h s closed q = pass_then _ (h _) refl

follows-field :
    (t : Text) (f : Text) (fs : List Text) (rs : Records) →
    ((q : ℕ) → read_from field q t ≡ passed ((f ∷ fs) ∷ rs)) →
    Follows (comma ∷ t) (f ∷ fs) rs
unfolding read_from follow move move_first move_bare move_behind text_data add_field
follows-field t f fs rs h s (plain before) q = pass_then _ (h _) refl
follows-field t f fs rs h s (plain amid) q = pass_then _ (h _) refl
follows-field t f fs rs h s closed q = pass_then _ (h _) refl

-- TEXTDATA is no quote
pub data_quote : (b : ℕ) → text_data b ≡ true → eqb b quote ≡ false
unfolding text_data
data_quote b e =
    not-true _ (and_right (leb 32 b && leb b 126) _ (and_left (leb 32 b && leb b 126 && not (eqb b quote)) _ e))

-- so it goes on in a bare field
move_data : {s : State} (b : ℕ) → Bare s → text_data b ≡ true → move s b ≡ adds inside
unfolding move move_first move_bare
move_data b before e = rw (data_quote b e, e)
move_data b amid e = rw e

-- a field, a bare one from any of its bytes on, with what stands behind it
module _ (t : Text) (fs : List Text) (rs : Records) (h : Follows t fs rs) where
  bare-read :
      (u : Text) →
      all text_data u ≡ true →
      {s : State} →
      Bare s →
      (q : ℕ) →
      read_from s q (u ++ t) ≡ passed ((u ∷ fs) ∷ rs)
  unfolding all read_from follow add_byte
  bare-read [] e {s} w q = h s (plain w) q
  bare-read (b ∷ u) e w q =
      rw (move_data b w (and_left _ _ e)) (pass_then _ (bare-read u (and_right (text_data b) _ e) amid (suc q)) refl)

  quoted-read :
      (u : Text) →
      all quotable u ≡ true →
      (q : ℕ) →
      read_from quoting q (doubled u ++ quote ∷ t) ≡ passed ((u ∷ fs) ∷ rs)
  unfolding all doubled gather read_from follow move add_byte
  quoted-read [] e q = h closing closed (suc q)
  quoted-read (b ∷ u) e q =
      ⊎_elim
      (λ k. rw (k, eqb-true b quote k) (pass_then _ (quoted-read u (and_right (quotable b) _ e) _) refl))
      (λ k. rw k (rw (k, and_left (quotable b) _ e) (pass_then _ (quoted-read u (and_right (quotable b) _ e) _) refl)))
      (decide (eqb b quote))

  field-read : (f : Field) → good_field f ≡ true → (q : ℕ) → read_from field q (spell_field f ++ t) ≡ passed ((content f ∷ fs) ∷ rs)
  unfolding good_field spell_field content read_from follow move move_first
  field-read (bare u) e q = bare-read u e before q
  field-read (quoted u) e q =
      ap (read_from quoting (suc q)) (append_assoc (doubled u) (quote ∷ []) t) ∙ quoted-read u e (suc q)

-- a record, with what stands behind it
module _ (t : Text) (rs : Records) (h : Follows t [] rs) where
  fields_read :
      (fs : List Field) →
      all good_field fs ≡ true →
      Follows (gather (λ g. comma ∷ spell_field g) fs ++ t) (map content fs) rs
  unfolding all gather
  fields_read [] e = h
  fields_read (g ∷ fs) e =
      let rest = gather (λ f. comma ∷ spell_field f) fs in
      follows-field (spell_field g ++ rest ++ t) (content g) (map content fs) rs λ q.
      rw append_assoc
      (field-read (rest ++ t) (map content fs) rs (fields_read fs (and_right (good_field g) _ e)) g (and_left _ _ e) q)

  record_read :
      (f : Field) (fs : List Field) →
      all good_field (f ∷ fs) ≡ true →
      (q : ℕ) →
      read_from field q (spell_record f fs ++ t) ≡ passed (map content (f ∷ fs) ∷ rs)
  unfolding all spell_record
  record_read f fs e q =
      rw append_assoc (field-read _ (map content fs) rs (fields_read fs (and_right (good_field f) _ e)) f (and_left _ _ e) q)

-- a text that is not empty is read before a record as it is read behind a comma
start-field : (t : Text) (q : ℕ) → 1 ≤ length t → read_from start q t ≡ read_from field q t
unfolding read_from move
start-field [] q h = absurd (omega arith)
start-field (b ∷ t) q h = refl

lines_read : (ls : Lines) → good_lines ls ≡ true → (q : ℕ) → read_from start q (spell ls) ≡ passed (contents ls)
unfolding good_lines spell contents read_from at_end
lines_read none e q = refl
lines_read (last f fs) e q =
    let t = spell_record f fs in
    start-field t q (leb-true 1 (length t) (and_right (all good_field (f ∷ fs)) _ e))
    ∙ ap (read_from field q) (sym (append-nil t))
    ∙ record_read [] [] follows_end f fs (and_left _ _ e) q
lines_read (line f fs ls) e q =
    let t = cr ∷ lf ∷ spell ls in
    start-field (spell_record f fs ++ t) q (omega (arith, length-append (spell_record f fs) t))
    ∙ record_read t (contents ls) (follows-line (spell ls) (contents ls) (lines_read ls (and_right (all good_field (f ∷ fs)) _ e)))
    f fs (and_left _ _ e) q

-- an allowed text is read, and gives the contents of its fields
pub csv-complete : (ls : Lines) → good_lines ls ≡ true → read_csv (spell ls) ≡ passed (contents ls)
unfolding read_csv
csv-complete ls e = lines_read ls e 0

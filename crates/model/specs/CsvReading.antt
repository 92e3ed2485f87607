-- The reading of comma-separated text, byte by byte: question 13. A text is refused, or gives the contents of its fields.
use Rattle.std.specs.Prelude.{ℕ, suc, cond, List, [], ◌∷◌, eqb}
use Rattle.model.specs.Bytes.{Text, lf, cr, quote, comma}
use Rattle.model.specs.Csv.{text_data, quotable}
use Rattle.model.specs.Answer.{Outcome, passed, refused, ◌>>=◌}
use Rattle.model.specs.declared.Refusal.TheVariants.{Csv}

-- records of fields
abbrev pub Records : Type 0
Records = List (List Text)

-- where the reading stands
pub data State : Type 0 where
  -- before a record, or at the end of the text
  start : State
  -- behind a comma
  field : State
  -- in a bare field
  inside : State
  -- in quotes
  quoting : State
  -- behind a quote that ends the field, or is the first of two
  closing : State
  -- behind the CR of a line's end
  ending : State

-- what a byte does: it is the field's next one; it only leads to another state; it ends a field; with the CR before it, it ends
-- a record; or no allowed text has it there
pub data Move : Type 0 where
  adds : State → Move
  leads : State → Move
  ends_field : Move
  ends_record : Move
  stops : Move

-- behind a whole field; in a bare field, or before one
unfoldable pub move_behind : ℕ → Move
move_behind b = cond (eqb b comma) ends_field (cond (eqb b cr) (leads ending) stops)

unfoldable pub move_bare : ℕ → Move
move_bare b = cond (text_data b) (adds inside) (move_behind b)

unfoldable pub move_first : ℕ → Move
move_first b = cond (eqb b quote) (leads quoting) (move_bare b)

unfoldable pub move : State → ℕ → Move
move start b = move_first b
move field b = move_first b
move inside b = move_bare b
move quoting b = cond (eqb b quote) (leads closing) (cond (quotable b) (adds quoting) stops)
move closing b = cond (eqb b quote) (adds quoting) (move_behind b)
move ending b = cond (eqb b lf) ends_record stops

-- the first field with one byte more in front; the first record with an empty field more in front
unfoldable pub add_byte : ℕ → Records → Records
add_byte b [] = []
add_byte b ([] ∷ rs) = [] ∷ rs
add_byte b ((f ∷ fs) ∷ rs) = ((b ∷ f) ∷ fs) ∷ rs

unfoldable pub add_field : Records → Records
add_field [] = []
add_field (r ∷ rs) = ([] ∷ r) ∷ rs

-- one record with one empty field, and others
unfoldable pub add_record : Records → Records
add_record rs = ([] ∷ []) ∷ rs

-- what comes of the text's end at a place, in each state
unfoldable pub at_end : State → ℕ → Outcome Records
at_end start p = passed []
at_end field p = passed (add_record [])
at_end inside p = passed (add_record [])
at_end quoting p = refused Csv p
at_end closing p = passed (add_record [])
at_end ending p = refused Csv p

-- what comes of a byte at a place and of the rest, which is read from the state that the byte leads to
unfoldable pub follow : Move → ℕ → ℕ → (State → Outcome Records) → Outcome Records
follow (adds s) b p rest = do
  rs ← rest s
  passed (add_byte b rs)
follow (leads s) b p rest = rest s
follow ends_field b p rest = do
  rs ← rest field
  passed (add_field rs)
follow ends_record b p rest = do
  rs ← rest start
  passed (add_record rs)
follow stops b p rest = refused Csv p

-- the records of the part of a text from a place on. Its first field is the rest of the field at hand
unfoldable pub read_from : State → ℕ → Text → Outcome Records
read_from s p [] = at_end s p
read_from s p (b ∷ t) = follow (move s b) b p (λ next. read_from next (suc p) t)

-- question 13
unfoldable pub read_csv : Text → Outcome Records
read_csv t = read_from start 0 t

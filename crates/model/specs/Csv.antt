-- Comma-separated text, as RFC 4180 has it, with no header: fields, records, and how they are spelled.
use Rattle.std.specs.Prelude.{ℕ, ◌≡◌, Bool, true, not, cond, ◌&&◌, ◌||◌, List, [], ◌∷◌, ◌++◌, map, length, leb, eqb}
use Rattle.model.specs.Bytes.{Text, lf, cr, quote, comma}
use Rattle.model.specs.Lists.{all, gather}

-- what the RFC calls TEXTDATA: bytes 32 to 126 but the quote and the comma
unfoldable pub text_data : ℕ → Bool
text_data b = leb 32 b && leb b 126 && not (eqb b quote) && not (eqb b comma)

-- what a field in quotes can hold: these, commas, CR, LF and quotes
unfoldable pub quotable : ℕ → Bool
quotable b = text_data b || eqb b comma || eqb b cr || eqb b lf || eqb b quote

-- a field as it is spelled, with its content: bare, or in quotes
pub data Field : Type 0 where
  bare : Text → Field
  quoted : Text → Field

unfoldable pub content : Field → Text
content (bare t) = t
content (quoted t) = t

unfoldable pub good_field : Field → Bool
good_field (bare t) = all text_data t
good_field (quoted t) = all quotable t

-- inside quotes a quote is written twice
unfoldable pub doubled : Text → Text
doubled t = gather (λ b. cond (eqb b quote) (quote ∷ quote ∷ []) (b ∷ [])) t

unfoldable pub spell_field : Field → Text
spell_field (bare t) = t
spell_field (quoted t) = quote ∷ doubled t ++ quote ∷ []

-- a record has a first field, and more of them, each behind a comma
unfoldable pub spell_record : Field → List Field → Text
spell_record f fs = spell_field f ++ gather (λ g. comma ∷ spell_field g) fs

-- the records of a text: none; a last one that ends with the text; or one with CRLF behind it, and the others
pub data Lines : Type 0 where
  none : Lines
  last : Field → List Field → Lines
  line : Field → List Field → Lines → Lines

unfoldable pub spell : Lines → Text
spell none = []
spell (last f fs) = spell_record f fs
spell (line f fs ls) = spell_record f fs ++ cr ∷ lf ∷ spell ls

-- a record that ends with the text is spelled with at least one byte, since the empty text has none
unfoldable pub good_lines : Lines → Bool
good_lines none = true
good_lines (last f fs) = all good_field (f ∷ fs) && leb 1 (length (spell_record f fs))
good_lines (line f fs ls) = all good_field (f ∷ fs) && good_lines ls

-- the contents of the fields, record by record
unfoldable pub contents : Lines → List (List Text)
contents none = []
contents (last f fs) = map content (f ∷ fs) ∷ []
contents (line f fs ls) = map content (f ∷ fs) ∷ contents ls

-- a text is allowed; it begins an allowed text
unfoldable pub Allowed : Text → Type 0
Allowed t = (ls : Lines) × (good_lines ls ≡ true) × (spell ls ≡ t)

unfoldable pub Begins : Text → Type 0
Begins t = (rest : Text) × Allowed (t ++ rest)

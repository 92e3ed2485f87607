-- What a line gives to the calls below it.
use Rattle.std.specs.Prelude.{◌≡◌, ◌<◌, ◌+◌, ℕ, zero, suc, ℤ, Bool, true, false, cond, eqb, leb, List, [], ◌∷◌, ◌++◌, length, min, take, drop, replicate, Option, Some, None}
use Rattle.model.specs.Bytes.{Text}
use Rattle.model.specs.Answer.{Outcome, passed, refused}
use Rattle.model.specs.TptpReading.{Got, natural, integer}
use Rattle.cases.specs.declared.given.TheConstants.{MARK}
use Rattle.cases.specs.declared.given.List.{List as GivenList}
use Rattle.cases.specs.declared.given.List.TheVariants.{Unread, Read}

-- the index of the first byte that is not above `last`: the text's length, if there is none
unfoldable pub first : (last : ℕ) → Text → ℕ
first last [] = 0
first last (b ∷ bs) = cond (leb b last) 0 (suc (first last bs))

-- what stands before an index of a text, and what stands behind it
abbrev pub Parted : (text : Text) (i : ℕ) (before behind : Text) → Type 0
Parted text i before behind = (i < length text) × (before ≡ take i text) × (behind ≡ drop (i + 1) text)

-- a length that is read, if there is room for so much: else 0
unfoldable pub within : (room : ℕ) → Outcome (Got ℕ) → ℕ
within room (refused q p) = 0
within room (passed g) = cond (leb g.what room) g.what 0

-- the length that a text begins with, if its mark stands there
unfoldable pub announced : (room : ℕ) → Text → Option ℕ
announced room [] = None
announced room (b ∷ bs) = cond (eqb b MARK) (Some (within room (natural bs 0))) None

-- a number that is read, and those behind it; or none
unfoldable pub followed : Outcome (Got ℤ) → (Text → ℕ → List ℤ) → List ℤ
followed (refused q p) behind = []
followed (passed g) behind = g.what ∷ behind g.rest g.at

-- the numbers that stand in a text one behind another, from a place on: at most so many, and up to the first that is none
unfoldable pub numbers : (room : ℕ) → Text → ℕ → List ℤ
numbers zero text p = []
numbers (suc room) text p = followed (integer text p) (λ rest q. numbers room rest q)

module _ {A : Type 0} where
  -- so many of a filler where there is a length, else others
  unfoldable pub filled : Option ℕ → (filler : A) → (others : List A) → List A
  filled (Some n) filler others = replicate n filler
  filled None filler others = others

-- the words that a text gives to a slice of so many words
unfoldable pub words_of : Text → (filler : ℤ) → (room : ℕ) → List ℤ
words_of text filler room = filled (announced room text) filler (numbers room text 0)

-- a list is given from the front of a text
abbrev pub IsFrom : Text → GivenList → Type 0
IsFrom text (Unread part) = part.now ≡ text
IsFrom text (Read n) = ⊥

-- the words of a list are read to the front of a slice, or they are as many as were read to there before, and stand there
abbrev pub Held : GivenList → (filler : ℤ) → (old new : List ℤ) → (n : ℕ) → Type 0
Held (Unread text) filler old new n =
    (n ≡ length (words_of text.now filler (length old))) × (new ≡ words_of text.now filler (length old) ++ drop n old)
Held (Read read) filler old new n = (n ≡ min read (length old)) × (new ≡ old)

-- what a byte means, behind a backslash or behind none
abbrev pub meant : Bool → ℕ → ℕ
meant false b = b
meant true b = cond (eqb b 114) 13 (cond (eqb b 110) 10 (cond (eqb b 116) 9 32))

-- the bytes of the first line of a text, the first of them behind a backslash, or behind none
unfoldable pub line_bytes : Bool → List ℕ → List ℕ
line_bytes escaped [] = []
line_bytes escaped (b ∷ bs) = cond (eqb b 10) [] (cond (eqb b 92) (line_bytes true bs) (meant escaped b ∷ line_bytes false bs))

-- the bytes that a text gives to a slice of so many bytes
unfoldable pub bytes_of : Text → (room : ℕ) → List ℕ
bytes_of text room = filled (announced room text) 7 (take room (line_bytes false text))

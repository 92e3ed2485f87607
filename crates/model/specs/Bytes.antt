-- Texts, and the bytes in them that mean something. A text is the contents of a slice of bytes, a list of numbers below 256.
use Rattle.std.specs.Prelude.{ℕ, Bool, ◌&&◌, ◌||◌, List, [], ◌∷◌, leb, eqb}
use Prim.Native.Char.{code}
use Prim.Native.String as S

abbrev pub Text : Type 0
Text = List ℕ

-- the bytes of a text whose characters are ASCII
unfoldable pub bytes : S.String → Text
bytes S.[] = []
bytes (S.◌∷◌ c s) = code c ∷ bytes s

-- line feed and carriage return
abbrev pub lf : ℕ
lf = 10

abbrev pub cr : ℕ
cr = 13

abbrev pub quote : ℕ
quote = 34

abbrev pub comma : ℕ
comma = 44

abbrev pub minus : ℕ
minus = 45

abbrev pub ampersand : ℕ
ampersand = 38

abbrev pub bar : ℕ
bar = 124

abbrev pub tilde : ℕ
tilde = 126

abbrev pub dollar : ℕ
dollar = 36

abbrev pub exclamation : ℕ
exclamation = 33

abbrev pub interrogation : ℕ
interrogation = 63

-- an opening parenthesis
abbrev pub parenthesis : ℕ
parenthesis = 40

abbrev pub letter_p : ℕ
letter_p = 112

abbrev pub letter_x : ℕ
letter_x = 88

abbrev pub letter_t : ℕ
letter_t = 116

abbrev pub letter_f : ℕ
letter_f = 102

-- the digit 0; those up to 9 follow it
abbrev pub nought : ℕ
nought = 48

unfoldable pub digit : ℕ → Bool
digit b = leb nought b && leb b 57

-- what may stand around the tokens of a text: blanks and line ends
unfoldable pub blank : ℕ → Bool
blank b = eqb b 32 || eqb b lf || eqb b cr

unfoldable pub small : ℕ → Bool
small b = leb 97 b && leb b 122

unfoldable pub capital : ℕ → Bool
capital b = leb 65 b && leb b 90

-- a letter, a digit or an underscore
unfoldable pub word_byte : ℕ → Bool
word_byte b = small b || capital b || digit b || eqb b 95

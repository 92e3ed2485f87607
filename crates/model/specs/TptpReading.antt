-- The reading of policies in the TPTP typed form, front to back: question 15, and question 4 for parentheses. A text is refused, or
-- gives its tree.
use Rattle.std.specs.Prelude.{ℕ, zero, suc, ◌+◌, ◌*◌, ◌-◌, Bool, true, false, not, cond, ◌&&◌, List, [], ◌∷◌, length, drop, leb, eqb, ℤ, pos, neg_ℤ}
use Rattle.model.specs.Bytes.{Text, bytes, blank, digit, small, word_byte, nought, minus, comma, ampersand, bar, tilde, dollar}
use Rattle.model.specs.Bytes.{exclamation, interrogation, parenthesis}
use Rattle.model.specs.Bytes.{letter_p, letter_x, letter_t, letter_f}
use Rattle.model.specs.Answer.{Outcome, passed, refused}
use Rattle.model.specs.Tree.{Term, constant, variable, Tree, Trees, plain, atom, compare, join, quantifier, some, nil, cons}
use Rattle.model.specs.Tptp.{greatest_number, parenthesis_limit, variable_token, is_join}
use Rattle.model.specs.declared.Refusal.TheVariants.{Level, Tptp}

-- what was read, the rest of the text, and its place
pub record Got (A : Type 0) : Type 0 where
  pub what : A
  pub rest : Text
  pub at : ℕ

-- a reading of the text from a place on
abbrev pub Reader : (type : Type 0) → Type 0
Reader A = Text → ℕ → Outcome (Got A)

module _ {A : Type 0} where
  -- nothing is read
  unfoldable pub give : A → Reader A
  give a text p = passed (record { what = a; rest = text; at = p })

  -- no allowed text goes on like this
  unfoldable pub stop : Reader A
  stop text p = refused Tptp p

module _ {A B : Type 0} where
  -- one reading, and the next behind it
  unfoldable pub onwards : Outcome (Got A) → (A → Reader B) → Outcome (Got B)
  onwards (refused q p) next = refused q p
  onwards (passed g) next = next g.what g.rest g.at

  infixl 20 ◌>>=◌
  unfoldable pub ◌>>=◌ : Reader A → (A → Reader B) → Reader B
  (reader >>= next) text p = onwards (reader text p) next

-- blanks, as many as there are
unfoldable pub blanks : Reader (Unit {0})
blanks [] p = passed (record { what = tt; rest = []; at = p })
blanks (b ∷ t) p = cond (blank b) (blanks t (suc p)) (passed (record { what = tt; rest = b ∷ t; at = p }))

-- the next byte, which is not passed
unfoldable pub peek : Reader ℕ
peek [] p = refused Tptp p
peek (b ∷ t) p = passed (record { what = b; rest = b ∷ t; at = p })

-- these bytes
unfoldable pub literal : Text → Reader (Unit {0})
literal [] text p = passed (record { what = tt; rest = text; at = p })
literal (c ∷ cs) [] p = refused Tptp p
literal (c ∷ cs) (b ∷ t) p = cond (eqb b c) (literal cs t (suc p)) (refused Tptp p)

-- the first byte of the next token, which is not passed; this token
unfoldable pub look : Reader ℕ
look = do
  _ ← blanks
  peek

unfoldable pub token : Text → Reader (Unit {0})
token word = do
  _ ← blanks
  literal word

-- further digits of a number, up to `most`: none behind a 0 in front
unfoldable pub more_digits : ℕ → ℕ → Reader ℕ
more_digits most n [] p = passed (record { what = n; rest = []; at = p })
more_digits most n (b ∷ t) p =
    let raised = 10 * n + (b - nought) in
    cond (digit b)
    (cond (leb 1 n && leb raised most) (more_digits most raised t (suc p)) (refused Tptp p))
    (passed (record { what = n; rest = b ∷ t; at = p }))

-- digits whose first passes a test
unfoldable pub number : (ℕ → Bool) → ℕ → Reader ℕ
number test most [] p = refused Tptp p
number test most (b ∷ t) p = cond (test b) (more_digits most (b - nought) t (suc p)) (refused Tptp p)

-- the number of a predicate or a variable; a number with its minus
unfoldable pub natural : Reader ℕ
natural = number digit greatest_number

unfoldable pub integer : Reader ℤ
integer = do
  b ← look
  cond (eqb b minus)
      (do
        _ ← literal (minus ∷ [])
        n ← number (λ c. digit c && not (eqb c nought)) 2147483648
        give (neg_ℤ (pos n)))
      (do
        n ← natural
        give (pos n))

-- a lower word
unfoldable pub word_bytes : Reader (Unit {0})
word_bytes [] p = passed (record { what = tt; rest = []; at = p })
word_bytes (b ∷ t) p = cond (word_byte b) (word_bytes t (suc p)) (passed (record { what = tt; rest = b ∷ t; at = p }))

unfoldable pub name : Reader (Unit {0})
name = do
  b ← look
  cond (small b) word_bytes stop

-- an opening parenthesis, with room for so many more
unfoldable pub opening : ℕ → Reader (Unit {0})
opening zero = do
  b ← look
  cond (eqb b parenthesis) (λ text p. refused Level p) stop
opening (suc room) = token (bytes "(")

module _ {A : Type 0} where
  -- at most n more, each behind a byte
  unfoldable pub up_to : ℕ → ℕ → Reader A → Reader (List A)
  up_to zero c one = give []
  up_to (suc n) c one = do
    b ← look
    cond (eqb b c)
        (do
          _ ← token (c ∷ [])
          x ← one
          xs ← up_to n c one
          give (x ∷ xs))
        (give [])

  -- as many as there are: each takes a byte at least
  unfoldable pub more : ℕ → Reader A → Reader (List A)
  more c one text p = up_to (length text) c one text p

unfoldable pub term : Reader Term
term = do
  b ← look
  cond (eqb b letter_x)
      (do
        _ ← token (bytes "X")
        x ← natural
        give (variable x))
      (do
        k ← integer
        give (constant k))

-- one to six terms
unfoldable pub terms : Reader (List Term)
terms = do
  t ← term
  ts ← up_to 5 comma term
  give (t ∷ ts)

-- the atom of a predicate: it holds (true), or fails
unfoldable pub read_atom : ℕ → Bool → Reader Tree
read_atom room b = do
  _ ← token (bytes "p")
  p ← natural
  _ ← opening room
  ts ← terms
  _ ← token (bytes ")")
  give (atom b p ts)

-- behind the name of the comparison
unfoldable pub read_compare : ℕ → Bool → Reader Tree
read_compare room b = do
  _ ← opening room
  _ ← token (bytes "$sum")
  _ ← opening (room - 1)
  x ← term
  _ ← token (bytes ",")
  d ← integer
  _ ← token (bytes ")")
  _ ← token (bytes ",")
  y ← term
  _ ← token (bytes ")")
  give (compare b d x y)

-- plain true or false, or a comparison
unfoldable pub read_dollar : ℕ → Reader Tree
read_dollar room = do
  _ ← token (bytes "$")
  b ← peek
  cond (eqb b letter_t)
      (do
        _ ← literal (bytes "true")
        give (plain true))
      (cond (eqb b letter_f)
      (do
        _ ← literal (bytes "false")
        give (plain false))
      (do
        _ ← literal (bytes "lesseq")
        read_compare room true))

-- a negated atom or comparison
unfoldable pub read_negated : ℕ → Reader Tree
read_negated room = do
  _ ← token (bytes "~")
  b ← look
  cond (eqb b letter_p)
      (read_atom room false)
      (do
        _ ← token (bytes "$lesseq")
        read_compare room false)

-- a variable and its type
unfoldable pub declaration : ℕ → Reader (Unit {0})
declaration x = do
  _ ← token (variable_token x)
  _ ← token (bytes ":")
  token (bytes "$int")

-- the variables of a binder from x on, at most `most` and one: how many
unfoldable pub variables : ℕ → ℕ → Reader ℕ
variables zero x = do
  _ ← declaration x
  give 1
variables (suc most) x = do
  _ ← declaration x
  b ← look
  cond (eqb b comma)
      (do
        _ ← token (bytes ",")
        v ← variables most (suc x)
        give (suc v))
      (give 1)

-- a binder of at most `most` and one variables, from x on
unfoldable pub read_binder : ℕ → ℕ → Reader ℕ
read_binder most x = do
  _ ← token (bytes "[")
  v ← variables most x
  _ ← token (bytes "]")
  _ ← token (bytes ":")
  give v

-- a variable and a number that it is unequal to
unfoldable pub unequal : ℕ → Reader ℤ
unequal x = do
  _ ← token (variable_token x)
  _ ← token (bytes "!=")
  integer

-- n and one variables from x on, and their numbers
unfoldable pub read_unequals : ℕ → ℕ → Reader (List ℤ)
read_unequals zero x = do
  k ← unequal x
  give (k ∷ [])
read_unequals (suc n) x = do
  k ← unequal x
  _ ← token (bytes "|")
  ks ← read_unequals n (suc x)
  give (k ∷ ks)

-- an excluded tuple of v variables from x on
unfoldable pub read_tuple : ℕ → ℕ → ℕ → Reader (List ℤ)
read_tuple room v x =
    cond (eqb v 1)
    (read_unequals 0 x)
    (do
      _ ← opening room
      ks ← read_unequals (v - 1) x
      _ ← token (bytes ")")
      give ks)

-- a text behind its blanks; it begins with this byte
unfoldable pub behind_blanks : Text → Text
behind_blanks [] = []
behind_blanks (b ∷ t) = cond (blank b) (behind_blanks t) (b ∷ t)

unfoldable pub begins_with : ℕ → Text → Bool
begins_with c [] = false
begins_with c (b ∷ t) = eqb b c

-- behind blanks a text begins with an excluded tuple of v variables; with the connective before one
unfoldable pub begins_tuple : ℕ → Text → Bool
begins_tuple v text =
    let t = behind_blanks text in
    cond (eqb v 1) (begins_with letter_x t) (begins_with parenthesis t && begins_with letter_x (behind_blanks (drop 1 t)))

unfoldable pub begins_excluding : ℕ → Text → Bool
begins_excluding v text = let t = behind_blanks text in begins_with ampersand t && begins_tuple v (drop 1 t)

unfoldable pub trees : List Tree → Trees
trees [] = nil
trees (t ∷ ts) = cons t (trees ts)

-- the further operands of an all-of or any-of, behind its first; without any comes what `alone` says
unfoldable pub joining : Reader Tree → Tree → Reader Tree → Reader Tree
joining alone first one = do
  b ← look
  cond (eqb b ampersand)
      (do
        ts ← more ampersand one
        give (join true (cons first (trees ts))))
      (cond (eqb b bar)
      (do
        ts ← more bar one
        give (join false (cons first (trees ts))))
      alone)

-- an all-of or any-of with no parentheses around it, or an operand that is none
unfoldable pub whole : Reader Tree → Reader Tree
whole one = do
  first ← one
  joining (cond (is_join first) stop (give first)) first one

-- a restriction and its excluded tuples
pub record Restricted : Type 0 where
  pub restriction : Tree
  pub excluded : List (List ℤ)

-- what can be read with room for so many more parentheses, of formulas (true) and restrictions with so many variables in scope:
-- an operand; and the restriction of a quantifier of v variables from x on
pub record Readers : Type 0 where
  pub operand : Bool → ℕ → Reader Tree
  pub restriction : ℕ → ℕ → Reader Restricted

-- all of these: `below` reads behind one parenthesis more
module _ (room : ℕ) (below : Readers) where
  unfoldable pub read_quantifier : Bool → ℕ → Reader Tree
  read_quantifier b scope = do
    _ ← token (cond b (bytes "!") (bytes "?"))
    v ← read_binder 3 scope
    _ ← opening room
    c ← below.restriction v scope
    _ ← token (cond b (bytes "=>") (bytes "&"))
    f ← below.operand true (scope + v)
    _ ← token (bytes ")")
    give (quantifier b v c.excluded c.restriction f)

  unfoldable pub read_some : ℕ → Reader Tree
  read_some scope = do
    _ ← token (bytes "?")
    _ ← read_binder 0 scope
    _ ← opening room
    c ← whole (below.operand false (scope + 1))
    _ ← token (bytes ")")
    give (some c)

  -- an all-of or any-of in parentheses
  unfoldable pub read_join : Bool → ℕ → Reader Tree
  read_join formula scope = do
    let one = below.operand formula scope
    _ ← opening room
    first ← one
    t ← joining stop first one
    _ ← token (bytes ")")
    give t

  unfoldable pub read_operand : Bool → ℕ → Reader Tree
  read_operand formula scope = do
    b ← look
    cond (eqb b dollar)
        (read_dollar room)
        (cond (eqb b letter_p)
        (read_atom room true)
        (cond (eqb b tilde)
        (read_negated room)
        (cond (eqb b parenthesis)
        (read_join formula scope)
        (cond (eqb b interrogation)
        (cond formula (read_quantifier false scope) (read_some scope))
        (cond (eqb b exclamation && formula) (read_quantifier true scope) stop)))))

  -- behind a restriction in parentheses of their own: its excluded tuples; or the further operands of an all-of or any-of
  unfoldable pub excluding : Tree → Reader Tree → ℕ → ℕ → Reader Restricted
  excluding first one v x text p =
      cond (begins_excluding v text)
      ((do
        tuples ← more ampersand (read_tuple (room - 1) v x)
        give (record { restriction = first; excluded = tuples })) text p)
      ((do
        c ← joining stop first one
        give (record { restriction = c; excluded = [] })) text p)

  unfoldable pub read_restriction : ℕ → ℕ → Reader Restricted
  read_restriction v x = do
    let one = below.operand false (x + v)
    b ← look
    cond (eqb b parenthesis)
        (do
          _ ← opening room
          first ← one
          r ← excluding first one v x
          _ ← token (bytes ")")
          give r)
        (do
          c ← read_operand false (x + v)
          give (record { restriction = c; excluded = [] }))

-- behind the last parenthesis that has room nothing can be read
unfoldable pub no_readers : Readers
no_readers = record { operand = λ formula scope. stop; restriction = λ v x. stop }

unfoldable pub readers : ℕ → Readers
readers zero = record { operand = read_operand zero no_readers; restriction = read_restriction zero no_readers }
readers (suc room) =
    record { operand = read_operand (suc room) (readers room); restriction = read_restriction (suc room) (readers room) }

-- the end of a text
unfoldable pub ending : Reader (Unit {0})
ending [] p = passed (record { what = tt; rest = []; at = p })
ending (b ∷ t) p = refused Tptp p

-- a whole text, with room for so many parentheses behind the first
unfoldable pub read_whole : ℕ → Reader Tree
read_whole room = do
  _ ← token (bytes "tff")
  _ ← token (bytes "(")
  _ ← name
  _ ← token (bytes ",")
  _ ← token (bytes "axiom")
  _ ← token (bytes ",")
  t ← whole ((readers room).operand true 0)
  _ ← token (bytes ")")
  _ ← token (bytes ".")
  _ ← blanks
  _ ← ending
  give t

unfoldable pub tree_of : Outcome (Got Tree) → Outcome Tree
tree_of (refused q p) = refused q p
tree_of (passed g) = passed g.what

-- questions 15 and 4 of a text: its tree
unfoldable pub read_tptp : ℕ → Text → Outcome Tree
read_tptp room text = tree_of (read_whole room text 0)

unfoldable pub read_text : Text → Outcome Tree
read_text text = read_tptp (parenthesis_limit - 1) text

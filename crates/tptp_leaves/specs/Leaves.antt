-- What the reading of nodes with none below them comes to.
use Rattle.std.specs.Prelude.{ℕ, ◌≤◌, ◌≡◌, Bool, true, false, cond, length, take, eqb, slice_get, Some}
use Rattle.model.specs.Words.{Words}
use Rattle.model.specs.Bytes.{Text, bytes, blank, dollar, tilde, letter_p, letter_t, letter_f}
use Rattle.model.specs.Tree.{Tree, plain, atom, compare, join, quantifier, some, encode}
use Rattle.model.specs.TptpReading.{Reader, give, stop, look, peek, token, literal, read_atom, read_compare, read_dollar, read_negated, ◌>>=◌}

-- no blank stands in front
abbrev pub Unblank : (text : Text) → Type 0
Unblank text = (b : ℕ) → slice_get text 0 ≡ Some b → blank b ≡ false

-- a node has none below it
abbrev pub is_leaf : (tree : Tree) → Bool
is_leaf (plain b) = true
is_leaf (atom b p ts) = true
is_leaf (compare b d x y) = true
is_leaf (join b ts) = false
is_leaf (quantifier b v excluded c f) = false
is_leaf (some c) = false

-- such a node, whose words, at most fifteen, stand in front
pub record LeafStands (own : Words) (tree : Tree) : Type 0 where
  pub leaf : is_leaf tree ≡ true
  pub most : length (encode tree) ≤ 15
  pub words : take (length (encode tree)) own ≡ encode tree

-- plain true or false, by these bytes
abbrev pub read_plain : (word : Text) (b : Bool) → Reader Tree
read_plain word b = do
  _ ← literal word
  give (plain b)

-- what stands behind a dollar, and behind a negation
abbrev pub behind_dollar : (room : ℕ) → Reader Tree
behind_dollar room = do
  b ← peek
  cond (eqb b letter_t)
      (read_plain (bytes "true") true)
      (cond (eqb b letter_f)
      (read_plain (bytes "false") false)
      (do
        _ ← literal (bytes "lesseq")
        read_compare room true))

abbrev pub behind_negation : (room : ℕ) → Reader Tree
behind_negation room = do
  b ← look
  cond (eqb b letter_p)
      (read_atom room false)
      (do
        _ ← token (bytes "$lesseq")
        read_compare room false)

-- a node with none below it
abbrev pub read_leaf : (room : ℕ) → Reader Tree
read_leaf room = do
  b ← look
  cond (eqb b dollar)
      (read_dollar room)
      (cond (eqb b letter_p) (read_atom room true) (cond (eqb b tilde) (read_negated room) stop))

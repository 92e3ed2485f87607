-- Nodes that stand in words, their texts, and what the writing of them leaves.
use Rattle.std.specs.Prelude.{ℕ, ◌+◌, ◌≡◌, Bool, cond, map, Option, Some, None}
use Rattle.model.specs.Words.{Words, word, value}
use Rattle.model.specs.Bytes.{Text}
use Rattle.model.specs.Tree.{Tree, Trees, atom, compare, count}
use Rattle.model.specs.Level.{Role}
use Rattle.model.specs.Reading.{places, term_at}
use Rattle.model.specs.Tptp.{separated, connective, enclosed, tokens, operands}
use Rattle.laws.specs.Reading.Nodes.{Node, Nodes}
use Rattle.text.specs.Adds.{Adds}
use Rattle.text.specs.declared.writer.Writer.{Writer}
use Rattle.tptp_putting.specs.Texts.{spelt}

-- a node stands at an index, under a node at the level `above`, for some table and in some role
pub record Printable (words : Words) (above scope at : ℕ) : Type 0 where
  pub table : Words
  pub role : Role
  pub tree : Tree
  pub next : ℕ
  pub node : Node table words role above scope at tree next

-- n nodes stand one behind another
pub record PrintableAll (words : Words) (above scope n at : ℕ) : Type 0 where
  pub table : Words
  pub role : Role
  pub trees : Trees
  pub next : ℕ
  pub number : count trees ≡ n
  pub nodes : Nodes table words role above scope at trees next

-- the atom and the comparison at an index
unfoldable pub atom_at : Words → Bool → ℕ → Tree
atom_at words holds at = atom holds (value words (at + 1)) (map (term_at words) (places (at + 3) (value words (at + 2))))

unfoldable pub compare_at : Words → Bool → ℕ → Tree
compare_at words holds at = compare holds (word words (at + 1)) (term_at words (at + 2)) (term_at words (at + 4))

-- the text of a tree, bare or where an all-of or any-of stands in parentheses; the text of operands
unfoldable pub node_text : Bool → Tree → ℕ → Text
node_text bare tree scope = spelt (cond bare (tokens tree scope) (enclosed tree (tokens tree scope)))

unfoldable pub operands_text : Bool → Trees → ℕ → Text
operands_text every ts scope = spelt (separated (connective every) (operands ts scope))

-- a writer has put the text of nodes that end before the word `next`, and this was found, or there was too little room to go on
pub record Prints (text : Text) (next : ℕ) (w w' : Writer) (r : Option ℕ) : Type 0 where
  pub adds : Adds text w w'
  pub found : (n : ℕ) → r ≡ Some n → n ≡ next
  pub full : r ≡ None → w'.put ≡ None

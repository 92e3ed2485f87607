-- Whether a restriction is closed, as its words tell it node by node.
use Rattle.std.specs.Prelude.{ℕ, ◌+◌, ◌≡◌, Bool, true}
use Rattle.model.specs.Words.{Words, value}
use Rattle.model.specs.Table.{complete}
use Rattle.model.specs.Tag.{Tag}
use Rattle.model.specs.Tree.{Tree}
use Rattle.model.specs.Level.{restriction}
use Rattle.model.specs.Reduction.{closed}
use Rattle.laws.specs.Reading.Nodes.{Node}

-- the predicate of the node at an index is complete, if the node is an atom
unfoldable pub complete_at : Words → Words → Tag → ℕ → Bool
complete_at table words (Tag.plain b) at = true
complete_at table words (Tag.atom b) at = complete table (value words (at + 1))
complete_at table words (Tag.compare b) at = true
complete_at table words (Tag.join b) at = true
complete_at table words (Tag.quantifier b) at = true
complete_at table words Tag.some at = true
complete_at table words Tag.unused at = true

-- r says whether the restriction at an index is closed
abbrev pub TellsClosed : (table words : Words) (at : ℕ) (r : Bool) → Type 0
TellsClosed table words at r =
    (above scope : ℕ) (c : Tree) (next : ℕ) →
    Node table words restriction above scope at c next →
    r ≡ closed c table

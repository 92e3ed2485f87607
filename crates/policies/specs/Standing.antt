-- What stands at an index of a policy's words: a node, nodes one behind another, the own words of an atom, its terms.
use Rattle.std.specs.Prelude.{ℕ, ◌+◌, ◌*◌, ◌^◌, ◌≤◌, ◌<◌, ◌≡◌, true, List, map}
use Rattle.model.specs.Words.{Words, value}
use Rattle.model.specs.Lists.{all}
use Rattle.model.specs.Level.{Role}
use Rattle.model.specs.Tree.{Term, Tree, Trees, count}
use Rattle.model.specs.Reading.{places, term_at, in_scope}
use Rattle.laws.specs.Reading.Nodes.{Node, Nodes}

-- the n terms from an index on
unfoldable pub terms_at : Words → ℕ → ℕ → List Term
terms_at words first n = map (term_at words) (places first n)

-- a node stands at a place; nodes stand there; an atom's own words stand there; its terms
abbrev pub Here : (table words : Words) (role : Role) (above scope at : ℕ) → Type 0
Here table words role above scope at = (tree : Tree) × (next : ℕ) × Node table words role above scope at tree next

abbrev pub HereAll : (table words : Words) (role : Role) (above scope n at : ℕ) → Type 0
HereAll table words role above scope n at =
    (ts : Trees) × (next : ℕ) × (count ts ≡ n) × Nodes table words role above scope at ts next

abbrev pub HereAtom : (words : Words) (at : ℕ) → Type 0
HereAtom words at =
    (value words (at + 1) < 256)
    × (value words (at + 2) ≤ 6)
    × (at + 3 + 2 * value words (at + 2) < 2 ^ 64)
    × (all (in_scope words 16) (places (at + 3) (value words (at + 2))) ≡ true)

abbrev pub HereTerms : (words : Words) (at : ℕ) → Type 0
HereTerms words at =
    (value words (at + 2) ≤ 6)
    × (at + 3 + 2 * value words (at + 2) < 2 ^ 64)
    × (all (in_scope words 16) (places (at + 3) (value words (at + 2))) ≡ true)

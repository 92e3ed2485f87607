-- What the preparing of a quantifier says: its instances stand in scratch, or the places ran out.
use Rattle.std.specs.Prelude.{ℕ, ◌+◌, ◌≤◌, ◌<◌, ◌≡◌, List, [], ◌∷◌, map, ℤ, Option, Some, None}
use Rattle.model.specs.Words.{Words, value}
use Rattle.model.specs.Log.{rows}
use Rattle.model.specs.Tree.{Tree}
use Rattle.model.specs.Listing.{outer, list, entries}
use Rattle.model.specs.Reduction.{fresh, tuple}
use Rattle.laws.specs.Reading.Items.{tuples}
use Rattle.nodes.specs.declared.prepare.Placed.{Placed}
use Rattle.nodes.specs.Last.{Found}

-- the instances of the quantifier at an index whose restriction is c: v variables, and the excluded tuples in its words
abbrev pub instances_at : (table words log : Words) (scope v at : ℕ) (c : Tree) (ρ : List ℤ) → List (List ℤ)
instances_at table words log scope v at c ρ =
    fresh (tuples words v (at + 3) (value words (at + 2))) (map (tuple scope v) (list table (rows log) c (scope + v) (outer ρ ∷ [])))

-- the places that its lists need, with that of the outer environment
abbrev pub listed : (table log : Words) (scope v : ℕ) (c : Tree) (ρ : List ℤ) → ℕ
listed table log scope v c ρ = 1 + entries table (rows log) c (scope + v) (outer ρ ∷ [])

pub record InstancesStand (table words log : Words) (scope v at : ℕ) (c : Tree) (ρ : List ℤ) (body places : ℕ) (after : Words) (p : Placed) : Type 0 where
  pub counted : p.used ≡ listed table log scope v c ρ
  pub fits : p.used ≤ places
  pub below : p.from + p.count ≤ p.used
  pub behind : p.body ≡ body
  pub found : Found after scope p.from v p.count (instances_at table words log scope v at c ρ)

abbrev pub InstancesTell :
    (table words log : Words) (scope v at : ℕ) (c : Tree) (ρ : List ℤ) (body places : ℕ) (after : Words) (prepared : Option Placed) → Type 0
InstancesTell table words log scope v at c ρ body places after None = places < listed table log scope v c ρ
InstancesTell table words log scope v at c ρ body places after (Some p) = InstancesStand table words log scope v at c ρ body places after p

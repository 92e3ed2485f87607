-- What the walks of formulas say: of the tree that stands at an index, its reduction and its need of places.
use Rattle.std.specs.Prelude.{ℕ, ◌<◌, ◌≡◌, Bool, List, ◌++◌, ℤ}
use Rattle.model.specs.Words.{Words}
use Rattle.model.specs.Log.{rows}
use Rattle.model.specs.Tree.{Tree, Trees, join, quantifier, count}
use Rattle.model.specs.Level.{Role, operand}
use Rattle.model.specs.Reduction as M
use Rattle.laws.specs.Reading.Nodes.{Node, Nodes}
use Rattle.environments.specs.declared.environment.Environment.{Environment}
use Rattle.joining.specs.declared.answer.Reduced.TheVariants.{Short}
use Rattle.joining.specs.declared.join.State.TheVariants as State
use Rattle.reduction.specs.declared.walk.Walked.{Walked}
use Rattle.reduction.specs.declared.walk.Worked.{Worked}
use Rattle.joining.specs.Answer.{Answers}
use Rattle.joining.specs.Join.{Joining}
use Rattle.nodes.specs.Ground.{Outer}
use Rattle.nodes.specs.Conclude.{Quantified}

-- the walk of a tree: its answer, and, unless the places ran out, the index behind the tree
pub record Reduces (table log : Words) (t : Tree) (ρ : List ℤ) (places next : ℕ) (before after : Words) (r : Walked) : Type 0 where
  pub answers : Answers places (M.need table (rows log) t ρ) (M.reduce table (rows log) t ρ) before after r.answer
  pub behind : (r.answer ≡ Short → ⊥) → r.next ≡ next

-- the formula at an index; the children of a join; a quantifier at a level
abbrev pub ReducesNode :
    (table words log : Words) (role : Role) (above scope at : ℕ) (held : Environment) (places : ℕ) (before after : Words) (r : Walked) →
    Type 0
ReducesNode table words log role above scope at held places before after r =
    (ρ : List ℤ) (t : Tree) (next : ℕ) →
    Outer held scope ρ →
    Node table words role above scope at t next →
    Reduces table log t ρ places next before after r

abbrev pub ReducesJoin :
    (b : Bool) (table words log : Words) (above scope n at : ℕ) (held : Environment) (places : ℕ) (before after : Words) (r : Walked) →
    Type 0
ReducesJoin b table words log above scope n at held places before after r =
    (ρ : List ℤ) (ts : Trees) (next : ℕ) →
    Outer held scope ρ →
    Nodes table words (operand b) above scope at ts next →
    count ts ≡ n →
    Reduces table log (join b ts) ρ places next before after r

-- a quantifier stands at an index, at a level
abbrev pub HereQuantified : (table words : Words) (b : Bool) (level scope at : ℕ) → Type 0
HereQuantified table words b level scope at =
    (v : ℕ) × (excluded : List (List ℤ)) × (c : Tree) × (f : Tree) × (next : ℕ) × Quantified table words b level scope at v excluded c f next

abbrev pub ReducesQuantifier :
    (b : Bool) (table words log : Words) (level scope at : ℕ) (held : Environment) (places : ℕ) (before after : Words) (r : Walked) →
    Type 0
ReducesQuantifier b table words log level scope at held places before after r =
    (ρ : List ℤ) (v : ℕ) (excluded : List (List ℤ)) (c f : Tree) (next : ℕ) →
    Outer held scope ρ →
    Quantified table words b level scope at v excluded c f next →
    Reduces table log (quantifier b v excluded c f) ρ places next before after r

-- the body of a quantifier at its instances: their residuals, joined so far, and the index behind the body
abbrev pub bodies : (table log : Words) (f : Tree) (ρ : List ℤ) (found : List (List ℤ)) → Trees
bodies table log f ρ found = M.each (λ τ. M.reduce table (rows log) f (ρ ++ τ)) found

abbrev pub needs : (table log : Words) (f : Tree) (ρ : List ℤ) (found : List (List ℤ)) → ℕ
needs table log f ρ found = M.most (λ τ. M.need table (rows log) f (ρ ++ τ)) found

pub record Works (b : Bool) (table log : Words) (f : Tree) (ρ : List ℤ) (found : List (List ℤ)) (places next : ℕ) (after : Words) (r : Worked) : Type 0 where
  pub short : r.join.state ≡ State.Short → places < needs table log f ρ found
  pub whole : (r.join.state ≡ State.Short → ⊥) → Joining b (bodies table log f ρ found) (needs table log f ρ found) places after r.join
  pub behind : (r.join.state ≡ State.Short → ⊥) → r.next ≡ next

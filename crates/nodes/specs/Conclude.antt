-- A quantifier at a level, and what is left of it once its bodies are joined: nothing more, or its last part.
use Rattle.std.specs.Prelude.{ℕ, ◌+◌, ◌*◌, ◌≡◌, Bool, cond, List, ◌++◌, length, ℤ}
use Rattle.model.specs.Words.{Words}
use Rattle.model.specs.Tree.{Tree, Trees, quantifier, nil, cons, encode}
use Rattle.model.specs.Level.{Role, quantifier_cost}
use Rattle.model.specs.Putting.{put}
use Rattle.model.specs.Joining.{append, joined}
use Rattle.model.specs.Reduction as M
use Rattle.laws.specs.Reading.Nodes.{Node}
use Rattle.environments.specs.declared.environment.Environment.{Environment}
use Rattle.joining.specs.declared.answer.Reduced.{Reduced}
use Rattle.joining.specs.declared.join.Join.{Join}
use Rattle.joining.specs.Answer.{Answers}
use Rattle.joining.specs.Join.{Joining}
use Rattle.nodes.specs.Ground.{Outer}
use Rattle.nodes.specs.Last.{Found}

-- a quantifier stands at an index, at a level
pub record Quantified (table words : Words) (b : Bool) (level scope at : ℕ) (v : ℕ) (excluded : List (List ℤ)) (c f : Tree) (next : ℕ) : Type 0 where
  pub role : Role
  pub above : ℕ
  pub cost : level ≡ above + quantifier_cost role b
  pub node : Node table words role above scope at (quantifier b v excluded c f) next

-- a join that has come through the bodies of the quantifier at an index, at the tuples of k places
pub record Concluding (table words scratch out : Words) (held : Environment) (scope at body next from k : ℕ) (j : Join) : Type 0 where
  pub b : Bool
  pub level : ℕ
  pub v : ℕ
  pub excluded : List (List ℤ)
  pub c : Tree
  pub f : Tree
  pub stands : Quantified table words b level scope at v excluded c f next
  pub splits : body ≡ at + 3 + v * length excluded + length (encode c)
  pub ρ : List ℤ
  pub outer : Outer held scope ρ
  pub tuples : List (List ℤ)
  pub found : Found scratch scope from v k tuples
  pub ts : Trees
  pub need : ℕ
  pub places : ℕ
  pub state : Joining b ts need places out j

-- the last part: none, if the restriction is closed
abbrev pub last_part :
    {table words scratch out : Words} {held : Environment} {scope at body next from k : ℕ} {j : Join}
    (a : Concluding table words scratch out held scope at body next from k j) → Trees
last_part {table} a =
    cond (M.closed a.c table) nil
    (cons (quantifier a.b a.v (a.excluded ++ a.tuples) (put a.c a.ρ) (put a.f a.ρ)) nil)

-- r answers with the join of the bodies and the last part
abbrev pub concluded :
    {table words scratch out : Words} {held : Environment} {scope at body next from k : ℕ} {j : Join}
    (a : Concluding table words scratch out held scope at body next from k j) (after : Words) (r : Reduced) → Type 0
concluded {out = out} a after r = Answers a.places a.need (joined a.b (append a.ts (last_part a))) out after r

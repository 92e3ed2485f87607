-- What the state of a join stands for after some reduced children, and what adding a child makes of it.
use Rattle.std.specs.Prelude.{ℕ, ◌+◌, ◌-◌, ◌≤◌, ◌<◌, max, ◌≡◌, Bool, true, false, length, take, drop}
use Rattle.model.specs.Words.{Words}
use Rattle.model.specs.Tree.{Tree, Trees, plain, atom, compare, join, quantifier, some, nil, cons, count, encode, encode_all}
use Rattle.model.specs.Joining as M
use Rattle.laws.specs.Joining.{All}
use Rattle.joining.specs.declared.answer.Reduced.{Reduced}
use Rattle.joining.specs.declared.answer.Reduced.TheVariants.{Part}
use Rattle.joining.specs.declared.join.Join.{Join}
use Rattle.joining.specs.declared.join.State.{State}
use Rattle.joining.specs.declared.join.State.TheVariants.{Open, Long, Decided, Short}
use Rattle.joining.specs.Answer.{told}

-- the words of the join of parts: from two parts on there is a header
unfoldable pub header : Trees → ℕ
header nil = 0
header (cons t nil) = 0
header (cons t (cons u ts)) = 2

unfoldable pub join_words : Trees → ℕ
join_words ps = header ps + length (encode_all ps)

-- a tree that is a join has two children or more
unfoldable pub Wide : Tree → Type 0
Wide (plain b) = Unit {0}
Wide (atom b p ts) = Unit {0}
Wide (compare b d x y) = Unit {0}
Wide (join b ts) = 2 ≤ count ts
Wide (quantifier b v excluded c f) = Unit {0}
Wide (some c) = Unit {0}

-- the parts stand at the front
pub record Stand (ps : Trees) (out : Words) (j : Join) : Type 0 where
  pub size : j.words ≡ length (encode_all ps)
  pub number : j.parts ≡ count ps
  pub front : take j.words out ≡ encode_all ps

-- their join does not fit
pub record Exceed (ps : Trees) (room : ℕ) : Type 0 where
  pub more : room < join_words ps
  pub present : 1 ≤ count ps

-- what each state says
abbrev pub Tells : (b : Bool) (ts : Trees) (need places : ℕ) (out : Words) (j : Join) (state : State) → Type 0
Tells b ts need places out j Open = (need ≤ places) × (M.decided b ts ≡ false) × Stand (M.parts_all b ts) out j
Tells b ts need places out j Long = (need ≤ places) × (M.decided b ts ≡ false) × Exceed (M.parts_all b ts) (length out)
Tells b ts need places out j Decided = (need ≤ places) × (M.decided b ts ≡ true)
Tells b ts need places out j Short = places < need

-- a join of kind b after the reduced children ts, the greatest need of which is given; `out` is all that was lent
pub record Joining (b : Bool) (ts : Trees) (need places : ℕ) (out : Words) (j : Join) : Type 0 where
  pub wide : All Wide ts
  pub kind : j.kind ≡ b
  pub within : j.words ≤ length out
  pub tells : Tells b ts need places out j j.state

-- the state of a join and the answer of its next child, which was lent the words behind those of the state
pub record Adding (out : Words) (j : Join) (answer : Reduced) : Type 0 where
  pub b : Bool
  pub ts : Trees
  pub need : ℕ
  pub places : ℕ
  pub state : Joining b ts need places out j
  pub t : Tree
  pub n : ℕ
  pub is : answer ≡ told places n (length out - j.words) t
  pub words : (k : ℕ) → answer ≡ Part k → take k (drop j.words out) ≡ encode t
  pub wide : Wide t

-- the state with the child
abbrev pub added : {out : Words} {j : Join} {answer : Reduced} (a : Adding out j answer) (after : Words) (to : Join) → Type 0
added a after to = Joining a.b (M.append a.ts (cons a.t nil)) (max a.need a.n) a.places after to

-- Runs of reduce calls over one log, and the claim about them.
use Rattle.std.specs.Prelude.{ℕ, ◌≤◌, ◌≡◌, ◌↔◌, Bool, true, false, not, ◌&&◌, ◌||◌, List, [], ◌∷◌, ◌++◌, length, take, drop, eqb, ℤ, Ok, Err}
use Rattle.model.specs.Words.{Words, value, member}
use Rattle.model.specs.Lists.{all}
use Rattle.model.specs.Answer.{Answer, number, count, passed}
use Rattle.model.specs.Table.{complete}
use Rattle.model.specs.Log.{rows, front, says_true}
use Rattle.model.specs.Tree.{Tree, Trees, plain, atom, compare, join, quantifier, some, nil, cons}
use Rattle.model.specs.Truth.{Structure, structure, Extends, Is}
use Rattle.model.specs.Calls.{Result, result, ask_policy, ask_residual, check_policy, check_log, reduce_call}

-- a call of a run: the rows of its front part, and the lengths of the scratch and the buffer that it is lent
pub record Call : Type 0 where
  pub part : ℕ
  pub scratch : ℕ
  pub buffer : ℕ

unfoldable pub accepted : Answer → Bool
accepted a = eqb (number a) 0

-- a tree is neither true nor false in a structure: open there
unfoldable pub Open : Tree → Structure → Type 0
Open tree s = (truth : Bool) → Is tree s truth [] → ⊥

-- outside quantifiers no atom is decided, and no tuple that is not excluded has a true restriction
unfoldable mutual
  pub Settled : Tree → Structure → Type 0
  Settled (plain b) s = Unit {0}
  Settled (atom b p ts) s = Open (atom b p ts) s
  Settled (compare b d x y) s = Open (compare b d x y) s
  Settled (join b ts) s = SettledAll ts s
  Settled (quantifier b v excluded c f) s = (τ : List ℤ) → length τ ≡ v → member τ excluded ≡ false → Is c s true τ → ⊥
  Settled (some c) s = Unit {0}

  pub SettledAll : Trees → Structure → Type 0
  SettledAll nil s = Unit {0}
  SettledAll (cons t ts) s = Settled t s × SettledAll ts s

module _ (table log : Words) where
  -- what a call leaves that is given a policy
  unfoldable pub leaves : Words → Call → Result
  leaves policy call = reduce_call table policy (front call.part log) call.scratch call.buffer

  -- the policy held after a call that left a result: the words of its residual, or, if it was refused, the one before
  unfoldable pub next : Words → Answer → Words → Words
  next policy (Ok n) buffer = take n buffer
  next policy (Err e) buffer = policy

  unfoldable pub after : Words → Call → Words
  after policy call = next policy (leaves policy call).answer (leaves policy call).buffer

  -- the policy held after a list of calls
  unfoldable pub held : Words → List Call → Words
  held policy [] = policy
  held policy (call ∷ calls) = held (after policy call) calls

  -- no row behind a part makes true an atom of a complete predicate
  unfoldable pub clear : ℕ → Bool
  clear part = all (λ row. not (says_true row && complete table (value row 0))) (drop part (rows log))

  -- the proviso: so it is for the part of each accepted call
  unfoldable pub proviso : Words → List Call → Bool
  proviso policy [] = true
  proviso policy (call ∷ calls) =
      (not (accepted (leaves policy call).answer) || clear call.part) && proviso (after policy call) calls

  -- the claim about one run
  pub record RunClaim (policy : Words) (calls : List Call) : Type 0 where
    -- each call is answered by the residual of the policy held by then over its part, or by refusal 11 or 12, and leaves this
    pub answered :
        (before : List Call) (call : Call) (later : List Call) →
        calls ≡ before ++ call ∷ later →
        (tree : Tree) →
        ask_policy table (held policy before) ≡ passed tree →
        leaves (held policy before) call
        ≡ result call.scratch call.buffer (ask_residual table (front call.part log) tree call.scratch call.buffer)
    -- the policy held after each call is accepted, at no more levels than the one held before it
    pub kept :
        (before : List Call) (call : Call) (later : List Call) →
        calls ≡ before ++ call ∷ later →
        (accepted (check_policy table (held policy (before ++ call ∷ []))) ≡ true)
        × (count (check_policy table (held policy (before ++ call ∷ []))) ≤ count (check_policy table (held policy before)))
    -- after each accepted call nothing that its part decides and no instance that it shows is left
    pub settled :
        (before : List Call) (call : Call) (later : List Call) →
        calls ≡ before ++ call ∷ later →
        accepted (leaves (held policy before) call).answer ≡ true →
        (residual : Tree) →
        ask_policy table (held policy (before ++ call ∷ [])) ≡ passed residual →
        Settled residual (structure table (front call.part log))
    -- under the proviso, the policy held at the end is true, false or open exactly as the first, in every extension of the log
    pub truth :
        proviso policy calls ≡ true →
        (s : Structure) →
        Extends table (structure table log) s →
        (first last : Tree) →
        ask_policy table policy ≡ passed first →
        ask_policy table (held policy calls) ≡ passed last →
        (t : Bool) →
        Is last s t [] ↔ Is first s t []

-- the run claim
unfoldable pub EveryRun : Type 0
EveryRun =
    (table log policy : Words) (calls : List Call) →
    accepted (check_log table log) ≡ true →
    accepted (check_policy table policy) ≡ true →
    RunClaim table log policy calls

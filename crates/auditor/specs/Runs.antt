-- The run claim about the code: of every list of served calls of reduce. A served call is what a caller has in hand, and its
-- only tie to the code is the contract of reduce.
use Rattle.model.specs.Answer.{Answer}
use Rattle.std.specs.Prelude.{ℕ, ◌≡◌, true, length}
use Rattle.std.proofs.Math.Path.{refl, ap}
use Rattle.std.proofs.Common.{◌∙◌, subst}
use mathlib.Core.List.{List, [], ◌∷◌, ◌++◌, map}
use Rattle.model.specs.Words.{Words}
use Rattle.model.specs.Log.{front}
use Rattle.model.specs.Calls.{Result, check_policy, check_log}
use Rattle.model.specs.Runs.{Call, accepted, leaves, next, after, held, RunClaim, EveryRun}
use Rattle.laws.proofs.Runs.Claim.{every-run}
use Rattle.auditor.specs.Reduce.{Reduces}

-- a served call: the rows of its front part, the words lent, the answer, and the words of scratch and buffer afterwards
pub record Served : Type 0 where
  pub part : ℕ
  pub scratch : Words
  pub buffer : Words
  pub answer : Answer
  pub scratch' : Words
  pub buffer' : Words

-- the call that it serves, and what it left
unfoldable pub call_of : Served → Call
call_of s = record { part = s.part; scratch = length s.scratch; buffer = length s.buffer }

unfoldable pub left_of : Served → Result
left_of s = record { answer = s.answer; buffer = s.buffer'; scratch = s.scratch' }

module _ (table log : Words) where
  -- the policy that a caller holds after served calls
  unfoldable pub kept : Words → List Served → Words
  kept policy [] = policy
  kept policy (s ∷ ss) = kept (next table log policy s.answer s.buffer') ss

  -- each call meets the contract of reduce, given the policy left by the one before
  unfoldable pub Serves : Words → List Served → Type 0
  Serves policy [] = Unit {0}
  Serves policy (s ∷ ss) =
      Reduces table policy (front s.part log) s.scratch s.buffer s.answer s.scratch' s.buffer'
      × Serves (next table log policy s.answer s.buffer') ss

  -- the claim about served calls
  pub record ServedClaim (policy : Words) (ss : List Served) : Type 0 where
    -- each answered, and left in scratch and buffer, what its call leaves by definition, given the policy held by then; the run claim
    -- says that this is the residual, or refusal 11 or 12
    pub left :
        (before : List Served) (s : Served) (later : List Served) →
        ss ≡ before ++ s ∷ later →
        left_of s ≡ leaves table log (held table log policy (map call_of before)) (call_of s)
    -- the caller holds what the run holds
    pub holds : (before later : List Served) → ss ≡ before ++ later → kept policy before ≡ held table log policy (map call_of before)
    -- and the run claim holds of them
    pub run : RunClaim table log policy (map call_of ss)

  -- what a served call left is what its call leaves
  left_one :
      (policy : Words) (s : Served) →
      Reduces table policy (front s.part log) s.scratch s.buffer s.answer s.scratch' s.buffer' →
      left_of s ≡ leaves table log policy (call_of s)
  unfolding leaves call_of left_of
  left_one policy s r = rw (r.answered.same, r.wrote, r.cleared) refl

  held_one :
      (policy : Words) (s : Served) →
      left_of s ≡ leaves table log policy (call_of s) →
      next table log policy s.answer s.buffer' ≡ after table log policy (call_of s)
  unfolding after left_of
  held_one policy s e = ap (λ (r : Result). next table log policy r.answer r.buffer) e

  all_left :
      (before : List Served) (s : Served) (later : List Served) (policy : Words) →
      Serves policy (before ++ s ∷ later) →
      left_of s ≡ leaves table log (held table log policy (map call_of before)) (call_of s)
  unfolding Serves held
  all_left [] s later policy w = left_one policy s w.0
  all_left (t ∷ before) s later policy w =
      let e = held_one policy t (left_one policy t w.0) in
      all_left before s later _ (subst (λ (p : Words). Serves p (before ++ s ∷ later)) e w.1)

  all_held : (before later : List Served) (policy : Words) → Serves policy (before ++ later) → kept policy before ≡ held table log policy (map call_of before)
  unfolding Serves kept held
  all_held [] later policy w = refl
  all_held (s ∷ before) later policy w =
      let e = held_one policy s (left_one policy s w.0) in
      ap (λ (p : Words). kept p before) e ∙ all_held before later _ (subst (λ (p : Words). Serves p (before ++ later)) e w.1)

-- the theorem: one table, one accepted log, a policy accepted at first, and any list of calls served by code that meets the
-- contract of reduce
pub every_served_run :
    (table log policy : Words) (ss : List Served) →
    accepted (check_log table log) ≡ true →
    accepted (check_policy table policy) ≡ true →
    Serves table log policy ss →
    ServedClaim table log policy ss
unfolding EveryRun
every_served_run table log policy ss l p w =
    record {
      left = λ before s later e. all_left table log before s later policy (subst (Serves table log policy) e w);
      holds = λ before later e. all_held table log before later policy (subst (Serves table log policy) e w);
      run = every-run table log policy (map call_of ss) l p;
    }

-- One call of a run: a call that is refused leaves the policy held as it was; one that is accepted leaves the words of the reduction of
-- the tree held, which is a policy again. The run claim, by induction on the list of calls, stands in proofs/.
use Rattle.std.specs.Prelude.{ℕ, ◌≤◌, ◌-◌, ◌/◌, ◌≡◌, Bool, true, false, not, ◌||◌, length, take, leb, eqb}
use Rattle.std.proofs.Common.{◌∙◌, take_at}
use Rattle.std.proofs.Math.Path.{refl, ap}
use Rattle.std.proofs.lemmas.Bool.{false≢true}
use mathlib.Core.List.{[]}
use Rattle.std.specs.Prelude.{Ok}
use Rattle.model.specs.declared.Refusal.{Refusal}
use Rattle.model.specs.declared.Refusal.TheVariants.{Table, PolicyLength, Shape, Level, Predicate, Variable, Mode, LogLength, Row, Repeat}
use Rattle.model.specs.declared.Refusal.TheVariants.{Scratch, Room, Csv, Record, Tptp}
use Rattle.model.specs.Words.{Words, policy_limit, place_words}
use Rattle.model.specs.Answer.{Outcome, passed, refused, ask, answer, question, number, ◌>>=◌}
use Rattle.model.specs.Log.{rows, front, ask_log}
use Rattle.model.specs.Tree.{Tree, encode}
use Rattle.model.specs.Level.{formula, greatest}
use Rattle.model.specs.Reduction.{need, reduce}
use Rattle.model.specs.Calls.{zeros, filled, result, ask_policy, ask_residual, check_policy, ask_reduction, reduce_call}
use Rattle.model.specs.Runs.{Call, accepted, leaves, next, after, held}
use Rattle.laws.specs.Words.Tests.{clash}
use Rattle.laws.specs.Answer.{then_passed}
use Rattle.laws.specs.Calls.Policy.{accepted-rules, rules-accepted}
use Rattle.laws.specs.Calls.Room.{written}
use Rattle.laws.specs.Log.{Sound, sound, front-accepted}
use Rattle.laws.specs.Reduction.Accepted.{reduce-rules}

-- a refusal's number is not 0
asked : (r : Refusal) → eqb (question r) 0 ≡ false
unfolding question
asked Table = refl
asked PolicyLength = refl
asked Shape = refl
asked Level = refl
asked Predicate = refl
asked Variable = refl
asked Mode = refl
asked LogLength = refl
asked Row = refl
asked Repeat = refl
asked Scratch = refl
asked Room = refl
asked Csv = refl
asked Record = refl
asked Tptp = refl

-- an answer is accepted exactly if all questions passed
pub accepted-passed : {A : Type 0} (size : A → ℕ) (o : Outcome A) → accepted (answer size o) ≡ true → (a : A) × (o ≡ passed a)
unfolding accepted answer number
accepted-passed size (refused r p) e = clash e (asked r)
accepted-passed size (passed a) e = (a, refl)

-- a policy that passed is accepted, and its count is its greatest level
pub checked : (table policy : Words) (tree : Tree) → ask_policy table policy ≡ passed tree → check_policy table policy ≡ Ok (greatest tree formula 0)
unfolding check_policy answer
checked table policy tree e = rw e

-- what the proviso asks of an accepted call
pub clear-part : (a b : Bool) → a ≡ true → (not a || b) ≡ true → b ≡ true
clear-part true b e h = h
clear-part false b e h = absurd (false≢true e)

-- what a call writes fills its buffer, and is taken back from there
filled-take : (buffer : ℕ) (ws : Words) → take (length ws) (filled buffer (passed ws)) ≡ ws
unfolding filled
filled-take buffer ws = take_at ws (zeros (buffer - length ws)) (length ws) refl

-- one call over a front part of an accepted log, given an accepted policy
module _ (table log : Words) (logged : ask_log table log ≡ passed tt) where
  abbrev pub residual : (tree : Tree) (call : Call) → Tree
  residual tree call = reduce table (rows (front call.part log)) tree []

  -- what comes of its questions
  abbrev outcome : Tree → Call → Outcome Words
  outcome tree call = ask_residual table (front call.part log) tree call.scratch call.buffer

  pub leaves-outcome :
      (held : Words) (tree : Tree) (call : Call) →
      ask_policy table held ≡ passed tree →
      leaves table log held call ≡ result call.scratch call.buffer (outcome tree call)
  unfolding leaves reduce_call ask_reduction ◌>>=◌
  leaves-outcome held tree call e = rw (e, front-accepted table log call.part logged)

  wrote : (tree : Tree) (call : Call) {ws : Words} → outcome tree call ≡ passed ws → (ws ≡ encode (residual tree call)) × (length (encode (residual tree call)) ≤ policy_limit)
  unfolding ask_residual
  wrote tree call e =
      let (u, e₁, rest) = then_passed (ask (leb (need table (rows (front call.part log)) tree []) (call.scratch / place_words)) Scratch 0) _ e in
      written call.buffer (residual tree call) rest

  pub part_sound : (call : Call) → Sound table (rows (front call.part log))
  part_sound call = sound table (front call.part log) (front-accepted table log call.part logged)

  -- what a call leaves to be held: the words of the reduction, or the policy held before
  pub data Step (held : Words) (tree : Tree) (call : Call) : Type 0 where
    reduced :
        accepted (leaves table log held call).answer ≡ true →
        after table log held call ≡ encode (residual tree call) →
        length (encode (residual tree call)) ≤ policy_limit →
        Step held tree call
    kept : accepted (leaves table log held call).answer ≡ false → after table log held call ≡ held → Step held tree call

  step : (held : Words) (tree : Tree) (call : Call) → ask_policy table held ≡ passed tree → Step held tree call
  unfolding after result accepted answer number next
  step held tree call e = go (outcome tree call) refl
    where
      left : (o : Outcome Words) → outcome tree call ≡ o → leaves table log held call ≡ result call.scratch call.buffer o
      left o p = leaves-outcome held tree call e ∙ ap (result call.scratch call.buffer) p

      go : (o : Outcome Words) → outcome tree call ≡ o → Step held tree call
      go (refused r p) q = kept (rw (left (refused r p) q) (asked r)) (rw (left (refused r p) q))
      go (passed ws) q =
          let is = wrote tree call q in
          reduced
          (rw (left (passed ws) q) refl)
          (rw (left (passed ws) q) (filled-take call.buffer ws ∙ is.0))
          is.1

  -- the policy held after a call: accepted, at no more levels
  pub after-policy :
      (held : Words) (tree : Tree) (call : Call) →
      ask_policy table held ≡ passed tree →
      accepted (leaves table log held call).answer ≡ true →
      ask_policy table (after table log held call) ≡ passed (residual tree call)
  after-policy held tree call e a = go (step held tree call e)
    where
      go : Step held tree call → ask_policy table (after table log held call) ≡ passed (residual tree call)
      go (reduced p q short) =
          let first = accepted-rules table held tree e in
          rw q (rules-accepted table (residual tree call) first.0 (reduce-rules table _ tree first.2) short)
      go (kept p q) = clash a p

  pub after-refused :
      (held : Words) (tree : Tree) (call : Call) →
      ask_policy table held ≡ passed tree →
      accepted (leaves table log held call).answer ≡ false →
      after table log held call ≡ held
  after-refused held tree call e a = go (step held tree call e)
    where
      go : Step held tree call → after table log held call ≡ held
      go (reduced p q short) = clash p a
      go (kept p q) = q

  -- of the policy held after calls, the first of which was given a tree: accepted, as a tree of no more levels
  abbrev pub Lower : Words → Tree → Type 0
  Lower policy tree =
      (later : Tree) × (ask_policy table policy ≡ passed later) × (greatest later formula 0 ≤ greatest tree formula 0)

-- The calls, outcome by outcome.
use Prim.Native.Nat.{ℕ}
use mathlib.Core.Path.{◌≡◌, refl, sym, ap, ap₂}
use lib.ListN.{length}
use native.Mathlib.Omega.{arith}
use Rattle.std.specs.Prelude.{Ok, Err}
use Rattle.model.specs.declared.Refusal.{Refusal}
use Rattle.model.specs.Words.{Words}
use Rattle.model.specs.Answer.{Outcome, passed, refused, answer, ◌>>=◌, refused_at}
use Rattle.model.specs.Tree.{Tree}
use Rattle.model.specs.Level.{formula, greatest}
use Rattle.model.specs.Table.{ask_table}
use Rattle.model.specs.Reading.{read_policy}
use Rattle.model.specs.Mode.{ask_modes}
use Rattle.model.specs.Log.{row_count, ask_log}
use Rattle.model.specs.Calls.{ask_policy, check_policy, check_log}
use Rattle.laws.specs.Answer.{answer-accepted, answer-refused}
use Rattle.policies.specs.Policy.{walked, told_policy}
use Rattle.policies.specs.declared.policy.Walked.{Walked}
use Rattle.model.specs.declared.Refused.{Refused}
use Rattle.checks.specs.Accepts.{Accepts}

-- what an answer says of the questions
pub was_refused : {A : Type 0} (count : A → ℕ) (o : Outcome A) {r : Refusal} {p : ℕ} → Err (refused_at r p) ≡ answer count o → o ≡ refused r p
was_refused count o {r} {p} e = answer-refused count o r p (sym e)

pub was_passed : {A : Type 0} (count : A → ℕ) (o : Outcome A) {k : ℕ} → Ok k ≡ answer count o → (a : A) × (o ≡ passed a)
was_passed count o {k} e = let (a, passes, size) = answer-accepted count o k (sym e) in (a, passes)

-- what is told of a reading is what came of it
told-refused :
    (policy : Words) (o : Outcome Tree) {r : Refusal} {p : ℕ} → Err (refused_at r p) ≡ told_policy policy o → o ≡ refused r p
unfolding told_policy
told-refused policy (refused r' p') {r} {p} e =
    let same : refused_at r p ≡ refused_at r' p' = cc in sym (ap₂ refused (ap (λ (f : Refused). f.0) same) (ap (λ (f : Refused). f.1) same))
told-refused policy (passed t) e = cc

told-read :
    (policy : Words) (o : Outcome Tree) {n level : ℕ} → walked n level ≡ told_policy policy o →
    (tree : Tree) × (o ≡ passed tree) × (level ≡ greatest tree formula 0)
unfolding told_policy
told-read policy (refused r p) e = absurd (let z : ◌≡◌ {A = ℕ} 0 1 = cc in omega arith)
told-read policy (passed t) {n} {level} e =
    let same : ◌≡◌ {A = Walked} (record { next = n; level = level }) (record { next = length policy; level = greatest t formula 0 }) = cc in
    (t, refl, ap (λ (w : Walked). w.level) same)

module _ (table policy : Words) where
  -- what the check of a policy says of questions 1 to 7
  pub policy_was_refused : {r : Refusal} {p : ℕ} → Err (refused_at r p) ≡ check_policy table policy → ask_policy table policy ≡ refused r p
  unfolding check_policy
  policy_was_refused e = was_refused (λ tree. greatest tree formula 0) (ask_policy table policy) e

  pub policy_was_passed : {k : ℕ} → Ok k ≡ check_policy table policy → Accepts table policy
  unfolding check_policy
  policy_was_passed e = was_passed (λ tree. greatest tree formula 0) (ask_policy table policy) e

  pub policy-table-refused : {r : Refusal} {p : ℕ} → ask_table table ≡ refused r p → check_policy table policy ≡ Err (refused_at r p)
  unfolding check_policy ask_policy answer ◌>>=◌
  policy-table-refused e = rw e

  module _ (e : ask_table table ≡ passed tt) where
    pub policy-refused :
        {r : Refusal} {p : ℕ} → Err (refused_at r p) ≡ told_policy policy (read_policy table policy) → check_policy table policy ≡ Err (refused_at r p)
    unfolding check_policy ask_policy answer ◌>>=◌
    policy-refused f = rw (e, told-refused policy (read_policy table policy) f)

    -- the policy was read
    module _ {n level : ℕ} (f : walked n level ≡ told_policy policy (read_policy table policy)) where
      pub tree-read : (tree : Tree) × (read_policy table policy ≡ passed tree) × (level ≡ greatest tree formula 0)
      tree-read = told-read policy (read_policy table policy) f

      pub modes-refused : {r : Refusal} {p : ℕ} → refused r p ≡ ask_modes tree-read.0 table 0 0 → check_policy table policy ≡ Err (refused_at r p)
      unfolding check_policy ask_policy answer ◌>>=◌
      modes-refused g = rw (e, tree-read.1, ← g)

      pub policy-accepted : passed tt ≡ ask_modes tree-read.0 table 0 0 → check_policy table policy ≡ Ok level
      unfolding check_policy ask_policy answer ◌>>=◌
      policy-accepted g = rw (e, tree-read.1, ← g) (ap Ok (sym tree-read.2))

module _ (table log : Words) where
  pub log-table-refused : {r : Refusal} {p : ℕ} → ask_table table ≡ refused r p → check_log table log ≡ Err (refused_at r p)
  unfolding check_log answer ◌>>=◌
  log-table-refused e = rw e

  pub log-refused : {r : Refusal} {p : ℕ} → ask_table table ≡ passed tt → ask_log table log ≡ refused r p → check_log table log ≡ Err (refused_at r p)
  unfolding check_log answer ◌>>=◌
  log-refused e f = rw (e, f)

  pub log-accepted : ask_table table ≡ passed tt → ask_log table log ≡ passed tt → check_log table log ≡ Ok (row_count log)
  unfolding check_log answer ◌>>=◌
  log-accepted e f = rw (e, f)

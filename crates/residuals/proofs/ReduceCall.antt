-- The call reduce, question by question.
use Prim.Native.Nat.{ℕ, ◌/◌, ◌≤◌}
use mathlib.Core.Path.{◌≡◌, refl, sym, ◌∙◌}
use mathlib.Core.List.{[]}
use lib.ListN.{length}
use Rattle.std.specs.Prelude.{Ok, Err}
use Rattle.model.specs.declared.Refusal.{Refusal}
use Rattle.model.specs.Words.{Words, place_words, predicate_limit}
use Rattle.model.specs.Answer.{Answer, passed, refused, ◌>>=◌, refused_at}
use Rattle.model.specs.Level.{formula}
use Rattle.model.specs.Log.{rows, ask_log}
use Rattle.model.specs.Table.{ask_table, predicates}
use Rattle.model.specs.Reading.{read_policy}
use Rattle.model.specs.Mode.{ask_modes}
use Rattle.model.specs.Reduction.{reduce, need}
use Rattle.model.specs.Calls.{check_policy, ask_residual, ask_reduction}
use Rattle.laws.specs.Table as T
use Rattle.laws.specs.Calls.Policy.{accepted-asked}
use Rattle.laws.specs.Reading.Encoded.{read-node}
use Rattle.laws.specs.Reading.Nodes.{Node}
use Rattle.checks.specs.Accepts.{Accepts}
use Rattle.residuals.specs.Residual.{settled, Leaves, LeavesResidual}
use Rattle.checks.proofs.Calls.{policy_was_refused, policy_was_passed}
use Rattle.residuals.proofs.ReduceSettling.{leaves-refused}

module _ (table policy log : Words) (scratch buffer : ℕ) where
  -- questions 1 to 7
  pub policy-refused :
      (after : Words) {a : Answer} {r : Refusal} {p : ℕ} →
      a ≡ check_policy table policy →
      a ≡ Err (refused_at r p) →
      LeavesResidual table policy log scratch buffer after (Err (refused_at r p))
  unfolding ask_reduction ◌>>=◌
  policy-refused after {a} {r} {p} e f =
      let was = policy_was_refused table policy (sym f ∙ e) in leaves-refused buffer after (rw was refl)

  pub policy-accepted : {a : Answer} {n : ℕ} → a ≡ check_policy table policy → a ≡ Ok n → Accepts table policy
  policy-accepted e f = policy_was_passed table policy (sym f ∙ e)

  module _ (accepts : Accepts table policy) where
    tree-asked :
        (ask_table table ≡ passed tt) × (read_policy table policy ≡ passed accepts.0) × (ask_modes accepts.0 table 0 0 ≡ passed tt)
    tree-asked = accepted-asked table policy accepts.0 accepts.1

    pub root : Node table policy formula 0 0 0 accepts.0 (length policy)
    root = read-node table policy accepts.0 tree-asked.1

    -- the predicates are few
    pub few : predicates table ≤ predicate_limit
    few = (T.accepted table tree-asked.0).few

    -- questions 8 to 10
    pub log-refused : (after : Words) {r : Refusal} {p : ℕ} → ask_log table log ≡ refused r p → LeavesResidual table policy log scratch buffer after (Err (refused_at r p))
    unfolding ask_reduction ◌>>=◌
    log-refused after e = leaves-refused buffer after (rw (accepts.1, e) refl)

    module _ (logged : ask_log table log ≡ passed tt) where
      -- questions 11 and 12
      pub all_asked :
          {after : Words} {a : Answer} {n : ℕ} →
          n ≡ buffer →
          Leaves (settled (scratch / place_words) (need table (rows log) accepts.0 []) n (reduce table (rows log) accepts.0 [])) n after a →
          LeavesResidual table policy log scratch buffer after a
      unfolding ask_reduction ask_residual settled ◌>>=◌
      all_asked e l = rw (accepts.1, logged, ← e) l

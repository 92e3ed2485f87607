-- The writing of a log, question by question.
use Prim.Native.Nat.{ℕ}
use mathlib.Core.Path.{◌≡◌, refl, sym, ◌∙◌}
use lib.ListN.{length}
use Rattle.std.specs.Prelude.{Ok, Err}
use Rattle.model.specs.declared.Refusal.{Refusal}
use Rattle.model.specs.Words.{Words}
use Rattle.model.specs.Bytes.{Text}
use Rattle.model.specs.Answer.{Answer, Outcome, passed, refused, ◌>>=◌, refused_at}
use Rattle.model.specs.Table.{ask_table}
use Rattle.model.specs.Log.{row_count, ask_log}
use Rattle.model.specs.LogText.{log_text}
use Rattle.model.specs.Calls.{in_room, ask_writing, check_log}
use Rattle.laws.specs.Answer.{then_passed}
use Rattle.std.specs.Prelude.{Option}
use Rattle.text.specs.Put.{Writes}
use Rattle.text.specs.Written.{written}
use Rattle.log_texts.specs.LogText.{WritesLog}
use Rattle.checks.proofs.Calls.{was_refused, was_passed}
use Rattle.text.proofs.WrittenLaws.{text-refused, text-written}

module _ (table log : Words) where
  -- the questions of the log's check, and then 12
  checked-first :
      (room : ℕ) →
      ask_writing table log room ≡ ((ask_table table >>= λ _. ask_log table log) >>= λ _. in_room room (log_text table log))
  unfolding ask_writing ◌>>=◌
  checked-first room = go (ask_table table)
    where
      go :
          (o : Outcome (Unit {0})) →
          (o >>= λ _. ask_log table log >>= λ _. in_room room (log_text table log))
          ≡ ((o >>= λ _. ask_log table log) >>= λ _. in_room room (log_text table log))
      go (refused r p) = refl
      go (passed u) = refl

-- what the check of a log answered
module _ (table log : Words) {a : Answer} (same : a ≡ check_log table log) where
  -- the log is refused
  pub log-refused : {room : ℕ} {after : Text} {q : Refusal} {p : ℕ} → a ≡ Err (refused_at q p) → WritesLog table log room after (Err (refused_at q p))
  unfolding check_log ◌>>=◌
  log-refused {room} {after} e =
      let was = was_refused (λ _. row_count log) (ask_table table >>= λ _. ask_log table log) (sym e ∙ same) in
      text-refused _ room after (checked-first table log room ∙ rw was) refl

  module _ {k : ℕ} (e : a ≡ Ok k) where
    -- the log is accepted
    pub log-passed : (ask_table table ≡ passed tt) × (ask_log table log ≡ passed tt)
    unfolding check_log
    log-passed =
        let whole = was_passed (λ _. row_count log) (ask_table table >>= λ _. ask_log table log) (sym e ∙ same) in
        let both = then_passed (ask_table table) (λ _. ask_log table log) whole.1 in
        (both.1, both.2)

    -- and its text was written, if it has room
    pub log-written :
        {out after : Text} {put : Option ℕ} {r : Answer} →
        Writes (log_text table log) out after put →
        r ≡ written put →
        WritesLog table log (length out) after r
    unfolding ask_writing ◌>>=◌
    log-written {out} {after} w s = text-written _ (log_text table log) out after (rw (log-passed.0, log-passed.1)) w s

-- The writing of a text for a call: its answer, and what it leaves in the buffer, from the questions asked.
use Prim.Native.Nat.{ℕ, ◌-◌}
use native.Mathlib.Nat.{sub-zero}
use native.Mathlib.Omega.{arith}
use mathlib.Core.Path.{◌≡◌, refl, sym, ap, ◌∙◌, subst}
use mathlib.Core.Bool.{Bool, true, false}
use mathlib.Core.List.{◌++◌}
use lib.ListN.{length, take, replicate}
use lib.Dec.{leb}
use borrow.Author.Tests.{leb-true}
use Rattle.std.specs.Prelude.{Err}
use Rattle.model.specs.declared.Refusal.{Refusal}
use Rattle.model.specs.declared.Refusal.TheVariants.{Room}
use Rattle.model.specs.Bytes.{Text}
use Rattle.model.specs.Answer.{Answer, AnswersAs, Outcome, passed, refused, ask, answer, count, ◌>>=◌, refused_at}
use Rattle.model.specs.Calls.{in_room, filled_text, text_result}
use Rattle.laws.specs.Answer.{answers}
use Rattle.std.specs.Prelude.{Option, Some, None}
use Rattle.text.specs.Put.{told, Writes}
use Rattle.text.specs.Written.{written, LeavesText}

module _ (o : Outcome Text) where
  -- a question was refused
  pub text-refused :
      (room : ℕ) (after : Text) {a : Answer} {q : Refusal} {p : ℕ} → o ≡ refused q p → a ≡ Err (refused_at q p) → LeavesText o room after a
  unfolding answer count filled_text
  text-refused room after e f =
      subst (LeavesText o room after) (sym f)
      (record {
        answered = rw e;
        fits = omega arith;
        wrote = rw e (ap (λ (n : ℕ). replicate n 0) (sub-zero room));
      })

  -- what is left is question 12, and the text was written if it has room
  pub text-written :
      (text out after : Text) {put : Option ℕ} {a : Answer} →
      o ≡ in_room (length out) text →
      Writes text out after put →
      a ≡ written put →
      LeavesText o (length out) after a
  unfolding in_room ask ◌>>=◌ told written answer count filled_text
  text-written text out after {put} {a} e w s = go (leb (length text) (length out)) refl
    where
      go : (b : Bool) → leb (length text) (length out) ≡ b → LeavesText o (length out) after a
      go true fits =
          let at : put ≡ Some (length text) = w.said ∙ rw fits in
          let whole : o ≡ passed text = e ∙ rw fits in
          subst (LeavesText o (length out) after) (sym (s ∙ ap written at))
          (record {
            answered = rw whole;
            fits = leb-true (length text) (length out) fits;
            wrote = rw whole (ap (λ (t : Text). t ++ replicate (length out - length text) 0) (w.wrote (length text) at));
          })
      go false fits =
          let full : put ≡ None = w.said ∙ rw fits in
          let short : o ≡ refused Room 0 = e ∙ rw fits in
          text-refused (length out) after short (s ∙ ap written full)

  -- what stands behind the bytes counted becomes zero
  pub text-cleared :
      (buffer after after' : Text) (r : Answer) (n : ℕ) →
      LeavesText o (length buffer) after r →
      length after ≡ length buffer →
      n ≡ count r →
      after' ≡ take n after ++ replicate (length after - n) 0 →
      AnswersAs (text_result (length buffer) o).answer r × (after' ≡ (text_result (length buffer) o).buffer)
  unfolding text_result
  text-cleared buffer after after' r n l k e c = (answers l.answered, c ∙ rw (e, k) l.wrote)

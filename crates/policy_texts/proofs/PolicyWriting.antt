-- The writing of a policy, question by question.
use Prim.Native.Nat.{ℕ}
use mathlib.Core.Path.{◌≡◌, refl, sym, ◌∙◌}
use lib.ListN.{length}
use Rattle.std.specs.Prelude.{Ok, Err}
use Rattle.model.specs.declared.Refusal.{Refusal}
use Rattle.model.specs.Words.{Words}
use Rattle.model.specs.Bytes.{Text}
use Rattle.model.specs.Answer.{Answer, passed, ◌>>=◌, refused_at}
use Rattle.model.specs.Tree.{Tree}
use Rattle.model.specs.Reading.{read_policy}
use Rattle.model.specs.Tptp.{policy_text}
use Rattle.model.specs.Calls.{check_policy, ask_policy_writing}
use Rattle.laws.specs.Calls.Policy.{accepted-asked}
use Rattle.std.specs.Prelude.{Option}
use Rattle.text.specs.Put.{Writes}
use Rattle.text.specs.Written.{written}
use Rattle.policy_texts.specs.PolicyText.{WritesPolicy}
use Rattle.checks.proofs.Calls.{policy_was_refused, policy_was_passed}
use Rattle.text.proofs.WrittenLaws.{text-refused, text-written}

-- what the check of a policy answered
module _ (table policy : Words) {a : Answer} (same : a ≡ check_policy table policy) where
  -- the policy is refused
  pub policy-refused : {room : ℕ} {after : Text} {q : Refusal} {p : ℕ} → a ≡ Err (refused_at q p) → WritesPolicy table policy room after (Err (refused_at q p))
  unfolding ask_policy_writing ◌>>=◌
  policy-refused {room} {after} e = text-refused _ room after (rw (policy_was_refused table policy (sym e ∙ same))) refl

  module _ {k : ℕ} (e : a ≡ Ok k) where
    -- the policy is accepted: it was read
    pub policy-read : (tree : Tree) × (read_policy table policy ≡ passed tree)
    policy-read =
        let (tree, is) = policy_was_passed table policy (sym e ∙ same) in (tree, (accepted-asked table policy tree is).1)

    -- and its text was written, if it has room
    pub policy-written :
        {out after : Text} {put : Option ℕ} {r : Answer} →
        ((tree : Tree) → read_policy table policy ≡ passed tree → Writes (policy_text tree) out after put) →
        r ≡ written put →
        WritesPolicy table policy (length out) after r
    unfolding ask_policy_writing ◌>>=◌
    policy-written {out} {after} w s =
        let (tree, is) = policy_was_passed table policy (sym e ∙ same) in
        text-written _ (policy_text tree) out after (rw is) (w tree (accepted-asked table policy tree is).1) s

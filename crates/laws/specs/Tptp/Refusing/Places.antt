-- Places of a refused reading of a policy's text: a byte's, or a word's of the policy.
use Rattle.std.specs.Prelude.{ℕ, ◌≤◌, max, ◌≡◌, refl, length}
use Rattle.std.proofs.Common.{arith, subst, ⊎_elim}
use Rattle.std.specs.Prelude.{Err}
use Rattle.model.specs.declared.Refusal.{Refusal}
use Rattle.model.specs.Words.{Words, policy_limit}
use Rattle.model.specs.Answer.{Outcome, refused, passed, refused_at}
use Rattle.model.specs.Table.{ask_table}
use Rattle.model.specs.Tree.{Tree, encode}
use Rattle.model.specs.Bytes.{Text}
use Rattle.model.specs.TptpReading.{read_text}
use Rattle.model.specs.Calls.{result, ask_policy, ask_policy_reading, read_policy_call}
use Rattle.laws.specs.Answer.{answer-refused}
use Rattle.laws.specs.Calls.Places.{Within, within_then, within_more, table-within, policy-within}
use Rattle.laws.specs.Calls.Room.{fit-within}
use Rattle.laws.specs.Tptp.Refusing.Place.{tptp_reason, tptp_begins, tptp_level}

-- questions 15, and 4 of parentheses: the place of a byte, or the text's end
text-within : (text : Text) → Within (length text) (read_text text)
unfolding read_text
text-within text = go (read_text text) refl
  where
    go : (o : Outcome Tree) → read_text text ≡ o → Within (length text) o
    go (refused r p) e =
        ⊎_elim
        (λ is. (tptp_begins 255 text p (rw is at e)).0)
        (λ is. omega (arith, (tptp_level 255 text p (rw is at e)).0))
        (tptp_reason 255 text r p e)
    go (passed tree) e = tt

-- all questions of a reading
asking-within :
    (table : Words) (text : Text) (buffer : ℕ) →
    Within (max policy_limit (length text)) (ask_policy_reading table text buffer)
unfolding ask_policy_reading
asking-within table text buffer =
    let n = max policy_limit (length text) in
    within_then n (ask_table table) _ (within_more 256 n (ask_table table) (omega arith) (table-within table)) λ _ _.
    within_then n (read_text text) _ (within_more (length text) n (read_text text) (omega arith) (text-within text)) λ tree _.
    within_then n (ask_policy table (encode tree)) _
    (within_more policy_limit n (ask_policy table (encode tree)) (omega arith) (policy-within table (encode tree))) λ _ _.
    fit-within buffer (encode tree) n

-- the place of a refused reading is at most the limit of a policy's words or the text's length
pub reading-within :
    (table : Words) (text : Text) (buffer : ℕ) (r : Refusal) (p : ℕ) →
    (read_policy_call table text buffer).answer ≡ Err (refused_at r p) →
    p ≤ max policy_limit (length text)
unfolding read_policy_call result
reading-within table text buffer r p e =
    subst (Within (max policy_limit (length text)))
    (answer-refused length (ask_policy_reading table text buffer) r p e)
    (asking-within table text buffer)

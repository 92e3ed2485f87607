-- A text that is refused by question 15 spells no tree, and no text does that begins with its bytes up to the place of the
-- refusal and the byte there.
use Rattle.std.specs.Prelude.{ℕ, suc, ◌+◌, ◌<◌, ◌≡◌, true, ◌++◌, length, take, drop}
use Rattle.std.proofs.Common.{arith, sym, ◌∙◌, ⊎_elim, take-append-drop, length-take-le}
use Rattle.model.specs.Bytes.{Text}
use Rattle.model.specs.Answer.{Outcome, refused}
use Rattle.model.specs.Tree.{Tree}
use Rattle.model.specs.Tptp.{Spells}
use Rattle.model.specs.TptpReading.{Got, read_whole, tree_of, read_tptp}
use Rattle.model.specs.declared.Refusal.{Refusal}
use Rattle.model.specs.declared.Refusal.TheVariants.{Level, Tptp}
use Rattle.laws.specs.Answer.{refused-passed}
use Rattle.laws.specs.Lists.Span.{side}
use Rattle.laws.specs.Tptp.Limits.Opened.{opened}
use Rattle.laws.specs.Tptp.Refusing.Place.{tree-refused}
use Rattle.laws.proofs.Tptp.Complete.Policies.{tptp_complete, tptp_over}
use Rattle.laws.specs.Tptp.Refusing.Local.{Late, late_pass, late-stop, Shares, both_pass, both-stop, behind-front, Local, then_local}
use Rattle.laws.specs.Tptp.Refusing.Local.{give_local, blanks_local, token_local, name_local, ending_local}
use Rattle.laws.specs.Tptp.Refusing.LocalTrees.{whole_local, readers_local}

text_local : (room : ℕ) → Local (read_whole room)
unfolding read_whole
text_local room =
    then_local _ (token_local _) λ _.
    then_local _ (token_local _) λ _.
    then_local _ name_local λ _.
    then_local _ (token_local _) λ _.
    then_local _ (token_local _) λ _.
    then_local _ (token_local _) λ _.
    then_local _ (whole_local _ ((readers_local room).operand true 0)) λ t.
    then_local _ (token_local _) λ _.
    then_local _ (token_local _) λ _.
    then_local _ blanks_local λ _.
    then_local _ ending_local λ _. give_local t

-- a refusal by question 4 is none by question 15
pub level_tptp : {A : Type 0} {p q : ℕ} → ◌≡◌ {A = Outcome A} (refused Level q) (refused Tptp p) → ⊥
level_tptp e = let z : ◌≡◌ {A = ℕ} 0 1 = cc in omega arith

-- a text that spells a tree is not refused by question 15
spelled-read : (room : ℕ) (text : Text) (p : ℕ) (tree : Tree) → read_tptp room text ≡ refused Tptp p → Spells text tree → ⊥
spelled-read room text p tree e s =
    ⊎_elim
    (λ l. let (q, is) = tptp_over room text tree s l in level_tptp (sym is ∙ e))
    (λ l. refused-passed (sym e ∙ tptp_complete room text tree s l))
    (side (opened tree) room)

-- a text that is refused within a front is refused so whatever stands behind the front
pub refused-within :
    (room : ℕ) (front s₁ s₂ : Text) (r : Refusal) (p : ℕ) →
    p < length front →
    read_tptp room (front ++ s₁) ≡ refused r p →
    read_tptp room (front ++ s₂) ≡ refused r p
unfolding read_tptp tree_of
refused-within room front s₁ s₂ r p l e =
    go ((text_local room).shares front s₁ s₂ 0) (tree-refused (read_whole room (front ++ s₁) 0) e)
  where
    late : {o : Outcome (Got Tree)} → Late (0 + length front) o → o ≡ refused r p → ⊥
    late (late_pass {g} h) e = refused-passed (sym e)
    late (late-stop {q} h) e = let place : q ≡ p = cc in omega arith

    go : {o₁ o₂ : Outcome (Got Tree)} → Shares front s₁ s₂ 0 o₁ o₂ → o₁ ≡ refused r p → tree_of o₂ ≡ refused r p
    go (both_pass used left is place) e = refused-passed (sym e)
    go (both-stop {r = r'} {q} h) e = let reason : r' ≡ r = cc in let place : q ≡ p = cc in rw (reason, place)
    go (behind-front h) e = absurd (late h e)

-- the place of a text that is refused by question 15
pub tptp_nowhere :
    (room : ℕ) (text : Text) (p : ℕ) →
    read_tptp room text ≡ refused Tptp p →
    (rest : Text) (tree : Tree) →
    (p < length text → Spells (take (suc p) text ++ rest) tree → ⊥) × (p ≡ length text → Spells text tree → ⊥)
tptp_nowhere room text p e rest tree = (
  λ l s.
      let front = take (suc p) text in
      let long : length front ≡ suc p = length-take-le (suc p) text (omega arith) in
      let whole : read_tptp room (front ++ drop (suc p) text) ≡ refused Tptp p = rw take-append-drop e in
      spelled-read room (front ++ rest) p tree (refused-within room front (drop (suc p) text) rest Tptp p (omega arith) whole) s,
  λ _ s. spelled-read room text p tree e s,
)

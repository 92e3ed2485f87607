-- The place of a text that is refused: the bytes before it begin a text that spells a tree; with the parenthesis at it, where the
-- refusal is by the number of parentheses.
use Rattle.std.specs.Prelude.{ℕ, suc, ◌≤◌, ◌<◌, ◌≡◌, refl, ◌⊎◌, [], ◌∷◌, ◌++◌, length, take, get_or}
use Rattle.std.proofs.Common.{arith, sym, ap, ◌∙◌, inl, inr, length-append, take_at}
use Rattle.std.proofs.lemmas.List.{get_or_at}
use Rattle.std.proofs.Math.Seq.{append_snoc}
use Rattle.model.specs.Bytes.{Text, parenthesis}
use Rattle.model.specs.Answer.{Outcome, passed, refused}
use Rattle.model.specs.Tree.{Tree}
use Rattle.model.specs.Tptp.{Spells, Begins}
use Rattle.model.specs.TptpReading.{Got, read_whole, tree_of, read_tptp}
use Rattle.model.specs.declared.Refusal.{Refusal}
use Rattle.model.specs.declared.Refusal.TheVariants.{Level, Tptp}
use Rattle.laws.specs.Answer.{refused-passed}
use Rattle.laws.specs.Tptp.Sound.Readers.{Ends, at_the_end, at_last, Stopped, comes-refused}
use Rattle.laws.specs.Tptp.Sound.Texts.{text-reads}

-- a tree that is refused was refused in the reading
pub tree-refused : (o : Outcome (Got Tree)) {r : Refusal} {p : ℕ} → tree_of o ≡ refused r p → o ≡ refused r p
unfolding tree_of
tree-refused (refused f q) {r} {p} e = let reason : f ≡ r = cc in let place : q ≡ p = cc in rw (reason, place)
tree-refused (passed g) e = refused-passed (sym e)

-- a text that is refused, with the bytes that begin a text that is not
stopped :
    (room : ℕ) (text : Text) (r : Refusal) (p : ℕ) →
    read_tptp room text ≡ refused r p →
    Stopped (λ t u. Spells u t) text 0 r p
unfolding read_tptp
stopped room text r p e =
    comes-refused tt ((text-reads {told = Unit {0}} room).comes text 0) (tree-refused (read_whole room text 0) e)

-- so many bytes of it begin one
stopped-begins :
    {text : Text} {r : Refusal} {p : ℕ} (s : Stopped (λ t u. Spells u t) text 0 r p) (n : ℕ) →
    length s.done ≡ n →
    (n ≤ length text) × Begins (take n text)
unfolding Begins
stopped-begins {text} s n e =
    let front : take n text ≡ s.done = ap (take n) s.split ∙ take_at s.done s.rest n e in (
      omega (arith, ap length s.split, length-append s.done s.rest),
      (s.more, s.value, rw front s.spells),
    )

-- no other question refuses it
pub tptp_reason :
    (room : ℕ) (text : Text) (r : Refusal) (p : ℕ) →
    read_tptp room text ≡ refused r p →
    (r ≡ Tptp) ⊎ (r ≡ Level)
tptp_reason room text r p e = go (stopped room text r p e).ends
  where
    go : {done : Text} {r : Refusal} → Ends 0 p done r → (r ≡ Tptp) ⊎ (r ≡ Level)
    go (at_the_end place) = inl refl
    go (at_last front is place) = inr refl

-- a refusal by question 15
pub tptp_begins :
    (room : ℕ) (text : Text) (p : ℕ) →
    read_tptp room text ≡ refused Tptp p →
    (p ≤ length text) × Begins (take p text)
tptp_begins room text p e = let s = stopped room text Tptp p e in stopped-begins s p (length-done s.ends)
  where
    length-done : {done : Text} → Ends 0 p done Tptp → length done ≡ p
    length-done (at_the_end place) = omega arith

-- a refusal by question 4
pub tptp_level :
    (room : ℕ) (text : Text) (p : ℕ) →
    read_tptp room text ≡ refused Level p →
    (p < length text) × (get_or text p 0 ≡ 40) × Begins (take (suc p) text)
tptp_level room text p e =
    let s = stopped room text Level p e in
    let (length-done, byte) = go s.rest s.ends s.split in
    let (within, begins) = stopped-begins s (suc p) length-done in
    (within, byte, begins)
  where
    go :
        {done : Text} (rest : Text) →
        Ends 0 p done Level →
        text ≡ done ++ rest →
        (length done ≡ suc p) × (get_or text p 0 ≡ 40)
    go rest (at_last front is place) e =
        let all = e ∙ ap (λ (t : Text). t ++ rest) is ∙ append_snoc front parenthesis rest in (
          ap length is ∙ omega (arith, length-append front (parenthesis ∷ [])),
          ap (λ (t : Text). get_or t p 0) all ∙ get_or_at front parenthesis rest 0 p (omega arith),
        )

-- The parenthesis that is one too many: where it may stand, it is refused at its place, whatever follows. And how many stand open
-- in the tokens of a tree is how many do in every text that spells it.
use Rattle.std.specs.Prelude.{ℕ, zero, suc, ◌<◌, ◌≡◌, true, take}
use native.Mathlib.Omega.{arith}
use Rattle.std.proofs.Math.Path.{refl, ap, subst}
use Rattle.std.proofs.Common.{sym, ◌∙◌, ⊎_elim, take_at, take-suc, take-take}
use Rattle.std.proofs.Math.Bool.{false}
use mathlib.Core.List.{[], ◌∷◌, ◌++◌, append_assoc}
use Rattle.std.proofs.Math.ListN.{length, length-append}
use Rattle.std.proofs.Math.Seq.{take-append_seam, append_snoc}
use Rattle.std.proofs.lemmas.List.{take-append-le}
use Rattle.model.specs.Bytes.{Text, bytes, blank, parenthesis}
use Rattle.model.specs.Lists.{all}
use Rattle.model.specs.Answer.{refused}
use Rattle.model.specs.Tree.{Tree}
use Rattle.model.specs.Tptp.{parenthesis_limit, Stand, parenthesized, text_tokens, Spells, Begins}
use Rattle.model.specs.TptpReading.{read_tptp, read_text}
use Rattle.model.specs.declared.Refusal.TheVariants.{Level}
use Rattle.laws.specs.Words.Tests.{and_left, and_right}
use Rattle.laws.specs.Lists.Span.{side, order}
use Rattle.laws.specs.Tptp.Limits.Opened.{closing, opened}
use Rattle.laws.specs.Tptp.Refusing.Place.{tptp_level}
use Rattle.laws.proofs.Tptp.Complete.Policies.{tptp_complete, tptp_over}
use Rattle.laws.proofs.Tptp.Refusing.Nowhere.{refused-within}
use Rattle.laws.specs.Tptp.Limits.Balance.{occurs, occurs-append, Open, OpenAtMost, other_byte}
use Rattle.laws.proofs.Tptp.Limits.OpenAtRefusal.{tptp_open, tptp_before, tptp_within}

-- one parenthesis more
open_more : (n : ℕ) (u : Text) → Open n u → Open (suc n) (u ++ parenthesis ∷ [])
unfolding occurs
open_more n u e =
    omega (arith, occurs-append parenthesis u (parenthesis ∷ []), occurs-append closing u (parenthesis ∷ []))

-- where a text is refused by question 4, the parenthesis there is one too many
level-more :
    (room : ℕ) (text : Text) (p : ℕ) →
    read_tptp room text ≡ refused Level p →
    Open (suc (suc room)) (take (suc p) text)
level-more room text p e =
    let (within, byte, _) = tptp_level room text p e in
    let part = take-suc text p 0 within ∙ ap (λ (b : ℕ). take p text ++ b ∷ []) byte in
    subst (Open (suc (suc room))) (sym part) (open_more (suc room) (take p text) (tptp_open room text p e))

module _
    (room : ℕ) (front : Text) (begins : Begins (front ++ parenthesis ∷ [])) (most : OpenAtMost (suc room) front)
    (full : Open (suc room) front) where
  -- no text that begins with these bytes has enough room
  too_many : (text : Text) → OpenAtMost (suc room) text → take (suc (length front)) text ≡ front ++ parenthesis ∷ [] → ⊥
  too_many text h e =
      let l : Open (suc (suc room)) (take (suc (length front)) text) =
      subst (Open (suc (suc room))) (sym e) (open_more (suc room) front full) in
      omega (arith, h (suc (length front)))

  -- the allowed text that begins with them is refused there
  first-refused :
      (more : Text) (tree : Tree) →
      Spells ((front ++ parenthesis ∷ []) ++ more) tree →
      read_tptp room ((front ++ parenthesis ∷ []) ++ more) ≡ refused Level (length front)
  first-refused more tree s =
      ⊎_elim
      (λ l.
      let (q, e) = tptp_over room text tree s l in
      ⊎_elim
      (λ k. absurd (early q e k))
      (λ k. ⊎_elim (λ is. e ∙ ap (refused Level) is) (λ h. absurd (late q e h)) k)
      (order q (length front)))
      (λ l. absurd (too_many text (tptp_within room text tree (tptp_complete room text tree s l)) begin))
      (side (opened tree) room)
    where
      text : Text
      text = (front ++ parenthesis ∷ []) ++ more

      begin : take (suc (length front)) text ≡ front ++ parenthesis ∷ []
      begin =
          let long : length (front ++ parenthesis ∷ []) ≡ suc (length front) =
          length-append front (parenthesis ∷ []) ∙ omega arith in
          take_at (front ++ parenthesis ∷ []) more _ long

      early : (q : ℕ) → read_tptp room text ≡ refused Level q → q < length front → ⊥
      early q e l =
          let part : take (suc q) text ≡ take (suc q) front =
          ap (take (suc q)) (append_assoc front (parenthesis ∷ []) more) ∙ take-append-le (suc q) front _ l in
          let h : Open (suc (suc room)) (take (suc q) front) =
          subst (Open (suc (suc room))) part (level-more room text q e) in
          omega (arith, most (suc q))

      late : (q : ℕ) → read_tptp room text ≡ refused Level q → length front < q → ⊥
      late q e l = too_many (take q text) (tptp_before room text q e) (take-take (suc (length front)) q text l ∙ begin)

  -- and every text is
  pub tptp_limit : (rest : Text) → read_tptp room (front ++ parenthesis ∷ rest) ≡ refused Level (length front)
  unfolding Begins
  tptp_limit rest =
      let (more, tree, s) = begins in
      let l : length front < length (front ++ parenthesis ∷ []) = omega (arith, length-append front (parenthesis ∷ [])) in
      ap (read_tptp room) (sym (append_snoc front parenthesis rest))
      ∙ refused-within room (front ++ parenthesis ∷ []) more rest Level (length front) l (first-refused more tree s)

-- the 257th parenthesis open at once is 4 at its byte, where one may stand, and nothing behind it is read
pub text-limit :
    (front : Text) →
    Begins (front ++ parenthesis ∷ []) →
    OpenAtMost parenthesis_limit front →
    Open parenthesis_limit front →
    (rest : Text) →
    read_text (front ++ parenthesis ∷ rest) ≡ refused Level (length front)
unfolding read_text
text-limit front begins most full rest = tptp_limit 255 front begins most full rest

-- blanks are no parentheses
blanks-occurs : (c : ℕ) (gap : Text) → blank c ≡ false → all blank gap ≡ true → occurs c gap ≡ 0
unfolding all occurs
blanks-occurs c [] k e = refl
blanks-occurs c (b ∷ gap) k e =
    rw (other_byte blank c k b (and_left (blank b) _ e)) (blanks-occurs c gap k (and_right (blank b) _ e))

-- how many parentheses of a tree stand open at once: in no front part of a text that spells it are there more, and in one there are
-- so many, with the first parenthesis of the text
module _ (text : Text) (tree : Tree) (s : Spells text tree) where
  pub opened-most : OpenAtMost (suc (opened tree)) text
  opened-most = tptp_within (opened tree) text tree (tptp_complete (opened tree) text tree s (omega arith))

  -- this one: before it stand blanks and the word `tff`
  first_open : (n : ℕ) × Open 1 (take n text)
  unfolding bytes blank occurs parenthesized text_tokens Stand Spells
  first_open =
      let (name, rest, lower, good, (gap₁, behind₁, e₁, is₁, stand), end) = s in
      let (gap₂, behind₂, e₂, is₂, _) = stand in
      let front = gap₁ ++ bytes "tff" ++ gap₂ in
      let none : (c : ℕ) → blank c ≡ false → occurs c (bytes "tff") ≡ 0 → occurs c front ≡ 0 =
      λ c k z.
      omega (
        arith,
        blanks-occurs c gap₁ k e₁,
        blanks-occurs c gap₂ k e₂,
        occurs-append c gap₁ (bytes "tff"),
        occurs-append c (gap₁ ++ bytes "tff") gap₂,
      ) in
      let one : Open 1 (front ++ parenthesis ∷ []) =
      open_more 0 front (omega (arith, none parenthesis refl refl, none closing refl refl)) in
      let whole : text ≡ (front ++ parenthesis ∷ []) ++ behind₂ =
      is₁ ∙ ap (λ (t : Text). gap₁ ++ bytes "tff" ++ t) is₂ ∙ simp append_assoc in
      let part = ap (take (length (front ++ parenthesis ∷ []))) whole ∙ take-append_seam (front ++ parenthesis ∷ []) behind₂ in
      (length (front ++ parenthesis ∷ []), subst (Open 1) (sym part) one)

  pub opened_reached : (n : ℕ) × Open (suc (opened tree)) (take n text)
  opened_reached = go (opened tree) refl
    where
      go : (k : ℕ) → opened tree ≡ k → (n : ℕ) × Open (suc k) (take n text)
      go zero e = first_open
      go (suc room) e =
          let (p, is) = tptp_over room text tree s (omega arith) in
          (suc p, level-more room text p is)

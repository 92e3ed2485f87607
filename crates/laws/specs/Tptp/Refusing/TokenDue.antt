-- Texts that end where a token is due: a reader that begins with one is refused at the end of such a text, and what comes of it
-- in a longer text is decided behind this front. At a parenthesis for which there is no room it is refused there.
use Prim.Native.Nat.{ℕ, zero, suc, ◌+◌, ◌-◌}
use native.Mathlib.Omega.{arith}
use Rattle.std.specs.Prelude.{◌≡◌, refl, Bool, true, false, cond, [], ◌∷◌, ◌++◌, eqb}
use Rattle.std.proofs.Common.{sym, ap, ◌∙◌, append-nil}
use Rattle.std.proofs.Math.ListN.{length, length-append}
use Rattle.model.specs.Bytes.{Text, bytes, blank, ampersand, parenthesis}
use Rattle.model.specs.Lists.{all}
use Rattle.model.specs.Answer.{Outcome, passed, refused}
use Rattle.model.specs.Tree.{Tree}
use Rattle.model.specs.Tptp.{variable_token}
use Rattle.model.specs.TptpReading.{Got, Reader, Readers, give, onwards, ◌>>=◌, blanks, peek, literal, look, token, opening, up_to, more}
use Rattle.model.specs.TptpReading.{unequal, read_unequals, read_tuple, joining, read_join, read_operand, no_readers, readers}
use Rattle.model.specs.declared.Refusal.{Refusal}
use Rattle.model.specs.declared.Refusal.TheVariants.{Level, Tptp}
use Rattle.laws.specs.Words.Tests.{and_left, and_right}
use Rattle.laws.specs.Answer.{refused-passed}
use Rattle.laws.specs.Tptp.Refusing.Local.{Late, late-stop, Shares, both_pass, both-stop, behind-front, Local}

module _ {A : Type 0} where
  -- what is refused at the end of a front is decided behind it in a longer text
  end_shares :
      {front s₁ s₂ : Text} {p n : ℕ} {o₁ o₂ : Outcome (Got A)} →
      Shares front s₁ s₂ p o₁ o₂ →
      o₂ ≡ refused Tptp n →
      n ≡ p + length front →
      Late (p + length front) o₁
  end_shares (both_pass used left is place) e l = refused-passed (sym e)
  end_shares {n} (both-stop {q} h) e l = let place : q ≡ n = cc in late-stop {q = q} (omega arith)
  end_shares (behind-front h) e l = h

  pub end_late :
      {r : Reader A} →
      Local r →
      (front s : Text) (p n : ℕ) →
      r front p ≡ refused Tptp n →
      n ≡ p + length front →
      Late (p + length front) (r (front ++ s) p)
  end_late {r} h front s p n e l =
      end_shares (h.shares front s [] p) (ap (λ (t : Text). r t p) (append-nil front) ∙ e) l

-- blanks in front are passed
blanks-over : (gap t : Text) (p : ℕ) → all blank gap ≡ true → blanks (gap ++ t) p ≡ blanks t (p + length gap)
unfolding all blanks
blanks-over [] t p e = ap (blanks t) (omega arith)
blanks-over (b ∷ gap) t p e =
    let place : suc p + length gap ≡ p + suc (length gap) = omega arith in
    rw (and_left (blank b) _ e)
    (blanks-over gap t (suc p) (and_right (blank b) _ e) ∙ ap (blanks t) place)

-- a reader that begins with a token is refused at the end of blanks
abbrev pub Waits : {A : Type 0} (r : Reader A) → Type 0
Waits r = (gap : Text) (p : ℕ) → all blank gap ≡ true → r gap p ≡ refused Tptp (p + length gap)

blanks_end :
    (gap : Text) (p : ℕ) →
    all blank gap ≡ true →
    blanks gap p ≡ passed (record { what = tt; rest = []; at = p + length gap })
unfolding blanks
blanks_end gap p e = ap (λ (t : Text). blanks t p) (sym (append-nil gap)) ∙ blanks-over gap [] p e

pub look_waits : Waits look
unfolding peek look onwards ◌>>=◌
look_waits gap p e = rw (blanks_end gap p e)

token_waits : (b : ℕ) (w : Text) → Waits (token (b ∷ w))
unfolding literal token onwards ◌>>=◌
token_waits b w gap p e = rw (blanks_end gap p e)

pub then_waits : {A B : Type 0} (next : A → Reader B) {r : Reader A} → Waits r → Waits (r >>= next)
unfolding onwards ◌>>=◌
then_waits next h gap p e = rw (h gap p e)

opening_waits : (room : ℕ) → Waits (opening room)
unfolding bytes opening
opening_waits zero = then_waits _ look_waits
opening_waits (suc room) = token_waits _ _

unequals_waits : (n x : ℕ) → Waits (read_unequals n x)
unfolding bytes variable_token unequal read_unequals
unequals_waits zero x = then_waits _ (then_waits _ (token_waits _ _))
unequals_waits (suc n) x = then_waits _ (then_waits _ (token_waits _ _))

pub tuple_waits : (room v x : ℕ) → Waits (read_tuple room v x)
unfolding read_tuple
tuple_waits room v x = go (eqb v 1)
  where
    go :
        (b : Bool) →
        Waits (cond b (read_unequals 0 x)
        (do
          _ ← opening room
          ks ← read_unequals (v - 1) x
          _ ← token (bytes ")")
          give ks))
    go true = unequals_waits 0 x
    go false = then_waits _ (opening_waits room)

pub operand_waits : (room : ℕ) (formula : Bool) (scope : ℕ) → Waits ((readers room).operand formula scope)
unfolding read_operand readers
operand_waits zero formula scope = then_waits _ look_waits
operand_waits (suc room) formula scope = then_waits _ look_waits

-- a reader that begins with a parenthesis and a token: with room it is refused at the end of blanks, a parenthesis and blanks,
-- and with none at the parenthesis, whatever stands behind it
unfoldable pub Holds : ℕ → {A : Type 0} → Reader A → Type 0
Holds zero r =
    (gap t : Text) (p : ℕ) → all blank gap ≡ true → r (gap ++ parenthesis ∷ t) p ≡ refused Level (p + length gap)
Holds (suc room) r =
    (gap₁ gap₂ : Text) (p : ℕ) →
    all blank gap₁ ≡ true →
    all blank gap₂ ≡ true →
    r (gap₁ ++ parenthesis ∷ gap₂) p ≡ refused Tptp (suc (p + length gap₁) + length gap₂)

opening-holds :
    {A : Type 0} (room : ℕ) {next : Reader A} →
    ((r : ℕ) → room ≡ suc r → Waits next) →
    Holds room (opening room >>= λ _. next)
unfolding bytes blank blanks peek literal look token opening onwards ◌>>=◌ Holds
opening-holds zero h = λ gap t p e. rw (blanks-over gap (parenthesis ∷ t) p e)
opening-holds (suc room) h = λ gap₁ gap₂ p e₁ e₂.
    rw (blanks-over gap₁ (parenthesis ∷ gap₂) p e₁, h room refl gap₂ (suc (p + length gap₁)) e₂)

operand-holds :
    (room : ℕ) (below : Readers) (formula : Bool) (scope : ℕ) →
    ((r : ℕ) → room ≡ suc r → Waits (below.operand formula scope)) →
    Holds room (read_operand room below formula scope)
unfolding bytes blank blanks peek literal look token opening onwards ◌>>=◌ read_join read_operand Holds
operand-holds zero below formula scope h = λ gap t p e. rw (blanks-over gap (parenthesis ∷ t) p e)
operand-holds (suc room) below formula scope h = λ gap₁ gap₂ p e₁ e₂.
    rw (blanks-over gap₁ (parenthesis ∷ gap₂) p e₁, h room refl gap₂ (suc (p + length gap₁)) e₂)

pub readers_hold : (room : ℕ) (formula : Bool) (scope : ℕ) → Holds room ((readers room).operand formula scope)
unfolding readers
readers_hold zero formula scope = operand-holds zero no_readers formula scope (λ r e. absurd (omega arith))
readers_hold (suc room) formula scope =
    operand-holds (suc room) (readers room) formula scope (λ r e. operand_waits room formula scope)

pub tuple-holds : (room v x : ℕ) → eqb v 1 ≡ false → Holds room (read_tuple room v x)
unfolding read_tuple
tuple-holds room v x k = rw k (opening-holds room λ r is. then_waits _ (unequals_waits (v - 1) x))

-- behind an ampersand one more item is due, and where it is refused all are
module _ {A : Type 0} (one : Reader A) (t : Text) (r : Refusal) (n : ℕ) where
  pub more-refused :
      (gap : Text) (p : ℕ) →
      all blank gap ≡ true →
      one t (suc (p + length gap)) ≡ refused r n →
      more ampersand one (gap ++ ampersand ∷ t) p ≡ refused r n
  unfolding blank blanks peek literal look token up_to more onwards ◌>>=◌
  more-refused gap p e k =
      let long : length (gap ++ ampersand ∷ t) ≡ suc (length gap + length t) =
      length-append gap (ampersand ∷ t) ∙ omega arith in
      rw (long, blanks-over gap (ampersand ∷ t) p e, k)

-- the same of the further operands of an all-of
pub joining-refused :
    (alone : Reader Tree) (first : Tree) (one : Reader Tree) (t : Text) (r : Refusal) (n : ℕ) (gap : Text) (p : ℕ) →
    all blank gap ≡ true →
    one t (suc (p + length gap)) ≡ refused r n →
    joining alone first one (gap ++ ampersand ∷ t) p ≡ refused r n
unfolding all blank blanks peek look onwards ◌>>=◌ joining
joining-refused alone first one t r n gap p e k =
    let q = p + length gap in
    let same : q + 0 ≡ q = omega arith in
    rw (blanks-over gap (ampersand ∷ t) p e, more-refused one t r n [] q refl (rw same k))

-- The readers of several items, of atoms and comparisons, of bound variables and of excluded tuples decide by the bytes they have
-- read.
use Prim.Native.Nat.{ℕ, zero, suc, ◌-◌, ◌≤◌, ◌<◌}
use Rattle.std.proofs.Common.{arith, ◌∙◌}
use Rattle.std.specs.Prelude.{◌≡◌, Bool, true, false, eqb}
use Rattle.std.proofs.Math.Path.{ap}
use Rattle.std.proofs.Math.Logic.{⊎_elim}
use mathlib.Core.List.{List, [], ◌∷◌, ◌++◌}
use Rattle.std.proofs.Math.ListN.{length, length-append}
use Rattle.model.specs.Bytes.{Text, comma, letter_p, letter_t, letter_f}
use Rattle.model.specs.Answer.{Outcome, passed}
use Rattle.model.specs.Tptp.{Stand}
use Rattle.model.specs.TptpReading.{Got, Reader, give, ◌>>=◌, token, up_to, more, term, terms, read_atom, read_compare, read_dollar}
use Rattle.model.specs.TptpReading.{read_negated, declaration, variables, read_binder, unequal, read_unequals, read_tuple}
use Rattle.laws.specs.Words.Tests.{decide}
use Rattle.laws.specs.Tptp.Sound.Readers.{comes-passed}
use Rattle.laws.specs.Tptp.Sound.Tokens.{token-reads}
use Rattle.laws.specs.Tptp.Sound.Lists.{another, none_or}
use Rattle.laws.specs.Tptp.Refusing.Local.{Shares, behind-front, Local, late-more, local_late, then_shares, then_local, give-shares}
use Rattle.laws.specs.Tptp.Refusing.Local.{give_local, cond_local, look_local, peek_local, literal_local, token_local, natural_local}
use Rattle.laws.specs.Tptp.Refusing.Local.{integer_local, term_local, opening_local}

-- a byte that is read makes the text shorter
byte_shorter :
    (c : ℕ) (text : Text) (p : ℕ) (g : Got (Unit {0})) →
    token (c ∷ []) text p ≡ passed g →
    length g.rest < length text
unfolding Stand
byte_shorter c text p g e =
    let read = comes-passed ((token-reads {told = ⊥} (c ∷ [])).comes text p) e in
    let (gap, behind, blanks, is, none) = read.spells.stand in
    let used = ap length is ∙ length-append (gap ++ c ∷ []) behind in
    omega (arith, length-append gap (c ∷ []), ap length read.split ∙ length-append read.used g.rest)

module _ {A : Type 0} (c : ℕ) (one : Reader A) (h : Local one) where
  another_local : (n : ℕ) → Local (up_to n c one) → Local (another c one n)
  another_local n k =
      then_local _ (token_local (c ∷ [])) λ _.
      then_local _ h λ x.
      then_local _ k λ xs. give_local (x ∷ xs)

  up_to_local : (n : ℕ) → Local (up_to n c one)
  unfolding up_to
  up_to_local zero = give_local []
  up_to_local (suc n) = then_local _ look_local λ b. cond_local (eqb b c) (another_local n (up_to_local n)) (give_local [])

  -- with no front
  up_to-late :
      (n : ℕ) {front s₁ s₂ : Text} {p : ℕ} {o : Outcome (Got (List A))} →
      length front ≤ 0 →
      Shares front s₁ s₂ p (up_to n c one (front ++ s₁) p) o
  up_to-late n {front} {s₁} {p} l = behind-front (late-more (omega arith) (local_late (up_to_local n) (front ++ s₁) p))

  -- one more, and those behind it
  another-shares :
      (n₁ n₂ : ℕ) (front s₁ s₂ : Text) (p : ℕ) →
      length (front ++ s₁) ≤ suc n₁ →
      length (front ++ s₂) ≤ suc n₂ →
      ((left : Text) (q : ℕ) →
      length (left ++ s₁) ≤ n₁ →
      length (left ++ s₂) ≤ n₂ →
      Shares left s₁ s₂ q (up_to n₁ c one (left ++ s₁) q) (up_to n₂ c one (left ++ s₂) q)) →
      Shares front s₁ s₂ p (another c one n₁ (front ++ s₁) p) (another c one n₂ (front ++ s₂) p)
  unfolding ◌>>=◌ give
  another-shares n₁ n₂ front s₁ s₂ p l₁ l₂ k =
      then_shares _ _ ((token_local (c ∷ [])).shares front s₁ s₂ p)
      (λ _ used₁ left₁ q₁ is₁ place₁ e₁.
      let shorter = byte_shorter c (front ++ s₁) p _ e₁ in
      then_shares _ _ (h.shares left₁ s₁ s₂ q₁)
      (λ x used₂ left₂ q₂ is₂ place₂ e₂.
      let part = ap length is₂ ∙ length-append used₂ left₂ in
      let first = length-append left₂ s₁ in
      let second = length-append left₂ s₂ in
      then_shares _ _
      (k left₂ q₂
      (omega (arith, length-append front s₁, length-append left₁ s₁))
      (omega (arith, length-append front s₁, length-append left₁ s₁, length-append front s₂)))
      (λ xs used₃ left₃ q₃ is₃ place₃ e₃. give-shares (x ∷ xs) left₃ s₁ s₂ q₃)
      (λ xs text q. local_late (give_local (x ∷ xs)) text q))
      (λ x text q. local_late (then_local _ (up_to_local n₁) λ xs. give_local (x ∷ xs)) text q))
      (λ _ text q. local_late (then_local _ h λ x. then_local _ (up_to_local n₁) λ xs. give_local (x ∷ xs)) text q)

  -- as many as there are, in texts of different lengths
  up_to-shares :
      (n₁ n₂ : ℕ) (front s₁ s₂ : Text) (p : ℕ) →
      length (front ++ s₁) ≤ n₁ →
      length (front ++ s₂) ≤ n₂ →
      Shares front s₁ s₂ p (up_to n₁ c one (front ++ s₁) p) (up_to n₂ c one (front ++ s₂) p)
  unfolding up_to ◌>>=◌ give
  up_to-shares zero n₂ front s₁ s₂ p l₁ l₂ = up_to-late zero (omega (arith, length-append front s₁))
  up_to-shares (suc n₁) zero front s₁ s₂ p l₁ l₂ = up_to-late (suc n₁) (omega (arith, length-append front s₂))
  up_to-shares (suc n₁) (suc n₂) front s₁ s₂ p l₁ l₂ =
      then_shares (none_or c one n₁) (none_or c one n₂) (look_local.shares front s₁ s₂ p)
      (λ b used left q is place e.
      let part = ap length is ∙ length-append used left in
      ⊎_elim
      (λ k.
      rw k
      (another-shares n₁ n₂ left s₁ s₂ q
      (omega (arith, length-append front s₁, length-append left s₁))
      (omega (arith, length-append front s₂, length-append left s₂))
      (λ left q h₁ h₂. up_to-shares n₁ n₂ left s₁ s₂ q h₁ h₂)))
      (λ k. rw k (give-shares [] left s₁ s₂ q))
      (decide (eqb b c)))
      (λ b text q. local_late (cond_local (eqb b c) (another_local n₁ (up_to_local n₁)) (give_local [])) text q)

  pub more_local : Local (more c one)
  unfolding more
  more_local = record {
    shares = λ front s₁ s₂ p.
        up_to-shares (length (front ++ s₁)) (length (front ++ s₂)) front s₁ s₂ p (omega arith) (omega arith);
  }

terms_local : Local terms
unfolding terms
terms_local = then_local _ term_local λ t. then_local _ (up_to_local comma term term_local 5) λ ts. give_local (t ∷ ts)

pub atom_local : (room : ℕ) (b : Bool) → Local (read_atom room b)
unfolding read_atom
atom_local room b =
    then_local _ (token_local _) λ _.
    then_local _ natural_local λ p.
    then_local _ (opening_local room) λ _.
    then_local _ terms_local λ ts.
    then_local _ (token_local _) λ _. give_local _

compare_local : (room : ℕ) (b : Bool) → Local (read_compare room b)
unfolding read_compare
compare_local room b =
    then_local _ (opening_local room) λ _.
    then_local _ (token_local _) λ _.
    then_local _ (opening_local (room - 1)) λ _.
    then_local _ term_local λ x.
    then_local _ (token_local _) λ _.
    then_local _ integer_local λ d.
    then_local _ (token_local _) λ _.
    then_local _ (token_local _) λ _.
    then_local _ term_local λ y.
    then_local _ (token_local _) λ _. give_local _

pub dollar_local : (room : ℕ) → Local (read_dollar room)
unfolding read_dollar
dollar_local room =
    then_local _ (token_local _) λ _.
    then_local _ peek_local λ b.
    cond_local (eqb b letter_t) (then_local _ (literal_local _) λ _. give_local _)
    (cond_local (eqb b letter_f) (then_local _ (literal_local _) λ _. give_local _)
    (then_local _ (literal_local _) λ _. compare_local room true))

pub negated_local : (room : ℕ) → Local (read_negated room)
unfolding read_negated
negated_local room =
    then_local _ (token_local _) λ _.
    then_local _ look_local λ b.
    cond_local (eqb b letter_p) (atom_local room false) (then_local _ (token_local _) λ _. compare_local room false)

declaration_local : (x : ℕ) → Local (declaration x)
unfolding declaration
declaration_local x = then_local _ (token_local _) λ _. then_local _ (token_local _) λ _. token_local _

variables_local : (most x : ℕ) → Local (variables most x)
unfolding variables
variables_local zero x = then_local _ (declaration_local x) λ _. give_local 1
variables_local (suc most) x =
    then_local _ (declaration_local x) λ _.
    then_local _ look_local λ b.
    cond_local (eqb b comma)
    (then_local _ (token_local _) λ _. then_local _ (variables_local most (suc x)) λ v. give_local (suc v))
    (give_local 1)

pub binder_local : (most x : ℕ) → Local (read_binder most x)
unfolding read_binder
binder_local most x =
    then_local _ (token_local _) λ _.
    then_local _ (variables_local most x) λ v.
    then_local _ (token_local _) λ _.
    then_local _ (token_local _) λ _. give_local v

unequal_local : (x : ℕ) → Local (unequal x)
unfolding unequal
unequal_local x = then_local _ (token_local _) λ _. then_local _ (token_local _) λ _. integer_local

unequals_local : (n x : ℕ) → Local (read_unequals n x)
unfolding read_unequals
unequals_local zero x = then_local _ (unequal_local x) λ k. give_local (k ∷ [])
unequals_local (suc n) x =
    then_local _ (unequal_local x) λ k.
    then_local _ (token_local _) λ _.
    then_local _ (unequals_local n (suc x)) λ ks. give_local (k ∷ ks)

pub tuple_local : (room v x : ℕ) → Local (read_tuple room v x)
unfolding read_tuple
tuple_local room v x =
    cond_local (eqb v 1) (unequals_local 0 x)
    (then_local _ (opening_local room) λ _.
    then_local _ (unequals_local (v - 1) x) λ ks.
    then_local _ (token_local _) λ _. give_local ks)

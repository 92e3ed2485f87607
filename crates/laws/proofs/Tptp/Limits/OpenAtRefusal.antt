-- Where a text is refused by the number of parentheses, as many stand open before the place as there was room for, and never more
-- do, nor in a text that is read.
use Prim.Native.Nat.{ℕ, zero, suc, ◌+◌, ◌<◌, ◌-◌, ◌/◌, ◌%◌}
use native.Mathlib.Omega.{arith}
use Rattle.std.specs.Prelude.{◌≡◌, Bool, cond, ◌&&◌, length, take, ltb, eqb}
use Rattle.std.proofs.Math.Path.{refl}
use Rattle.std.proofs.Common.{sym, ap, ◌∙◌, subst, ⊎_elim, take_at, ne_eqb}
use Rattle.std.proofs.Math.Bool.{true, false}
use mathlib.Core.List.{[], ◌∷◌, ◌++◌, append-nil}
use Rattle.model.specs.Bytes.{Text, bytes, nought, comma, ampersand, bar, tilde, dollar, exclamation, interrogation, parenthesis, letter_p}
use Rattle.model.specs.Bytes.{letter_t, letter_f}
use Rattle.model.specs.Answer.{Outcome, passed, refused}
use Rattle.model.specs.Decimal.{digits}
use Rattle.model.specs.Tree.{Tree}
use Rattle.model.specs.Tptp.{variable_token, is_join}
use Rattle.model.specs.TptpReading.{Got, Reader, Readers, Restricted, give, stop, ◌>>=◌, token, up_to, more, term, terms, read_atom}
use Rattle.model.specs.TptpReading.{read_compare, read_dollar, read_negated, declaration, variables, read_binder, unequal, read_unequals}
use Rattle.model.specs.TptpReading.{read_tuple, joining, whole, read_quantifier, read_some, read_join, read_operand, excluding, read_restriction}
use Rattle.model.specs.TptpReading.{begins_excluding, no_readers, readers, read_whole, tree_of, read_tptp}
use Rattle.model.specs.declared.Refusal.TheVariants.{Level}
use Rattle.laws.specs.Words.Tests.{decide}
use Rattle.laws.specs.Answer.{refused-passed}
use Rattle.laws.specs.Tptp.Limits.Opened.{closing}
use Rattle.laws.specs.Tptp.Sound.Texts.{text-last}
use Rattle.laws.specs.Tptp.Refusing.Place.{tree-refused}
use Rattle.laws.proofs.Tptp.Refusing.Nowhere.{level_tptp}
use Rattle.laws.specs.Tptp.Limits.Balance.{occurs, occurs-append, Open, OpenAtMost, Turns, turns_mark, turns_opening, Weight, weighed, filled}
use Rattle.laws.specs.Tptp.Limits.Balance.{stopped, Weighs, give-weighs, stop-weighs, cond-weighs, then_weighs, blanks-weighs, peek-weighs}
use Rattle.laws.specs.Tptp.Limits.Balance.{look-weighs, literal-weighs, token-weighs, mark-weighs, natural-weighs, integer-weighs}
use Rattle.laws.specs.Tptp.Limits.Balance.{term-weighs, name-weighs, ending-weighs, opening-weighs, enclosed-weighs, closing-weighs}

-- digits are no parentheses, and a variable has none
digits-occurs : (c : ℕ) → c < 48 → (k n : ℕ) → occurs c (digits k n) ≡ 0
unfolding occurs digits
digits-occurs c h zero n = refl
digits-occurs c h (suc k) n =
    ⊎_elim
    (λ e. rw e (one n))
    (λ e.
    let step : digits (suc k) n ≡ digits k (n / 10) ++ (nought + n % 10) ∷ [] = rw e in
    ap (occurs c) step
    ∙ occurs-append c (digits k (n / 10)) ((nought + n % 10) ∷ [])
    ∙ omega (arith, digits-occurs c h k (n / 10), one (n % 10)))
    (decide (ltb n 10))
  where
    one : (m : ℕ) → occurs c ((nought + m) ∷ []) ≡ 0
    one m = rw (ne_eqb (nought + m) c (λ z. omega arith))

variable-weighs : {room : ℕ} (x : ℕ) → Weighs room room (token (variable_token x))
unfolding bytes occurs variable_token
variable-weighs x =
    mark-weighs (variable_token x) (digits-occurs parenthesis (omega arith) 10 x) (digits-occurs closing (omega arith) 10 x)

module _
    {A : Type 0} {room : ℕ} (c : ℕ) (h₁ : eqb c parenthesis ≡ false) (h₂ : eqb c closing ≡ false) (one : Reader A)
    (k : Weighs room room one) where
  up_to-weighs : (n : ℕ) → Weighs room room (up_to n c one)
  unfolding occurs up_to
  up_to-weighs zero = give-weighs []
  up_to-weighs (suc n) =
      then_weighs _ look-weighs λ b.
      cond-weighs (eqb b c)
      (then_weighs _ (mark-weighs (c ∷ []) (rw h₁) (rw h₂)) λ _.
      then_weighs _ k λ x.
      then_weighs _ (up_to-weighs n) λ xs. give-weighs (x ∷ xs))
      (give-weighs [])

  more-weighs : Weighs room room (more c one)
  unfolding more
  more-weighs = record { weighs = λ text p. (up_to-weighs (length text)).weighs text p }

module _ {room : ℕ} where
  terms-weighs : Weighs room room terms
  unfolding terms
  terms-weighs =
      then_weighs _ term-weighs λ t.
      then_weighs _ (up_to-weighs comma refl refl term term-weighs 5) λ ts. give-weighs (t ∷ ts)

  declaration-weighs : (x : ℕ) → Weighs room room (declaration x)
  unfolding bytes occurs declaration
  declaration-weighs x =
      then_weighs _ (variable-weighs x) λ _.
      then_weighs _ (mark-weighs (bytes ":") refl refl) λ _. mark-weighs (bytes "$int") refl refl

  variables-weighs : (most x : ℕ) → Weighs room room (variables most x)
  unfolding bytes occurs variables
  variables-weighs zero x = then_weighs _ (declaration-weighs x) λ _. give-weighs 1
  variables-weighs (suc most) x =
      then_weighs _ (declaration-weighs x) λ _.
      then_weighs _ look-weighs λ b.
      cond-weighs (eqb b comma)
      (then_weighs _ (mark-weighs (bytes ",") refl refl) λ _.
      then_weighs _ (variables-weighs most (suc x)) λ v. give-weighs (suc v))
      (give-weighs 1)

  binder-weighs : (most x : ℕ) → Weighs room room (read_binder most x)
  unfolding bytes occurs read_binder
  binder-weighs most x =
      then_weighs _ (mark-weighs (bytes "[") refl refl) λ _.
      then_weighs _ (variables-weighs most x) λ v.
      then_weighs _ (mark-weighs (bytes "]") refl refl) λ _.
      then_weighs _ (mark-weighs (bytes ":") refl refl) λ _. give-weighs v

  unequal-weighs : (x : ℕ) → Weighs room room (unequal x)
  unfolding bytes occurs unequal
  unequal-weighs x =
      then_weighs _ (variable-weighs x) λ _. then_weighs _ (mark-weighs (bytes "!=") refl refl) λ _. integer-weighs

  unequals-weighs : (n x : ℕ) → Weighs room room (read_unequals n x)
  unfolding bytes occurs read_unequals
  unequals-weighs zero x = then_weighs _ (unequal-weighs x) λ k. give-weighs (k ∷ [])
  unequals-weighs (suc n) x =
      then_weighs _ (unequal-weighs x) λ k.
      then_weighs _ (mark-weighs (bytes "|") refl refl) λ _.
      then_weighs _ (unequals-weighs n (suc x)) λ ks. give-weighs (k ∷ ks)

tuple-weighs : (room v x : ℕ) → Weighs room room (read_tuple room v x)
unfolding read_tuple
tuple-weighs room v x =
    cond-weighs (eqb v 1) (unequals-weighs 0 x)
    (enclosed-weighs room λ r is.
    then_weighs _ (unequals-weighs (v - 1) x) λ ks. then_weighs _ closing-weighs λ _. give-weighs ks)

atom-weighs : (room : ℕ) (b : Bool) → Weighs room room (read_atom room b)
unfolding bytes occurs read_atom
atom-weighs room b =
    then_weighs _ (mark-weighs (bytes "p") refl refl) λ _.
    then_weighs _ natural-weighs λ p.
    enclosed-weighs room λ r is.
    then_weighs _ terms-weighs λ ts. then_weighs _ closing-weighs λ _. give-weighs _

compare-weighs : (room : ℕ) (b : Bool) → Weighs room room (read_compare room b)
unfolding bytes occurs read_compare
compare-weighs room b =
    opening-weighs room λ r is.
    let lower : room - 1 ≡ r = omega arith in
    then_weighs _ (mark-weighs (bytes "$sum") refl refl) λ _.
    rw lower
    (opening-weighs r λ s e.
    rw (is, e)
    (then_weighs _ term-weighs λ x.
    then_weighs _ (mark-weighs (bytes ",") refl refl) λ _.
    then_weighs _ integer-weighs λ d.
    then_weighs _ closing-weighs λ _.
    then_weighs _ (mark-weighs (bytes ",") refl refl) λ _.
    then_weighs _ term-weighs λ y.
    then_weighs _ closing-weighs λ _. give-weighs _))

dollar-weighs : (room : ℕ) → Weighs room room (read_dollar room)
unfolding bytes occurs read_dollar
dollar-weighs room =
    then_weighs _ (mark-weighs (bytes "$") refl refl) λ _.
    then_weighs _ peek-weighs λ b.
    cond-weighs (eqb b letter_t) (then_weighs _ (literal-weighs (bytes "true") (turns_mark (bytes "true") refl refl)) λ _. give-weighs _)
    (cond-weighs (eqb b letter_f) (then_weighs _ (literal-weighs (bytes "false") (turns_mark (bytes "false") refl refl)) λ _. give-weighs _)
    (then_weighs _ (literal-weighs (bytes "lesseq") (turns_mark (bytes "lesseq") refl refl)) λ _. compare-weighs room true))

negated_weighs : (room : ℕ) → Weighs room room (read_negated room)
unfolding bytes occurs read_negated
negated_weighs room =
    then_weighs _ (mark-weighs (bytes "~") refl refl) λ _.
    then_weighs _ look-weighs λ b.
    cond-weighs (eqb b letter_p) (atom-weighs room false)
    (then_weighs _ (mark-weighs (bytes "$lesseq") refl refl) λ _. compare-weighs room false)

module _ {room : ℕ} (one : Reader Tree) (h : Weighs room room one) where
  joining-weighs : (alone : Reader Tree) (first : Tree) → Weighs room room alone → Weighs room room (joining alone first one)
  unfolding joining
  joining-weighs alone first k =
      then_weighs _ look-weighs λ b.
      cond-weighs (eqb b ampersand) (then_weighs _ (more-weighs ampersand refl refl one h) λ ts. give-weighs _)
      (cond-weighs (eqb b bar) (then_weighs _ (more-weighs bar refl refl one h) λ ts. give-weighs _) k)

  whole-weighs : Weighs room room (whole one)
  unfolding whole
  whole-weighs =
      then_weighs _ h λ first. joining-weighs _ first (cond-weighs (is_join first) stop-weighs (give-weighs first))

-- readers with room for so many parentheses
record AllWeigh (room : ℕ) (rs : Readers) : Type 0 where
  operand : (formula : Bool) (scope : ℕ) → Weighs room room (rs.operand formula scope)
  restriction : (v x : ℕ) → Weighs room room (rs.restriction v x)

-- one of two tokens with no parentheses
either-weighs :
    {room : ℕ} (b : Bool) (w₁ w₂ : Text) →
    occurs parenthesis w₁ ≡ 0 →
    occurs closing w₁ ≡ 0 →
    occurs parenthesis w₂ ≡ 0 →
    occurs closing w₂ ≡ 0 →
    Weighs room room (token (cond b w₁ w₂))
either-weighs true w₁ w₂ e₁ h₁ e₂ h₂ = mark-weighs w₁ e₁ h₁
either-weighs false w₁ w₂ e₁ h₁ e₂ h₂ = mark-weighs w₂ e₂ h₂

module _ (room : ℕ) (below : Readers) (h : (r : ℕ) → room ≡ suc r → AllWeigh r below) where
  quantifier-weighs : (b : Bool) (scope : ℕ) → Weighs room room (read_quantifier room below b scope)
  unfolding bytes occurs read_quantifier
  quantifier-weighs b scope =
      then_weighs _ (either-weighs b (bytes "!") (bytes "?") refl refl refl refl) λ _.
      then_weighs _ (binder-weighs 3 scope) λ v.
      enclosed-weighs room λ r is.
      then_weighs _ ((h r is).restriction v scope) λ c.
      then_weighs _ (either-weighs b (bytes "=>") (bytes "&") refl refl refl refl) λ _.
      then_weighs _ ((h r is).operand true (scope + v)) λ f.
      then_weighs _ closing-weighs λ _. give-weighs _

  some-weighs : (scope : ℕ) → Weighs room room (read_some room below scope)
  unfolding bytes occurs read_some
  some-weighs scope =
      then_weighs _ (mark-weighs (bytes "?") refl refl) λ _.
      then_weighs _ (binder-weighs 0 scope) λ _.
      enclosed-weighs room λ r is.
      then_weighs _ (whole-weighs _ ((h r is).operand false (scope + 1))) λ c.
      then_weighs _ closing-weighs λ _. give-weighs _

  join-weighs : (formula : Bool) (scope : ℕ) → Weighs room room (read_join room below formula scope)
  unfolding read_join
  join-weighs formula scope =
      enclosed-weighs room λ r is.
      then_weighs _ ((h r is).operand formula scope) λ first.
      then_weighs _ (joining-weighs _ ((h r is).operand formula scope) stop first stop-weighs) λ t.
      then_weighs _ closing-weighs λ _. give-weighs t

  operand-weighs : (formula : Bool) (scope : ℕ) → Weighs room room (read_operand room below formula scope)
  unfolding read_operand
  operand-weighs formula scope =
      then_weighs _ look-weighs λ b.
      cond-weighs (eqb b dollar) (dollar-weighs room)
      (cond-weighs (eqb b letter_p) (atom-weighs room true)
      (cond-weighs (eqb b tilde) (negated_weighs room)
      (cond-weighs (eqb b parenthesis) (join-weighs formula scope)
      (cond-weighs (eqb b interrogation) (cond-weighs formula (quantifier-weighs false scope) (some-weighs scope))
      (cond-weighs (eqb b exclamation && formula) (quantifier-weighs true scope) stop-weighs)))))

  excluding-weighs :
      (r : ℕ) →
      room ≡ suc r →
      (first : Tree) (v x : ℕ) →
      Weighs r r (excluding room below first (below.operand false (x + v)) v x)
  unfolding excluding
  excluding-weighs r is first v x = record { weighs = λ text p. go (begins_excluding v text) text p }
    where
      lower : room - 1 ≡ r
      lower = omega arith

      tuple : Weighs r r (read_tuple (room - 1) v x)
      tuple = rw lower (tuple-weighs r v x)

      one : Weighs r r (below.operand false (x + v))
      one = (h r is).operand false (x + v)

      go :
          (b : Bool) (text : Text) (p : ℕ) →
          Weight {A = Restricted} r r text p
          (cond b
          ((do
            tuples ← more ampersand (read_tuple (room - 1) v x)
            give (record { restriction = first; excluded = tuples })) text p)
          ((do
            c ← joining stop first (below.operand false (x + v))
            give (record { restriction = c; excluded = [] })) text p))
      go true text p =
          (then_weighs _ (more-weighs ampersand refl refl _ tuple) (λ tuples. give-weighs _)).weighs text p
      go false text p = (then_weighs _ (joining-weighs _ one stop first stop-weighs) (λ c. give-weighs _)).weighs text p

  restriction-weighs : (v x : ℕ) → Weighs room room (read_restriction room below v x)
  unfolding read_restriction
  restriction-weighs v x =
      then_weighs _ look-weighs λ b.
      cond-weighs (eqb b parenthesis)
      (enclosed-weighs room λ r is.
      then_weighs _ ((h r is).operand false (x + v)) λ first.
      then_weighs _ (excluding-weighs r is first v x) λ made.
      then_weighs _ closing-weighs λ _. give-weighs made)
      (then_weighs _ (operand-weighs false (x + v)) λ c. give-weighs _)

readers_weigh : (room : ℕ) → AllWeigh room (readers room)
unfolding readers
readers_weigh zero =
    let none : (r : ℕ) → 0 ≡ suc r → AllWeigh r no_readers = λ r e. absurd (omega arith) in
    record { operand = operand-weighs zero no_readers none; restriction = restriction-weighs zero no_readers none }
readers_weigh (suc room) =
    let h = readers_weigh room in
    let below : (r : ℕ) → suc room ≡ suc r → AllWeigh r (readers room) =
    λ r e. let same : room ≡ r = omega arith in subst (λ (m : ℕ). AllWeigh m (readers room)) same h in
    record {
      operand = operand-weighs (suc room) (readers room) below;
      restriction = restriction-weighs (suc room) (readers room) below;
    }

text-weighs : (room : ℕ) → Weighs (suc room) (suc room) (read_whole room)
unfolding bytes occurs read_whole
text-weighs room =
    then_weighs _ (mark-weighs (bytes "tff") refl refl) λ _.
    then_weighs _ (token-weighs (bytes "(") (turns_opening room)) λ _.
    then_weighs _ name-weighs λ _.
    then_weighs _ (mark-weighs (bytes ",") refl refl) λ _.
    then_weighs _ (mark-weighs (bytes "axiom") refl refl) λ _.
    then_weighs _ (mark-weighs (bytes ",") refl refl) λ _.
    then_weighs _ (whole-weighs _ ((readers_weigh room).operand true 0)) λ t.
    then_weighs _ closing-weighs λ _.
    then_weighs _ (mark-weighs (bytes ".") refl refl) λ _.
    then_weighs _ blanks-weighs λ _.
    then_weighs _ ending-weighs λ _. give-weighs t

-- the bytes before the place of a refusal by question 4 use up the room
refused_turns : (room : ℕ) (text : Text) (p : ℕ) → read_tptp room text ≡ refused Level p → Turns (suc room) 0 (take p text)
unfolding read_tptp
refused_turns room text p e = go ((text-weighs room).weighs text 0) (tree-refused (read_whole room text 0) e)
  where
    go : {o : Outcome (Got Tree)} → Weight (suc room) (suc room) text 0 o → o ≡ refused Level p → Turns (suc room) 0 (take p text)
    go (weighed {g} used is place turns) e = refused-passed (sym e)
    go (filled {q} front rest is place turns) e =
        let here : q ≡ p = cc in rw (ap (take p) is ∙ take_at front rest p (omega arith)) turns
    go stopped e = absurd (level_tptp (sym e))

-- before it there are so many more opening parentheses than closing ones, and never more
pub tptp_open :
    (room : ℕ) (text : Text) (p : ℕ) →
    read_tptp room text ≡ refused Level p →
    Open (suc room) (take p text)
tptp_open room text p e = omega (arith, (refused_turns room text p e).balance)

pub tptp_before :
    (room : ℕ) (text : Text) (p : ℕ) →
    read_tptp room text ≡ refused Level p →
    OpenAtMost (suc room) (take p text)
tptp_before room text p e = (refused_turns room text p e).most

-- nor are there in a text that is read
pub tptp_within : (room : ℕ) (text : Text) (tree : Tree) → read_tptp room text ≡ passed tree → OpenAtMost (suc room) text
unfolding read_tptp tree_of
tptp_within room text tree e = go (read_whole room text 0) refl ((text-weighs room).weighs text 0) e
  where
    go :
        (o : Outcome (Got Tree)) →
        read_whole room text 0 ≡ o →
        Weight (suc room) (suc room) text 0 o →
        tree_of o ≡ passed tree →
        OpenAtMost (suc room) text
    go (refused f q) is w e = refused-passed e
    go (passed g) is (weighed used split place turns) e =
        let whole = split ∙ ap (λ (t : Text). used ++ t) (text-last room text 0 g is) ∙ append-nil used in
        subst (OpenAtMost (suc room)) (sym whole) turns.most

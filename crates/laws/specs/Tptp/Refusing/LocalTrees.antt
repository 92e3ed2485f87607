-- The readers of operands and restrictions decide by the bytes they have read. Where a restriction's reader looks ahead, for
-- excluded tuples, either the front tells what comes, or both ways of reading end with this front.
use Prim.Native.Nat.{ℕ, zero, suc, ◌+◌, ◌-◌}
use Rattle.std.proofs.Common.{arith, sym, ap, ◌∙◌, inl, inr, ⊎_elim, length-append, eqb-true}
use Rattle.std.specs.Prelude.{◌≡◌, ◌⊎◌, Bool, cond, ◌&&◌, eqb}
use Rattle.std.proofs.Math.Path.{refl}
use Rattle.std.proofs.Math.Bool.{true, false}
use mathlib.Core.List.{[], ◌∷◌, ◌++◌, append_assoc, append-nil, nil≢cons}
use Rattle.std.proofs.Math.ListN.{length}
use Rattle.model.specs.Bytes.{Text, bytes, blank, ampersand, bar, tilde, dollar, exclamation, interrogation, parenthesis, letter_p, letter_x}
use Rattle.model.specs.Lists.{all}
use Rattle.model.specs.Tree.{Tree}
use Rattle.model.specs.Tptp.{is_join}
use Rattle.model.specs.Answer.{Outcome, passed, refused}
use Rattle.model.specs.TptpReading.{Got, token, opening, read_quantifier, read_some, read_join, read_operand, read_restriction, no_readers}
use Rattle.model.specs.TptpReading.{readers, Reader, Readers, Restricted, onwards, up_to, give, stop, ◌>>=◌, behind_blanks, begins_with}
use Rattle.model.specs.TptpReading.{begins_tuple, begins_excluding, more, read_tuple, joining, whole, excluding}
use Rattle.model.specs.declared.Refusal.{Refusal}
use Rattle.model.specs.declared.Refusal.TheVariants.{Level, Tptp}
use Rattle.laws.specs.Words.Tests.{decide, and-true}
use Rattle.laws.specs.Tptp.Refusing.Local.{Late, late_pass, late-stop, Shares, both_pass, both-stop, behind-front, Local, late-more}
use Rattle.laws.specs.Tptp.Refusing.Local.{local_late, then_local, give_local, stop_local, cond_local, look_local, token_local, opening-none}
use Rattle.laws.specs.Tptp.Refusing.Local.{opening_local}
use Rattle.laws.specs.Tptp.Refusing.LocalLists.{more_local, atom_local, dollar_local, negated_local, binder_local, tuple_local}
use Rattle.laws.specs.Tptp.Refusing.TokenDue.{end_late, Waits, then_waits, look_waits, Holds, tuple_waits, tuple-holds, more-refused}
use Rattle.laws.specs.Tptp.Refusing.TokenDue.{joining-refused, operand_waits, readers_hold}

-- a text, and what is behind its blanks
blanks-split : (t : Text) → (gap : Text) × (all blank gap ≡ true) × (t ≡ gap ++ behind_blanks t)
unfolding all behind_blanks
blanks-split [] = ([], refl, refl)
blanks-split (b ∷ t) =
    ⊎_elim
    (λ k. let (gap, e, is) = blanks-split t in (b ∷ gap, and-true k e, rw k (ap (λ (u : Text). b ∷ u) is)))
    (λ k. ([], refl, rw k))
    (decide (blank b))

-- with more text behind it
behind-longer :
    (t s : Text) (b : ℕ) (u : Text) →
    behind_blanks t ≡ b ∷ u →
    behind_blanks (t ++ s) ≡ b ∷ u ++ s
unfolding behind_blanks
behind-longer [] s b u e = absurd (nil≢cons e)
behind-longer (c ∷ t) s b u e =
    ⊎_elim
    (λ k. rw k (behind-longer t s b u (rw k at e)))
    (λ k. rw k (ap (λ (v : Text). v ++ s) (rw k at e)))
    (decide (blank c))

-- what is told of excluded tuples by the first byte, and by the next
excluding-first :
    (v : ℕ) (t s : Text) (b : ℕ) (u : Text) →
    behind_blanks t ≡ b ∷ u →
    begins_excluding v (t ++ s) ≡ (eqb b ampersand && begins_tuple v (u ++ s))
unfolding begins_with begins_excluding
excluding-first v t s b u e = rw (behind-longer t s b u e)

tuple-first :
    (v : ℕ) (t s : Text) (b : ℕ) (u : Text) →
    behind_blanks t ≡ b ∷ u →
    begins_tuple v (t ++ s)
    ≡ cond (eqb v 1) (eqb b letter_x) (eqb b parenthesis && begins_with letter_x (behind_blanks (u ++ s)))
unfolding begins_with begins_tuple
tuple-first v t s b u e = rw (behind-longer t s b u e)

-- a front tells whether excluded tuples are next, or ends before that
abbrev Decided : ℕ → Text → Type 0
Decided v front = (s₁ s₂ : Text) → begins_excluding v (front ++ s₁) ≡ begins_excluding v (front ++ s₂)

data Undecided (v : ℕ) (front : Text) : Type 0 where
  at_first : all blank front ≡ true → Undecided v front
  at_second :
      (gap₁ gap₂ : Text) →
      all blank gap₁ ≡ true →
      all blank gap₂ ≡ true →
      front ≡ gap₁ ++ ampersand ∷ gap₂ →
      Undecided v front
  at-third :
      (gap₁ gap₂ gap₃ : Text) →
      eqb v 1 ≡ false →
      all blank gap₁ ≡ true →
      all blank gap₂ ≡ true →
      all blank gap₃ ≡ true →
      front ≡ gap₁ ++ ampersand ∷ (gap₂ ++ parenthesis ∷ gap₃) →
      Undecided v front

-- blanks alone
blanks-alone : (t : Text) → behind_blanks t ≡ [] → all blank t ≡ true
blanks-alone t e =
    let (gap, blanks, is) = blanks-split t in
    ap (all blank) (is ∙ ap (λ (u : Text). gap ++ u) e ∙ append-nil gap) ∙ blanks

told : (v : ℕ) (front : Text) (x : Bool) → ((s : Text) → begins_excluding v (front ++ s) ≡ x) → Decided v front
told v front x h s₁ s₂ = h s₁ ∙ sym (h s₂)

-- behind the connective
excluding-second :
    (v : ℕ) (front t s : Text) (b : ℕ) (u : Text) →
    behind_blanks front ≡ ampersand ∷ t →
    behind_blanks t ≡ b ∷ u →
    begins_excluding v (front ++ s)
    ≡ cond (eqb v 1) (eqb b letter_x) (eqb b parenthesis && begins_with letter_x (behind_blanks (u ++ s)))
excluding-second v front t s b u e₁ e₂ = excluding-first v front s ampersand t e₁ ∙ tuple-first v t s b u e₂

decision : (v : ℕ) (front : Text) → Decided v front ⊎ Undecided v front
unfolding begins_with
decision v front = first (behind_blanks front) refl
  where
    -- the byte behind the parenthesis
    third :
        (t₁ t₂ t₃ : Text) →
        behind_blanks front ≡ ampersand ∷ t₁ →
        behind_blanks t₁ ≡ parenthesis ∷ t₂ →
        eqb v 1 ≡ false →
        behind_blanks t₂ ≡ t₃ →
        Decided v front ⊎ Undecided v front
    third t₁ t₂ [] e₁ e₂ k e₃ =
        let (gap₁, blanks₁, is₁) = blanks-split front in
        let (gap₂, blanks₂, is₂) = blanks-split t₁ in
        let inside = is₂ ∙ ap (λ (u : Text). gap₂ ++ u) e₂ in
        let whole = is₁ ∙ ap (λ (u : Text). gap₁ ++ u) (e₁ ∙ ap (λ (u : Text). ampersand ∷ u) inside) in
        inr (at-third gap₁ gap₂ t₂ k blanks₁ blanks₂ (blanks-alone t₂ e₃) whole)
    third t₁ t₂ (b ∷ t₃) e₁ e₂ k e₃ =
        inl
        (told v front (eqb b letter_x) λ s.
        excluding-second v front t₁ s parenthesis t₂ e₁ e₂ ∙ rw (k, behind-longer t₂ s b t₃ e₃))

    -- the byte behind the connective
    second :
        (t₁ t₂ : Text) →
        behind_blanks front ≡ ampersand ∷ t₁ →
        behind_blanks t₁ ≡ t₂ →
        Decided v front ⊎ Undecided v front
    second t₁ [] e₁ e₂ =
        let (gap₁, blanks₁, is₁) = blanks-split front in
        inr (at_second gap₁ t₁ blanks₁ (blanks-alone t₁ e₂) (is₁ ∙ ap (λ (u : Text). gap₁ ++ u) e₁))
    second t₁ (b ∷ t₂) e₁ e₂ =
        ⊎_elim
        (λ k. inl (told v front (eqb b letter_x) λ s. excluding-second v front t₁ s b t₂ e₁ e₂ ∙ rw k))
        (λ k.
        ⊎_elim
        (λ l. third t₁ t₂ (behind_blanks t₂) e₁ (rw (← eqb-true b parenthesis l) e₂) k refl)
        (λ l.
        inl
        (told v front false λ s.
        excluding-second v front t₁ s b t₂ e₁ e₂
        ∙ rw k (ap (λ (c : Bool). c && begins_with letter_x (behind_blanks (t₂ ++ s))) l)))
        (decide (eqb b parenthesis)))
        (decide (eqb v 1))

    first : (t₁ : Text) → behind_blanks front ≡ t₁ → Decided v front ⊎ Undecided v front
    first [] e = inr (at_first (blanks-alone front e))
    first (b ∷ t₁) e =
        ⊎_elim
        (λ k. second t₁ (behind_blanks t₁) (rw (← eqb-true b ampersand k) e) refl)
        (λ k. inl (told v front false λ s. excluding-first v front s b t₁ e ∙ ap (λ (c : Bool). c && begins_tuple v (t₁ ++ s)) k))
        (decide (eqb b ampersand))

joining_local :
    (alone : Reader Tree) (first : Tree) (one : Reader Tree) →
    Local alone →
    Local one →
    Local (joining alone first one)
unfolding joining
joining_local alone first one h k =
    then_local _ look_local λ b.
    cond_local (eqb b ampersand) (then_local _ (more_local ampersand one k) λ ts. give_local _)
    (cond_local (eqb b bar) (then_local _ (more_local bar one k) λ ts. give_local _) h)

pub whole_local : (one : Reader Tree) → Local one → Local (whole one)
unfolding whole
whole_local one h =
    then_local _ h λ first. joining_local _ first one (cond_local (is_join first) stop_local (give_local first)) h

-- what is read behind the first operand in parentheses, with room for so many more of them
module _ (room v x : ℕ) (first : Tree) (one : Reader Tree) (h : Local one) (waits : Waits one) (holds : Holds room one) where
  -- excluded tuples (true), or further operands
  abbrev further : Bool → Reader Restricted
  further b text p =
      cond b
      ((do
        tuples ← more ampersand (read_tuple room v x)
        give (record { restriction = first; excluded = tuples })) text p)
      ((do
        c ← joining stop first one
        give (record { restriction = c; excluded = [] })) text p)

  further_local : (b : Bool) → Local (further b)
  further_local true = then_local _ (more_local ampersand _ (tuple_local room v x)) λ tuples. give_local _
  further_local false = then_local _ (joining_local stop first one stop_local h) λ c. give_local _

  -- both end with blanks that are all that is left
  alone-late : (b : Bool) (front s : Text) (p : ℕ) → all blank front ≡ true → Late (p + length front) (further b (front ++ s) p)
  unfolding up_to more joining ◌>>=◌
  alone-late b [] s p e = late-more (omega arith) (local_late (further_local b) s p)
  alone-late true (c ∷ t) s p e =
      end_late (further_local true) (c ∷ t) s p _ (then_waits _ (then_waits _ look_waits) (c ∷ t) p e) refl
  alone-late false (c ∷ t) s p e =
      end_late (further_local false) (c ∷ t) s p _ (then_waits _ (then_waits _ look_waits) (c ∷ t) p e) refl

  -- behind an ampersand both are refused where both a tuple and an operand are
  further-refused :
      (b : Bool) (t : Text) (r : Refusal) (n : ℕ) (gap : Text) (p : ℕ) →
      all blank gap ≡ true →
      read_tuple room v x t (suc (p + length gap)) ≡ refused r n →
      one t (suc (p + length gap)) ≡ refused r n →
      further b (gap ++ ampersand ∷ t) p ≡ refused r n
  unfolding onwards ◌>>=◌
  further-refused true t r n gap p e k l = rw (more-refused (read_tuple room v x) t r n gap p e k)
  further-refused false t r n gap p e k l = rw (joining-refused stop first one t r n gap p e l)

  -- where a front does not tell which it is, both end with it, or at its parenthesis
  second-late :
      (b : Bool) (gap₁ gap₂ s : Text) (p : ℕ) →
      all blank gap₁ ≡ true →
      all blank gap₂ ≡ true →
      Late (p + length (gap₁ ++ ampersand ∷ gap₂)) (further b ((gap₁ ++ ampersand ∷ gap₂) ++ s) p)
  second-late b gap₁ gap₂ s p e₁ e₂ =
      let q = suc (p + length gap₁) in
      end_late (further_local b) (gap₁ ++ ampersand ∷ gap₂) s p (q + length gap₂)
      (further-refused b gap₂ Tptp (q + length gap₂) gap₁ p e₁ (tuple_waits room v x gap₂ q e₂) (waits gap₂ q e₂))
      (omega (arith, length-append gap₁ (ampersand ∷ gap₂)))

  third-shares :
      (b₁ b₂ : Bool) (gap₁ gap₂ gap₃ s₁ s₂ : Text) (p : ℕ) →
      eqb v 1 ≡ false →
      all blank gap₁ ≡ true →
      all blank gap₂ ≡ true →
      all blank gap₃ ≡ true →
      let front = gap₁ ++ ampersand ∷ (gap₂ ++ parenthesis ∷ gap₃) in
      Shares front s₁ s₂ p (further b₁ (front ++ s₁) p) (further b₂ (front ++ s₂) p)
  unfolding Holds
  third-shares b₁ b₂ gap₁ gap₂ gap₃ s₁ s₂ p k e₁ e₂ e₃ = go room holds (tuple-holds room v x k)
    where
      q : ℕ
      q = suc (p + length gap₁)

      front : Text
      front = gap₁ ++ ampersand ∷ (gap₂ ++ parenthesis ∷ gap₃)

      full :
          (b : Bool) (s : Text) →
          Holds zero one →
          Holds zero (read_tuple room v x) →
          further b (front ++ s) p ≡ refused Level (q + length gap₂)
      full b s h k =
          let t = gap₂ ++ parenthesis ∷ (gap₃ ++ s) in
          let whole : front ++ s ≡ gap₁ ++ ampersand ∷ t = simp append_assoc in
          ap (λ (u : Text). further b u p) whole
          ∙ further-refused b t Level (q + length gap₂) gap₁ p e₁ (k gap₂ (gap₃ ++ s) q e₂) (h gap₂ (gap₃ ++ s) q e₂)

      go :
          (n : ℕ) →
          Holds n one →
          Holds n (read_tuple room v x) →
          Shares front s₁ s₂ p (further b₁ (front ++ s₁) p) (further b₂ (front ++ s₂) p)
      go zero h k = rw (full b₁ s₁ h k, full b₂ s₂ h k) (both-stop {q = q + length gap₂} (omega arith))
      go (suc n) h k =
          let t = gap₂ ++ parenthesis ∷ gap₃ in
          let m = suc (q + length gap₂) + length gap₃ in
          behind-front
          (end_late (further_local b₁) front s₁ p m
          (further-refused b₁ t Tptp m gap₁ p e₁ (k gap₂ gap₃ q e₂ e₃) (h gap₂ gap₃ q e₂ e₃))
          (omega (arith, length-append gap₁ (ampersand ∷ t), length-append gap₂ (parenthesis ∷ gap₃))))

  excluding_local : (above : ℕ) (below : Readers) → above - 1 ≡ room → Local (excluding above below first one v x)
  unfolding excluding
  excluding_local above below lower = record {
    shares = λ front s₁ s₂ p.
        rw lower
        (⊎_elim
        (λ d. rw (d s₁ s₂) ((further_local (begins_excluding v (front ++ s₂))).shares front s₁ s₂ p))
        (λ u. undecided_shares (begins_excluding v (front ++ s₁)) (begins_excluding v (front ++ s₂)) front s₁ s₂ p u)
        (decision v front));
  }
    where
      undecided_shares :
          (b₁ b₂ : Bool) (front s₁ s₂ : Text) (p : ℕ) →
          Undecided v front →
          Shares front s₁ s₂ p (further b₁ (front ++ s₁) p) (further b₂ (front ++ s₂) p)
      undecided_shares b₁ b₂ front s₁ s₂ p (at_first e) = behind-front (alone-late b₁ front s₁ p e)
      undecided_shares b₁ b₂ front s₁ s₂ p (at_second gap₁ gap₂ e₁ e₂ is) =
          rw is (behind-front (second-late b₁ gap₁ gap₂ s₁ p e₁ e₂))
      undecided_shares b₁ b₂ front s₁ s₂ p (at-third gap₁ gap₂ gap₃ k e₁ e₂ e₃ is) =
          rw is (third-shares b₁ b₂ gap₁ gap₂ gap₃ s₁ s₂ p k e₁ e₂ e₃)

-- with no room nothing is read behind a parenthesis
no-opening : {A : Type 0} (next : Reader A) → Local (opening zero >>= λ _. next)
unfolding onwards ◌>>=◌
no-opening next = record {
  shares = λ front s₁ s₂ p. go ((opening_local zero).shares front s₁ s₂ p) (opening-none (front ++ s₁) p);
}
  where
    go :
        {front s₁ s₂ : Text} {p : ℕ} {o₁ o₂ : Outcome (Got (Unit {0}))} →
        Shares front s₁ s₂ p o₁ o₂ →
        ((g : Got (Unit {0})) → o₁ ≡ passed g → ⊥) →
        Shares front s₁ s₂ p (onwards o₁ (λ _. next)) (onwards o₂ (λ _. next))
    go (both_pass used left is place) n = absurd (n _ refl)
    go (both-stop l) n = both-stop l
    go (behind-front (late_pass {g} l)) n = absurd (n g refl)
    go (behind-front (late-stop l)) n = behind-front (late-stop l)

-- readers of operands and restrictions
pub record AllLocal (rs : Readers) : Type 0 where
  pub operand : (formula : Bool) (scope : ℕ) → Local (rs.operand formula scope)
  pub restriction : (v x : ℕ) → Local (rs.restriction v x)

none_local : AllLocal no_readers
unfolding no_readers
none_local = record { operand = λ formula scope. stop_local; restriction = λ v x. stop_local }

module _ (room : ℕ) (below : Readers) (h : AllLocal below) where
  quantifier_local : (b : Bool) (scope : ℕ) → Local (read_quantifier room below b scope)
  unfolding read_quantifier
  quantifier_local b scope =
      then_local _ (token_local _) λ _.
      then_local _ (binder_local 3 scope) λ v.
      then_local _ (opening_local room) λ _.
      then_local _ (h.restriction v scope) λ c.
      then_local _ (token_local _) λ _.
      then_local _ (h.operand true (scope + v)) λ f.
      then_local _ (token_local _) λ _. give_local _

  some_local : (scope : ℕ) → Local (read_some room below scope)
  unfolding read_some
  some_local scope =
      then_local _ (token_local _) λ _.
      then_local _ (binder_local 0 scope) λ _.
      then_local _ (opening_local room) λ _.
      then_local _ (whole_local _ (h.operand false (scope + 1))) λ c.
      then_local _ (token_local _) λ _. give_local _

  join_local : (formula : Bool) (scope : ℕ) → Local (read_join room below formula scope)
  unfolding read_join
  join_local formula scope =
      then_local _ (opening_local room) λ _.
      then_local _ (h.operand formula scope) λ first.
      then_local _ (joining_local stop first _ stop_local (h.operand formula scope)) λ t.
      then_local _ (token_local _) λ _. give_local t

  operand_local : (formula : Bool) (scope : ℕ) → Local (read_operand room below formula scope)
  unfolding read_operand
  operand_local formula scope =
      then_local _ look_local λ b.
      cond_local (eqb b dollar) (dollar_local room)
      (cond_local (eqb b letter_p) (atom_local room true)
      (cond_local (eqb b tilde) (negated_local room)
      (cond_local (eqb b parenthesis) (join_local formula scope)
      (cond_local (eqb b interrogation) (cond_local formula (quantifier_local false scope) (some_local scope))
      (cond_local (eqb b exclamation && formula) (quantifier_local true scope) stop_local)))))

  restriction_local :
      (v x : ℕ) →
      Local (do
        _ ← opening room
        first ← below.operand false (x + v)
        r ← excluding room below first (below.operand false (x + v)) v x
        _ ← token (bytes ")")
        give r) →
      Local (read_restriction room below v x)
  unfolding read_restriction
  restriction_local v x k =
      then_local _ look_local λ b.
      cond_local (eqb b parenthesis) k (then_local _ (operand_local false (x + v)) λ c. give_local _)

-- the readers with room for so many parentheses
pub readers_local : (room : ℕ) → AllLocal (readers room)
unfolding readers
readers_local zero = record {
  operand = operand_local zero no_readers none_local;
  restriction = λ v x. restriction_local zero no_readers none_local v x (no-opening _);
}
readers_local (suc room) = let h = readers_local room in record {
  operand = operand_local (suc room) (readers room) h;
  restriction = λ v x.
      let one = (readers room).operand false (x + v) in
      restriction_local (suc room) (readers room) h v x
      (then_local _ (opening_local (suc room)) λ _.
      then_local _ (h.operand false (x + v)) λ first.
      then_local _
      (excluding_local room v x first one (h.operand false (x + v)) (operand_waits room false (x + v))
      (readers_hold room false (x + v)) (suc room) (readers room) (omega arith)) λ r.
      then_local _ (token_local _) λ _. give_local r);
}

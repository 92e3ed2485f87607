-- What the readers of operands and restrictions read, whatever the room for parentheses.
-- By induction on this room: each kind of operand is read behind a parenthesis by readers with room for one less.
use Rattle.std.specs.Prelude.{ℕ, zero, suc, ◌+◌, ◌-◌, ◌≤◌, ◌≡◌, Bool, cond, ◌&&◌, eqb, ℤ}
use Rattle.std.proofs.Common.{arith, ap, le-leb}
use Rattle.std.proofs.Math.Path.{refl, subst}
use Rattle.std.proofs.Math.Logic.{⊎_elim}
use Rattle.std.proofs.Math.Bool.{true, false, not}
use mathlib.Core.List.{List, [], ◌∷◌, ◌++◌, map, append_assoc}
use Rattle.model.specs.Bytes.{Text, bytes, blank, ampersand, tilde, dollar, exclamation, interrogation, parenthesis, letter_p}
use Rattle.model.specs.Lists.{all, gather}
use Rattle.model.specs.Tree.{Tree, plain, quantifier, some}
use Rattle.model.specs.Tptp.{Tokens, parenthesized, separated, negation, binder, excludes, restricted, is_join, enclosed, tokens, good_tuple}
use Rattle.model.specs.Tptp.{good_tree}
use Rattle.model.specs.TptpReading.{Readers, Restricted, ◌>>=◌, behind_blanks, begins_with, begins_excluding}
use Rattle.model.specs.TptpReading.{read_quantifier, read_some, read_join, read_operand, excluding, read_restriction, no_readers, readers}
use Rattle.laws.specs.Words.Tests.{decide, and_left, and_right, and-true}
use Rattle.laws.specs.Lists.Membership.{all_append}
use Rattle.laws.specs.Tptp.Spelling.TokensInFront.{Fill, Trail, fill-token, fill-append, fill-blanks, trail-none, trail-fill}
use Rattle.laws.specs.Tptp.Sound.Readers.{behind, Reads, comes-map, stop-reads, cond-reads, then_reads, map-reads, behind-both}
use Rattle.laws.specs.Tptp.Sound.Tokens.{token-reads, look-reads, opening-reads}
use Rattle.laws.specs.Tptp.Sound.Lists.{Several, more-comes, binder-reads, tuple-reads}
use Rattle.laws.specs.Tptp.Sound.Atoms.{shown, Operand, atom-reads, dollar-reads, negated_reads}
use Rattle.laws.specs.Tptp.Sound.Joins.{Joined, joined-some, further-reads, joined-shown, parenthesized-fill, whole-reads}

-- a restriction of a quantifier of v variables from x on, and its excluded tuples
pub record Restriction (v x : ℕ) (r : Restricted) (u : Text) : Type 0 where
  pub good : good_tree r.restriction false ≡ true
  pub tuples : all (good_tuple v) r.excluded ≡ true
  pub fill : Fill (restricted (shown (x + v) r.restriction) (map (excludes x) r.excluded)) u

-- readers of operands and restrictions
pub record AllRead (told : Type 0) (rs : Readers) : Type 0 where
  pub operand : (formula : Bool) (scope : ℕ) → Reads told (Operand formula scope) (rs.operand formula scope)
  pub restriction : (v x : ℕ) → 1 ≤ v → Reads told (Restriction v x) (rs.restriction v x)

-- a plain truth value is an operand, and a restriction
operand-some :
    (formula : Bool) (scope : ℕ) (gap : Text) →
    all blank gap ≡ true →
    (t : Tree) × (u : Text) × Operand formula scope t (gap ++ u)
unfolding is_join enclosed tokens good_tree
operand-some formula scope gap e = (plain true, bytes "$true", (refl, fill-token gap (bytes "$true") e))

-- a restriction with no excluded tuples
untupled :
    {v x : ℕ} {t : Tree} {u : Text} →
    Operand false (x + v) t u →
    Restriction v x (record { restriction = t; excluded = [] }) u
unfolding all restricted
untupled (good, f) = record { good = good; tuples = refl; fill = f }

restriction-some : (v x : ℕ) → (r : Restricted) × (u : Text) × Restriction v x r u
unfolding all
restriction-some v x =
    let (t, u, o) = operand-some false (x + v) [] refl in
    (record { restriction = t; excluded = [] }, u, untupled o)

none_read : {told : Type 0} → AllRead told no_readers
unfolding all no_readers
none_read = record {
  operand = λ formula scope. stop-reads (λ _. operand-some formula scope [] refl);
  restriction = λ v x l. stop-reads (λ _. restriction-some v x);
}

module _ {told : Type 0} (room : ℕ) (below : Readers) (h : AllRead told below) where
  quantifier-reads :
      (b formula : Bool) (scope : ℕ) (gap : Text) →
      formula ≡ true →
      all blank gap ≡ true →
      Reads told (behind gap (Operand formula scope)) (read_quantifier room below b scope)
  unfolding read_quantifier parenthesized is_join enclosed tokens good_tree
  quantifier-reads b formula scope gap k e =
      then_reads (token-reads (cond b (bytes "!") (bytes "?"))) λ _ u₁ f₁.
      then_reads (binder-reads 3 scope) λ v u₂ s.
      then_reads (opening-reads room) λ _ u₃ f₃.
      then_reads (h.restriction v scope s.some) λ c u₄ r.
      then_reads (token-reads (cond b (bytes "=>") (bytes "&"))) λ _ u₅ f₅.
      then_reads (h.operand true (scope + v)) λ f u₆ (good, f₆).
      map-reads (λ _. quantifier b v c.excluded c.restriction f) (token-reads (bytes ")")) λ _ u₇ f₇.
      let counts = and-true (and-true k (le-leb 1 v s.some)) (le-leb v 4 s.few) in
      let inner = fill-append f₃ (fill-append r.fill (fill-append f₅ (fill-append f₆ f₇))) in (
        and-true (and-true (and-true counts r.tuples) r.good) good,
        fill-blanks gap e (fill-append f₁ (fill-append s.fill (rw append_assoc inner))),
      )

  some-reads :
      (formula : Bool) (scope : ℕ) (gap : Text) →
      formula ≡ false →
      all blank gap ≡ true →
      Reads told (behind gap (Operand formula scope)) (read_some room below scope)
  unfolding read_some parenthesized is_join enclosed tokens good_tree
  some-reads formula scope gap k e =
      then_reads (token-reads (bytes "?")) λ _ u₁ f₁.
      then_reads (binder-reads 0 scope) λ v u₂ s.
      then_reads (opening-reads room) λ _ u₃ f₃.
      then_reads (whole-reads false (scope + 1) _ (h.operand false (scope + 1))) λ c u₄ a.
      map-reads (λ _. some c) (token-reads (bytes ")")) λ _ u₅ f₅.
      let one : v ≡ 1 = omega (arith, s.some, s.few) in
      let bound = subst (λ (n : ℕ). Fill (binder scope n) u₂) one s.fill in
      let inner = fill-append f₃ (trail-fill a.trail f₅) in
      (and-true (ap not k) a.good, fill-blanks gap e (fill-append f₁ (fill-append bound inner)))

  join-reads :
      (formula : Bool) (scope : ℕ) (gap : Text) →
      all blank gap ≡ true →
      Reads told (behind gap (Operand formula scope)) (read_join room below formula scope)
  unfolding read_join parenthesized
  join-reads formula scope gap e =
      then_reads (opening-reads room) λ _ u₁ f₁.
      then_reads (h.operand formula scope) λ first u₂ (good, f₂).
      then_reads (further-reads formula scope _ (h.operand formula scope) first) λ t u₃ j.
      map-reads (λ _. t) (token-reads (bytes ")")) λ _ u₄ f₄.
      (j.good good, rw (joined-shown j) (fill-blanks gap e (parenthesized-fill f₁ f₂ j.trail f₄)))

  operand-reads :
      (formula : Bool) (scope : ℕ) (gap : Text) →
      all blank gap ≡ true →
      Reads told (behind gap (Operand formula scope)) (read_operand room below formula scope)
  unfolding read_operand negation
  operand-reads formula scope gap₁ e₁ =
      then_reads look-reads λ b gap₂ e₂.
      let gap = gap₁ ++ gap₂ in
      let e = all_append blank gap₁ gap₂ e₁ e₂ in
      behind-both (Operand formula scope) gap₁ gap₂
      (cond-reads (eqb b dollar) (λ _. dollar-reads room formula scope gap e)
      (λ _. cond-reads (eqb b letter_p) (λ _. atom-reads room formula scope true gap (trail-none gap e))
      (λ _. cond-reads (eqb b tilde) (λ _. negated_reads room formula scope gap e)
      (λ _. cond-reads (eqb b parenthesis) (λ _. join-reads formula scope gap e)
      (λ _. cond-reads (eqb b interrogation)
      (λ _. cond-reads formula
      (λ k. quantifier-reads false formula scope gap k e)
      (λ k. some-reads formula scope gap k e))
      (λ _. cond-reads (eqb b exclamation && formula)
      (λ k. quantifier-reads true formula scope gap (and_right (eqb b exclamation) formula k) e)
      (λ _. stop-reads (λ _. operand-some formula scope gap e))))))))

-- what stands behind a restriction in parentheses of their own
record Excluding (v x : ℕ) (first : Tree) (r : Restricted) (u : Text) : Type 0 where
  good : good_tree first false ≡ true → good_tree r.restriction false ≡ true
  tuples : all (good_tuple v) r.excluded ≡ true
  further : Tokens
  is :
      restricted (shown (x + v) r.restriction) (map (excludes x) r.excluded)
      ≡ parenthesized (shown (x + v) first ++ further)
  trail : Trail further u

-- its excluded tuples
tuples-excluding :
    {v high : ℕ} (x : ℕ) (first : Tree) (ts : List (List ℤ)) {u : Text} →
    Several (excludes x) (good_tuple v) ampersand 1 high ts u →
    Excluding v x first (record { restriction = first; excluded = ts }) u
unfolding bytes separated restricted
tuples-excluding x first [] s = absurd (omega (arith, s.many))
tuples-excluding x first (t ∷ ts) s = record {
  good = λ e. e;
  tuples = s.each;
  further = gather (λ next. bytes "&" ∷ next) (map (excludes x) (t ∷ ts));
  is = refl;
  trail = s.trail;
}

-- further operands
joined-excluding :
    {v x : ℕ} {first t : Tree} {u : Text} →
    Joined false (x + v) first t u →
    Excluding v x first (record { restriction = t; excluded = [] }) u
unfolding all restricted
joined-excluding j =
    record { good = j.good; tuples = refl; further = j.further; is = joined-shown j; trail = j.trail }

-- the connective before a tuple is next
excluding-next : (v : ℕ) (text : Text) → begins_excluding v text ≡ true → begins_with ampersand (behind_blanks text) ≡ true
unfolding begins_excluding
excluding-next v text e = and_left (begins_with ampersand (behind_blanks text)) _ e

module _ {told : Type 0} (room : ℕ) (below : Readers) (h : AllRead told below) (v x : ℕ) (l : 1 ≤ v) where
  excluding-reads :
      (first : Tree) →
      Reads told (Excluding v x first) (excluding room below first (below.operand false (x + v)) v x)
  unfolding all excluding ◌>>=◌
  excluding-reads first = record {
    example = λ t.
        let (c, u, j) = joined-some false (x + v) _ (h.operand false (x + v)) first t [] refl in
        (record { restriction = c; excluded = [] }, u, joined-excluding j);
    comes = λ text p.
        ⊎_elim
        (λ k.
        rw k
        (comes-map (λ ts. record { restriction = first; excluded = ts })
        (more-comes (excludes x) (good_tuple v) ampersand _ (tuple-reads (room - 1) v x l) text p (excluding-next v text k))
        (λ ts u s. tuples-excluding x first ts s)))
        (λ k.
        rw k
        (comes-map (λ c. record { restriction = c; excluded = [] })
        ((further-reads false (x + v) _ (h.operand false (x + v)) first).comes text p) (λ c u j. joined-excluding j)))
        (decide (begins_excluding v text));
  }

  restriction-reads : Reads told (Restriction v x) (read_restriction room below v x)
  unfolding read_restriction parenthesized
  restriction-reads =
      then_reads look-reads λ b gap e.
      cond-reads (eqb b parenthesis)
      (λ _.
      then_reads (opening-reads room) λ _ u₁ f₁.
      then_reads (h.operand false (x + v)) λ first u₂ (good, f₂).
      then_reads (excluding-reads first) λ r u₃ s.
      map-reads (λ _. r) (token-reads (bytes ")")) λ _ u₄ f₄.
      record {
        good = s.good good;
        tuples = s.tuples;
        fill = rw s.is (fill-blanks gap e (parenthesized-fill f₁ f₂ s.trail f₄));
      })
      (λ _.
      map-reads (λ c. record { restriction = c; excluded = [] }) (operand-reads room below h false (x + v) gap e) λ c u o.
      untupled o)

-- the readers with room for so many parentheses
pub readers-read : {told : Type 0} (room : ℕ) → AllRead told (readers room)
unfolding all readers
readers-read zero = record {
  operand = λ formula scope. operand-reads zero no_readers none_read formula scope [] refl;
  restriction = λ v x l. restriction-reads zero no_readers none_read v x l;
}
readers-read (suc room) = record {
  operand = λ formula scope. operand-reads (suc room) (readers room) (readers-read room) formula scope [] refl;
  restriction = λ v x l. restriction-reads (suc room) (readers room) (readers-read room) v x l;
}

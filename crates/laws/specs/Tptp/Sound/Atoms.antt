-- What the readers of plain truth values, atoms and comparisons read, with blanks or a negation in front of them.
use Rattle.std.specs.Prelude.{ℕ, ◌-◌, ◌≤◌, ◌≡◌, refl, Bool, length, eqb}
use Rattle.std.proofs.Common.{arith}
use Rattle.std.proofs.Math.Bool.{true, false}
use mathlib.Core.List.{List, [], ◌∷◌, ◌++◌, map, append_assoc}
use borrow.Author.Tests.{le-leb}
use Rattle.model.specs.Bytes.{Text, bytes, blank, comma, letter_p, letter_t, letter_f}
use Rattle.model.specs.Lists.{all}
use Rattle.model.specs.Decimal.{digits}
use Rattle.model.specs.Tree.{Term, Tree, plain, atom, compare}
use Rattle.model.specs.Tptp.{Tokens, greatest_number, predicate_token, term_token, parenthesized, separated, negation, is_join, enclosed}
use Rattle.model.specs.Tptp.{tokens, good_term, good_tree}
use Rattle.model.specs.TptpReading.{terms, read_atom, read_compare, read_dollar, read_negated}
use Rattle.laws.specs.Words.Tests.{and-true}
use Rattle.laws.specs.Tptp.Spelling.TokensInFront.{Fill, Trail, fill-append, fill-blanks, fill-longer, fill-word, trail-none, trail-blanks}
use Rattle.laws.specs.Tptp.Spelling.TokensInFront.{trail-append, trail-fill}
use Rattle.laws.specs.Tptp.Sound.Readers.{Spelling, behind, Reads, cond-reads, then_reads, map-reads, behind-both}
use Rattle.laws.specs.Tptp.Sound.Tokens.{literal-reads, token-reads, peek-reads, look-reads, opening-reads}
use Rattle.laws.specs.Tptp.Sound.Numbers.{Item, natural-reads, integer-reads, term-reads}
use Rattle.laws.specs.Tptp.Sound.Lists.{up_to-reads}

-- the tokens of an operand with so many variables in scope; the operands of a formula (true) or a restriction
abbrev pub shown : (scope : ℕ) (t : Tree) → Tokens
shown scope t = enclosed t (tokens t scope)

abbrev pub Operand : (formula : Bool) (scope : ℕ) → Spelling Tree
Operand formula scope = Item (shown scope) (λ t. good_tree t formula)

-- the name of the comparison, or of a plain truth value, in three parts: `$`, nothing, and the word
dollar-fill :
    {u₁ u₂ u₃ : Text} (word : Text) →
    Fill (bytes "$" ∷ []) u₁ →
    u₂ ≡ [] →
    u₃ ≡ word →
    Fill ((bytes "$" ++ word) ∷ []) (u₁ ++ (u₂ ++ u₃))
dollar-fill word f none is = rw (none, is) (fill-longer word f)

-- the terms of an atom, with commas between them
record Terms (ts : List Term) (u : Text) : Type 0 where
  some : 1 ≤ length ts
  few : length ts ≤ 6
  each : all good_term ts ≡ true
  trail : Trail (separated (bytes ",") (map (λ t. term_token t ∷ []) ts)) u

terms-reads : {told : Type 0} → Reads told Terms terms
unfolding all bytes separated terms
terms-reads =
    then_reads term-reads λ t u₁ (good, f).
    map-reads (λ ts. t ∷ ts) (up_to-reads (λ t. term_token t ∷ []) good_term comma _ term-reads 5) λ ts u₂ s.
    record {
      some = omega arith;
      few = omega (arith, s.few);
      each = and-true good s.each;
      trail = trail-append f s.trail;
    }

module _ {told : Type 0} (room : ℕ) (formula : Bool) (scope : ℕ) where
  -- an atom behind its negation, if there is one
  pub atom-reads : (b : Bool) (u : Text) → Trail (negation b) u → Reads told (behind u (Operand formula scope)) (read_atom room b)
  unfolding read_atom predicate_token parenthesized is_join enclosed tokens good_tree
  atom-reads b u before =
      then_reads (token-reads (bytes "p")) λ _ u₁ f₁.
      then_reads natural-reads λ p u₂ (is, small).
      then_reads (opening-reads room) λ _ u₃ f₃.
      then_reads terms-reads λ ts u₄ s.
      map-reads (λ _. atom b p ts) (token-reads (bytes ")")) λ _ u₅ f₅.
      let arguments = fill-append f₃ (trail-fill s.trail f₅) in
      let one = le-leb 1 (length ts) s.some in
      let six = le-leb (length ts) 6 s.few in (
        and-true (and-true (and-true (le-leb p greatest_number small) one) six) s.each,
        trail-fill before (rw is (fill-word (digits 10 p) f₁ arguments)),
      )

  -- a comparison behind its name
  pub compare-reads :
      (b : Bool) (u : Text) →
      Fill (negation b ++ bytes "$lesseq" ∷ []) u →
      Reads told (behind u (Operand formula scope)) (read_compare room b)
  unfolding read_compare parenthesized is_join enclosed tokens good_tree
  compare-reads b u before =
      then_reads (opening-reads room) λ _ u₁ f₁.
      then_reads (token-reads (bytes "$sum")) λ _ u₂ f₂.
      then_reads (opening-reads (room - 1)) λ _ u₃ f₃.
      then_reads term-reads λ x u₄ (good_x, f₄).
      then_reads (token-reads (bytes ",")) λ _ u₅ f₅.
      then_reads integer-reads λ d u₆ (sized, f₆).
      then_reads (token-reads (bytes ")")) λ _ u₇ f₇.
      then_reads (token-reads (bytes ",")) λ _ u₈ f₈.
      then_reads term-reads λ y u₉ (good_y, f₉).
      map-reads (λ _. compare b d x y) (token-reads (bytes ")")) λ _ u₁₀ f₁₀.
      let second = fill-append f₇ (fill-append f₈ (fill-append f₉ f₁₀)) in
      let first = fill-append f₃ (fill-append f₄ (fill-append f₅ (fill-append f₆ second))) in
      (and-true (and-true sized good_x) good_y, rw append_assoc at (fill-append before (fill-append f₁ (fill-append f₂ first))))

  -- what begins with `$`
  pub dollar-reads : (gap : Text) → all blank gap ≡ true → Reads told (behind gap (Operand formula scope)) (read_dollar room)
  unfolding bytes read_dollar negation is_join enclosed tokens good_tree
  dollar-reads gap e =
      then_reads (token-reads (bytes "$")) λ _ u₁ f.
      then_reads peek-reads λ b u₂ none.
      cond-reads (eqb b letter_t)
      (λ _.
      map-reads (λ _. plain true) (literal-reads (bytes "true")) λ _ u₃ is.
      (refl, fill-blanks gap e (dollar-fill (bytes "true") f none is)))
      (λ _.
      cond-reads (eqb b letter_f)
      (λ _.
      map-reads (λ _. plain false) (literal-reads (bytes "false")) λ _ u₃ is.
      (refl, fill-blanks gap e (dollar-fill (bytes "false") f none is)))
      (λ _.
      then_reads (literal-reads (bytes "lesseq")) λ _ u₃ is.
      let N = Operand formula scope in
      behind-both (behind u₁ (behind gap N)) u₂ u₃
      (behind-both (behind gap N) u₁ (u₂ ++ u₃)
      (behind-both N gap (u₁ ++ (u₂ ++ u₃))
      (compare-reads true (gap ++ (u₁ ++ (u₂ ++ u₃))) (fill-blanks gap e (dollar-fill (bytes "lesseq") f none is)))))))

  -- a negated atom or comparison
  pub negated_reads : (gap : Text) → all blank gap ≡ true → Reads told (behind gap (Operand formula scope)) (read_negated room)
  unfolding read_negated negation
  negated_reads gap e =
      let N = Operand formula scope in
      then_reads (token-reads (bytes "~")) λ _ u₁ f₁.
      then_reads look-reads λ b u₂ l.
      cond-reads (eqb b letter_p)
      (λ _.
      behind-both (behind gap N) u₁ u₂
      (behind-both N gap (u₁ ++ u₂)
      (atom-reads false (gap ++ (u₁ ++ u₂)) (trail-blanks gap e (trail-append f₁ (trail-none u₂ l))))))
      (λ _.
      then_reads (token-reads (bytes "$lesseq")) λ _ u₃ f₃.
      behind-both (behind u₁ (behind gap N)) u₂ u₃
      (behind-both (behind gap N) u₁ (u₂ ++ u₃)
      (behind-both N gap (u₁ ++ (u₂ ++ u₃))
      (compare-reads false (gap ++ (u₁ ++ (u₂ ++ u₃))) (fill-blanks gap e (fill-append f₁ (fill-blanks u₂ l f₃)))))))

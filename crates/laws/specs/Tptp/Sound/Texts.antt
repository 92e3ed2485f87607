-- What the reader of a whole text reads: a text that spells a tree, up to its end.
use Rattle.std.specs.Prelude.{ℕ, ◌≡◌, true}
use Rattle.std.proofs.Math.Path.{refl, ap}
use Rattle.std.proofs.Common.{sym, ◌∙◌}
use mathlib.Core.List.{[], ◌∷◌, append_assoc, append-nil}
use Rattle.model.specs.Bytes.{Text, bytes}
use Rattle.model.specs.Answer.{Outcome, passed, refused}
use Rattle.model.specs.Tree.{Tree}
use Rattle.model.specs.Tptp.{parenthesized, text_tokens, lower_word, good_tree, Spells}
use Rattle.model.specs.TptpReading.{Got, Reader, give, onwards, ◌>>=◌, ending, read_whole}
use Rattle.laws.specs.Answer.{refused-passed, passed-same}
use Rattle.laws.specs.Tptp.Spelling.TokensInFront.{Trail, fill-stand, trail-none, trail-append, trail-both}
use Rattle.laws.specs.Tptp.Sound.Readers.{Reads, then_reads, map-reads}
use Rattle.laws.specs.Tptp.Sound.Tokens.{blanks-reads, token-reads, name-reads, ending-reads}
use Rattle.laws.specs.Tptp.Sound.Joins.{whole-reads}
use Rattle.laws.specs.Tptp.Sound.Trees.{readers-read}

-- a text of these tokens, and of blanks behind them
spells :
    (word : Text) (t : Tree) (u : Text) →
    lower_word word ≡ true →
    good_tree t true ≡ true →
    Trail (text_tokens word t) u →
    Spells u t
unfolding Spells
spells word t u lower good s = (word, s.gap, lower, good, rw s.is (fill-stand s.gap s.fill), s.blanks)

pub text-reads : {told : Type 0} (room : ℕ) → Reads told (λ t u. Spells u t) (read_whole room)
unfolding read_whole parenthesized text_tokens
text-reads room =
    then_reads (token-reads (bytes "tff")) λ _ u₁ f₁.
    then_reads (token-reads (bytes "(")) λ _ u₂ f₂.
    then_reads name-reads λ _ u₃ (word, lower, f₃).
    then_reads (token-reads (bytes ",")) λ _ u₄ f₄.
    then_reads (token-reads (bytes "axiom")) λ _ u₅ f₅.
    then_reads (token-reads (bytes ",")) λ _ u₆ f₆.
    then_reads (whole-reads true 0 _ ((readers-read room).operand true 0)) λ t u₇ a.
    then_reads (token-reads (bytes ")")) λ _ u₈ f₈.
    then_reads (token-reads (bytes ".")) λ _ u₉ f₉.
    then_reads blanks-reads λ _ gap e.
    map-reads (λ _. t) ending-reads λ _ u₁₀ none.
    let end = trail-append f₈ (trail-append f₉ (trail-none gap e)) in
    let front = trail-append f₃ (trail-append f₄ (trail-append f₅ (trail-append f₆ (trail-both a.trail end)))) in
    spells word t _ lower a.good (rw (append_assoc, none, append-nil gap) (trail-append f₁ (trail-append f₂ front)))

-- a reader that passes at a text's end only
abbrev Last : {A : Type 0} → Reader A → Type 0
Last {A} r = (text : Text) (p : ℕ) (g : Got A) → r text p ≡ passed g → g.rest ≡ []

module _ {A B : Type 0} (r : Reader A) where
  last_then : (next : A → Reader B) → ((a : A) → Last (next a)) → Last (r >>= next)
  unfolding onwards ◌>>=◌
  last_then next k text p g e = go (r text p) e
    where
      go : (o : Outcome (Got A)) → onwards o next ≡ passed g → g.rest ≡ []
      go (refused f q) e = refused-passed e
      go (passed h) e = k h.what h.rest h.at g e

  last-map : (f : A → B) → Last r → Last (r >>= λ a. give (f a))
  unfolding give onwards ◌>>=◌
  last-map f k text p g e = go (r text p) refl e
    where
      go : (o : Outcome (Got A)) → r text p ≡ o → onwards o (λ a. give (f a)) ≡ passed g → g.rest ≡ []
      go (refused f q) is e = refused-passed e
      go (passed h) is e = ap (λ (j : Got B). j.rest) (sym (passed-same e)) ∙ k text p h is

ending-last : Last ending
unfolding ending
ending-last [] p g e = ap (λ (j : Got (Unit {0})). j.rest) (sym (passed-same e))
ending-last (b ∷ t) p g e = refused-passed e

pub text-last : (room : ℕ) → Last (read_whole room)
unfolding read_whole
text-last room =
    last_then _ _ λ _.
    last_then _ _ λ _.
    last_then _ _ λ _.
    last_then _ _ λ _.
    last_then _ _ λ _.
    last_then _ _ λ _.
    last_then _ _ λ t.
    last_then _ _ λ _.
    last_then _ _ λ _.
    last_then _ _ λ _.
    last-map ending (λ _. t) ending-last

-- The readers of plain truth values, atoms and comparisons take the tokens of these.
use Rattle.std.specs.Prelude.{ℕ, ◌-◌, ◌≡◌, Bool, cond, ℤ}
use native.Mathlib.Omega.{arith}
use Rattle.std.proofs.Math.Path.{refl}
use Rattle.std.proofs.Common.{ap}
use Rattle.std.proofs.Math.Bool.{true, false}
use mathlib.Core.List.{List, [], ◌∷◌, ◌++◌, map}
use Rattle.model.specs.Words.{word_sized}
use Rattle.model.specs.Bytes.{Text, bytes, blank, digit, dollar, letter_p}
use Rattle.model.specs.Decimal.{digits, decimal}
use Rattle.model.specs.Tree.{Term, Tree, plain, atom, compare}
use Rattle.model.specs.Tptp.{Tokens, Stand, predicate_token, term_token, parenthesized, separated, good_term}
use Rattle.model.specs.TptpReading.{onwards, ◌>>=◌, give, peek, literal, token, behind_blanks, read_atom, read_compare, read_dollar}
use Rattle.model.specs.TptpReading.{read_negated}
use Rattle.laws.specs.Tptp.Limits.Opened.{closing}
use Rattle.laws.specs.Tptp.Spelling.Good.{GoodAtom}
use Rattle.laws.specs.Tptp.Spelling.TokensAhead.{free, solid, stand_ahead, ahead_token, ahead_first, stand-apart}
use Rattle.laws.specs.Tptp.Complete.Readers.{took, Completes, blanks-passed, map_completes, free_completes, token_completes, last_completes}
use Rattle.laws.specs.Tptp.Complete.Readers.{look_completes, opening_completes}
use Rattle.laws.proofs.Tptp.Complete.Numbers.{word_completes, integer_completes, term_completes}
use Rattle.laws.proofs.Tptp.Complete.Lists.{stand-next, terms_completes}

module _ (room : ℕ) (rest : Text) where
  pub plain_completes :
      (b : Bool) → Completes 0 room (cond b (bytes "$true") (bytes "$false") ∷ []) (plain b) rest (read_dollar room)
  unfolding bytes blank solid Stand token peek literal give onwards ◌>>=◌ read_dollar
  plain_completes true = record {
    takes = λ text s p.
        let (behind, is, stand) = ahead_token (bytes "$true") [] text rest refl s in
        let (q, passes) = blanks-passed text p in
        rw (passes, is) (took (omega arith) (ap behind_blanks stand));
  }
  plain_completes false = record {
    takes = λ text s p.
        let (behind, is, stand) = ahead_token (bytes "$false") [] text rest refl s in
        let (q, passes) = blanks-passed text p in
        rw (passes, is) (took (omega arith) (ap behind_blanks stand));
  }

  -- an atom behind its negation
  pub atom_completes :
      (b : Bool) (p : ℕ) (ts : List Term) →
      GoodAtom p ts →
      Completes 1 room (predicate_token p ∷ parenthesized (separated (bytes ",") (map (λ t. term_token t ∷ []) ts))) (atom b p ts)
      rest (read_atom room b)
  unfolding bytes blank digit solid free predicate_token parenthesized read_atom
  atom_completes b p ts good =
      word_completes (bytes "p") p _ refl good.number (λ mid s. stand-apart (bytes "(") _ mid rest refl refl s)
      (opening_completes room λ r is.
      free_completes _
      (λ mid s. terms_completes ts mid good.some good.few good.each (stand-next closing [] _ mid rest refl refl s))
      (map_completes (λ _. atom b p ts) refl (last_completes (bytes ")") refl)))

  -- a comparison behind its name
  pub compare_completes :
      (b : Bool) (d : ℤ) (x y : Term) →
      word_sized d ≡ true →
      good_term x ≡ true →
      good_term y ≡ true →
      Completes 2 room
      (parenthesized (bytes "$sum" ∷ parenthesized (term_token x ∷ bytes "," ∷ decimal d ∷ []) ++ bytes "," ∷ term_token y ∷ []))
      (compare b d x y) rest (read_compare room b)
  unfolding bytes blank digit solid free parenthesized read_compare
  compare_completes b d x y sized good_x good_y =
      opening_completes room λ r is.
      let lower : room - 1 ≡ r = omega arith in
      token_completes (bytes "$sum") refl
      (rw lower
      (opening_completes r λ s is.
      free_completes _ {ts₁ = term_token x ∷ []}
      (λ mid s. term_completes (stand-apart (bytes ",") _ mid rest refl refl s) x good_x)
      (token_completes (bytes ",") refl
      (free_completes _ {ts₁ = decimal d ∷ []}
      (λ mid s. integer_completes (stand-apart (bytes ")") _ mid rest refl refl s) d sized)
      (token_completes (bytes ")") refl
      (token_completes (bytes ",") refl
      (free_completes _ {ts₁ = term_token y ∷ []}
      (λ mid s. term_completes (stand-apart (bytes ")") _ mid rest refl refl s) y good_y)
      (map_completes (λ _. compare b d x y) refl (last_completes (bytes ")") refl)))))))))

  -- what begins with the name of the comparison
  pub lesseq_completes :
      {n : ℕ} {ts : Tokens} {t : Tree} →
      Completes n room ts t rest (read_compare room true) →
      Completes n room (bytes "$lesseq" ∷ ts) t rest (read_dollar room)
  unfolding bytes blank solid token peek literal onwards ◌>>=◌ read_dollar
  lesseq_completes {ts} c = record {
    takes = λ text s p.
        let (behind, is, stand) = ahead_token (bytes "$lesseq") ts text rest refl s in
        let (q, passes) = blanks-passed text p in
        rw (passes, is) (c.takes behind (stand_ahead stand) _);
  }

  -- a negated atom, a negated comparison
  pub negated_atom :
      {n : ℕ} (p : ℕ) {ts : Tokens} {t : Tree} →
      Completes n room (predicate_token p ∷ ts) t rest (read_atom room false) →
      Completes n room (bytes "~" ∷ predicate_token p ∷ ts) t rest (read_negated room)
  unfolding bytes blank solid predicate_token read_negated
  negated_atom p {ts} c =
      token_completes (bytes "~") refl (look_completes _ letter_p refl (ahead_first letter_p (digits 10 p) ts rest refl) c)

  pub negated_compare :
      {n : ℕ} {ts : Tokens} {t : Tree} →
      Completes n room ts t rest (read_compare room false) →
      Completes n room (bytes "~" ∷ bytes "$lesseq" ∷ ts) t rest (read_negated room)
  unfolding bytes blank solid read_negated
  negated_compare {ts} c =
      token_completes (bytes "~") refl
      (look_completes _ dollar refl (ahead_first dollar (bytes "lesseq") ts rest refl) (token_completes (bytes "$lesseq") refl c))

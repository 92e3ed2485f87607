-- Every text that spells a tree is read, and gives it, if there is room for its parentheses; else it is refused by their number.
-- So no text spells two trees.
use Rattle.std.specs.Prelude.{ℕ, suc, ◌≤◌, ◌<◌, max, ◌≡◌, true, false}
use Rattle.std.proofs.Common.{arith, ◌∙◌}
use Rattle.std.proofs.Math.Path.{refl, sym, ap}
use Rattle.std.proofs.Math.Logic.{⊎_elim}
use Rattle.std.proofs.Math.Bool.{not}
use Rattle.std.proofs.lemmas.Bool.{false≢true, not-true}
use mathlib.Core.List.{[], ◌∷◌, ◌++◌, append_assoc, append-nil}
use Rattle.model.specs.Bytes.{Text, bytes, blank, digit, small, capital, word_byte}
use Rattle.model.specs.Lists.{all}
use Rattle.model.specs.Answer.{Outcome, passed, refused}
use Rattle.model.specs.Tree.{Tree}
use Rattle.model.specs.Tptp.{Stand, parenthesized, text_tokens, tokens, lower_word, good_tree, Spells}
use Rattle.model.specs.TptpReading.{Got, give, onwards, ◌>>=◌, peek, look, blanks, word_bytes, name, behind_blanks, readers, ending}
use Rattle.model.specs.TptpReading.{read_whole, tree_of, read_tptp}
use Rattle.model.specs.declared.Refusal.TheVariants.{Level}
use Rattle.laws.specs.Words.Tests.{decide, and_left, and_right, and-true, clash}
use Rattle.laws.specs.Answer.{passed-same}
use Rattle.laws.specs.Tptp.Sound.Tokens.{small_word}
use Rattle.laws.specs.Tptp.Limits.Opened.{closing, opened}
use Rattle.laws.specs.Tptp.Spelling.TokensAhead.{solid, free, blank-cases, behind-gap, stand_ahead, ahead_token, stand-free}
use Rattle.laws.specs.Tptp.Complete.Readers.{Takes, took, over, Completes, blanks-passed, then_completes, free_completes, token_completes}
use Rattle.laws.proofs.Tptp.Complete.Lists.{stand-next}
use Rattle.laws.proofs.Tptp.Complete.Joins.{whole_completes}
use Rattle.laws.proofs.Tptp.Complete.Trees.{tree_taken}

-- the letters, digits and underscores of a name are passed
word-passed :
    (w rest : Text) (p : ℕ) →
    all word_byte w ≡ true →
    free word_byte rest ≡ true →
    (q : ℕ) × (word_bytes (w ++ rest) p ≡ passed (record { what = tt; rest = rest; at = q }))
unfolding all free word_bytes
word-passed [] [] p e h = (p, refl)
word-passed [] (c ∷ rest) p e h = (p, rw (not-true (word_byte c) h))
word-passed (b ∷ w) rest p e h = rw (and_left (word_byte b) _ e) (word-passed w rest (suc p) (and_right (word_byte b) _ e) h)

blank-word : (b : ℕ) → blank b ≡ true → word_byte b ≡ false
unfolding digit small capital word_byte
blank-word = blank-cases (λ b. word_byte b ≡ false) refl refl refl

module _ {room : ℕ} {rest : Text} where
  -- a small letter, and more
  letters_completes :
      (b : ℕ) (w : Text) →
      small b ≡ true →
      word_byte b ≡ true →
      blank b ≡ false →
      all word_byte w ≡ true →
      free word_byte rest ≡ true →
      Completes 0 room ((b ∷ w) ∷ []) tt rest name
  unfolding all solid Stand look peek onwards ◌>>=◌ name
  letters_completes b w first word full others h = record {
    takes = λ text s p.
        let (behind, is, stand) = ahead_token (b ∷ w) [] text rest (ap not full) s in
        let (q, passes) = blanks-passed text p in
        let (q₁, passes₁) = word-passed (b ∷ w) behind q (and-true word others) (rw stand h) in
        rw (passes, is, first, passes₁) (took (omega arith) (ap behind_blanks stand));
  }

  name_completes : (w : Text) → lower_word w ≡ true → free word_byte rest ≡ true → Completes 0 room (w ∷ []) tt rest name
  unfolding lower_word
  name_completes [] e h = absurd (false≢true e)
  name_completes (b ∷ w) e h =
      let first = and_left (small b) _ e in
      let word = small_word b first in
      let full = ⊎_elim (λ k. clash word (blank-word b k)) (λ k. k) (decide (blank b)) in
      letters_completes b w first word full (and_right (small b) _ e) h

  -- blanks, and the end of the text
  end_completes : (t : Tree) → all blank rest ≡ true → Completes 0 room [] t rest (blanks >>= λ _. ending >>= λ _. give t)
  unfolding Stand give onwards ◌>>=◌ behind_blanks ending
  end_completes t e = record {
    takes = λ text s p.
        let (q, passes) = blanks-passed text p in
        let gone = behind-gap rest [] e in
        let none : behind_blanks text ≡ [] = s.alike ∙ ap behind_blanks (s.stand ∙ sym (append-nil rest)) ∙ gone in
        rw (passes, none) (took (omega arith) (sym gone ∙ ap behind_blanks (append-nil rest)));
  }

text_completes :
    (room : ℕ) (word : Text) (tree : Tree) (rest : Text) →
    lower_word word ≡ true →
    good_tree tree true ≡ true →
    all blank rest ≡ true →
    Completes (opened tree) room (text_tokens word tree) tree rest (read_whole room)
unfolding bytes blank digit small capital word_byte solid free parenthesized text_tokens read_whole
text_completes room word tree rest lower good end =
    let k = tree_taken tree true good in
    token_completes (bytes "tff") refl
    (token_completes (bytes "(") refl
    (free_completes _ {ts₁ = word ∷ []}
    (λ mid s. name_completes word lower (stand-free word_byte blank-word (bytes ",") _ mid rest refl refl s))
    (token_completes (bytes ",") refl
    (token_completes (bytes "axiom") refl
    (token_completes (bytes ",") refl
    (rw (append_assoc (tokens tree 0) (bytes ")" ∷ []) (bytes "." ∷ []))
    (then_completes _ (opened tree) (omega arith)
    (λ mid s.
    whole_completes 0 ((readers room).operand true 0) tree true mid good (λ mid. k.self room 0 mid)
    (λ u m mid _. k.each u m room 0 mid) (stand-next closing [] _ mid rest refl refl s))
    (token_completes (bytes ")") refl (token_completes (bytes ".") refl (end_completes tree end))))))))))

-- what comes of the text of a tree
module _ (room : ℕ) (text : Text) (tree : Tree) (spells : Spells text tree) where
  spelled : (rest : Text) × Takes (opened tree) room tree rest (read_whole room text 0)
  unfolding Spells
  spelled =
      let (word, rest, lower, good, stand, end) = spells in
      (rest, (text_completes room word tree rest lower good end).takes text (stand_ahead stand) 0)

  -- a text that spells a tree is read, if there is room for its parentheses
  pub tptp_complete : opened tree ≤ room → read_tptp room text ≡ passed tree
  unfolding read_tptp tree_of
  tptp_complete l = let (rest, takes) = spelled in go takes
    where
      go : {rest : Text} {o : Outcome (Got Tree)} → Takes (opened tree) room tree rest o → tree_of o ≡ passed tree
      go (took h s) = refl
      go (over h) = absurd (omega arith)

  -- else it is refused by their number
  pub tptp_over : room < opened tree → (p : ℕ) × (read_tptp room text ≡ refused Level p)
  unfolding read_tptp tree_of
  tptp_over l = let (rest, takes) = spelled in go takes
    where
      go :
          {rest : Text} {o : Outcome (Got Tree)} →
          Takes (opened tree) room tree rest o →
          (p : ℕ) × (tree_of o ≡ refused Level p)
      go (took h s) = absurd (omega arith)
      go (over {q} h) = (q, refl)

-- a text spells one tree
pub tptp_once : (text : Text) (t u : Tree) → Spells text t → Spells text u → t ≡ u
tptp_once text t u s₁ s₂ =
    let room = max (opened t) (opened u) in
    passed-same (sym (tptp_complete room text t s₁ (omega arith)) ∙ tptp_complete room text u s₂ (omega arith))

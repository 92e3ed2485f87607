-- The length that a text begins with.
use Rattle.std.proofs.Common.{◌≡◌, ◌≤◌, ◌<◌, ℕ, ℤ, false, List, ◌∷◌, ◌++◌, Some, None, refl, sym, ap, ap₂, ◌∙◌, length, take, replicate, length-take-le}
use Rattle.std.proofs.lemmas.Bool.{le-leb, lt-leb, ne_eqb}
use Rattle.std.proofs.lemmas.List.{nil_from_length, length-replicate}
use Rattle.model.specs.Bytes.{Text}
use Rattle.model.specs.Answer.{Outcome, passed, refused}
use Rattle.model.specs.TptpReading.{Got, natural}
use Rattle.model.specs.declared.Refusal.{Refusal}
use Rattle.cases.specs.declared.given.TheConstants.{MARK}
use Rattle.cases.specs.Given.{announced, within, filled, numbers, words_of, line_bytes, bytes_of}

-- nothing, or another byte in front
pub no_text : (room : ℕ) (text : Text) → length text ≡ 0 → None ≡ announced room text
unfolding announced
no_text room text e = rw (nil_from_length text e) refl

module _ (room : ℕ) (text : Text) (b : ℕ) (behind : Text) (front : text ≡ b ∷ behind) where
  pub no_mark : (b ≡ MARK → ⊥) → None ≡ announced room text
  unfolding announced
  no_mark other = rw (front, ne_eqb b MARK other) refl

  -- the mark, and a number, too great a number, or none
  module _ (mark : b ≡ MARK) (rest : Text) (at : ℕ) (here : rest ≡ behind) (start : at ≡ 0) where
    moved : (o : Outcome (Got ℕ)) → natural rest at ≡ o → natural behind 0 ≡ o
    moved o e = ap₂ natural (sym here) (sym start) ∙ e

    pub some_length : (g : Got ℕ) → natural rest at ≡ passed g → g.what ≤ room → Some g.what ≡ announced room text
    unfolding announced within
    some_length g reads few = rw (front, mark, moved _ reads, le-leb g.what room few) refl

    pub great_length : (g : Got ℕ) → natural rest at ≡ passed g → room < g.what → Some 0 ≡ announced room text
    unfolding announced within
    great_length g reads great = rw (front, mark, moved _ reads, lt-leb g.what room great) refl

    pub no_length : (q : Refusal) (p : ℕ) → natural rest at ≡ refused q p → Some 0 ≡ announced room text
    unfolding announced within
    no_length q p reads = rw (front, mark, moved _ reads) refl

-- the words and the bytes of a text that begins with a length, or with none
module _ (text : Text) (filler : ℤ) (room : ℕ) where
  pub words-filled : (n : ℕ) → Some n ≡ announced room text → words_of text filler room ≡ replicate n filler
  unfolding words_of filled
  words-filled n e = rw (sym e) refl

  pub words-read : None ≡ announced room text → words_of text filler room ≡ numbers room text 0
  unfolding words_of filled
  words-read e = rw (sym e) refl

module _ (text : Text) (room : ℕ) where
  pub bytes-filled : (n : ℕ) → Some n ≡ announced room text → bytes_of text room ≡ replicate n 7
  unfolding bytes_of filled
  bytes-filled n e = rw (sym e) refl

  pub bytes-read : None ≡ announced room text → bytes_of text room ≡ take room (line_bytes false text)
  unfolding bytes_of filled
  bytes-read e = rw (sym e) refl

-- what a slice's front was filled with is what is given
module _ {A : Type 0} (filler : A) (n : ℕ) (given : List A) (so : given ≡ replicate n filler) where
  pub filled-count : n ≡ length given
  filled-count = sym (ap length so ∙ length-replicate n filler)

  pub filled-whole :
      (old new rest : List A) (x : A) → n ≤ length old → new ≡ replicate (length (take n old)) x → x ≡ filler → new ++ rest ≡ given ++ rest
  filled-whole old new rest x few filled is = ap (λ (xs : List A). xs ++ rest) (filled ∙ rw (length-take-le n old few, is) (sym so))

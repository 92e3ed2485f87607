-- Laws for the reading of tokens: one byte after another, and one reading after another.
use Prim.Native.Nat.{ℕ, zero, suc, ◌+◌, ◌≤◌, ◌<◌}
use native.Mathlib.Numerals.{add-one}
use native.Mathlib.Omega.{arith}
use mathlib.Core.Path.{◌≡◌, refl, sym, ap, ◌∙◌}
use mathlib.Core.Logic.{⊎_elim}
use mathlib.Core.List.{[], ◌∷◌}
use lib.ListN.{length, drop, get_or, drop_of_length-le}
use lib.Seq.{drop-cons}
use borrow.Author.Tests.{eq-eqb, ne_eqb}
use Rattle.std.specs.Prelude.{slice_get, Some, None, Result, Ok, Err}
use Rattle.std.proofs.lemmas.Option.{slice_get_within, get_or_from_slice_get}
use Rattle.text.specs.declared.cursor.Cursor.{Cursor}
use Rattle.laws.specs.Lists.Span.{side}
use Rattle.model.specs.Bytes.{Text, bytes}
use Rattle.model.specs.Answer.{Outcome, passed, refused}
use Rattle.model.specs.TptpReading.{Got, Reader, give, onwards, ◌>>=◌, stop, blanks, peek, literal, look, token, opening}
use Rattle.model.specs.declared.Refusal.{Refusal}
use Rattle.model.specs.declared.Refusal.TheVariants.{Level, Tptp}
use Rattle.tptp_tokens.specs.Steps.{from, got, Skips, Reads, Steps}
use Rattle.tptp_tokens.proofs.MovedLaws.{further, past}

-- a text from an index on: a byte and the rest, or nothing
pub here : (text : Text) (i : ℕ) → i < length text → drop i text ≡ get_or text i 0 ∷ drop (i + 1) text
here text i h = drop-cons text i 0 h ∙ ap (λ (k : ℕ). get_or text i 0 ∷ drop k text) (sym (add-one i))

pub over : (text : Text) (i : ℕ) → length text ≤ i → drop i text ≡ []
over text i h = drop_of_length-le text h

module _ {A B : Type 0} (reader : Reader A) (next : A → Reader B) (here : Cursor) where
  -- what comes behind a reading, and what comes of a refused one
  pub onward : (a : A) (new : Cursor) → from reader here ≡ got a new → from (reader >>= next) here ≡ from (next a) new
  unfolding ◌>>=◌ onwards
  onward a new e = rw e

  pub halt : (q : Refusal) (p : ℕ) → from reader here ≡ refused q p → from (reader >>= next) here ≡ refused q p
  unfolding ◌>>=◌ onwards
  halt q p e = rw e

-- readings one behind another, however they are grouped
pub grouped :
    {A B C : Type 0} (one : Reader A) (next : A → Reader B) (last : B → Reader C) (t : Text) (p : ℕ) →
    (one >>= next >>= last) t p ≡ (one >>= λ a. next a >>= last) t p
unfolding ◌>>=◌ onwards
grouped {A} one next last t p = go (one t p)
  where
    go : (o : Outcome (Got A)) → onwards (onwards o next) last ≡ onwards o (λ a. next a >>= last)
    go (refused q k) = refl
    go (passed g) = refl

-- what was read and changed, and something behind it
pub given_then :
    {A B C : Type 0} (one : Reader A) (f : A → B) (next : B → Reader C) (t : Text) (p : ℕ) →
    (one >>= (λ a. give (f a)) >>= next) t p ≡ (one >>= λ a. next (f a)) t p
unfolding ◌>>=◌ onwards give
given_then one f next t p = grouped one (λ a. give (f a)) next t p

-- a reading with the token behind it, and something behind both
pub closed_then :
    {A B : Type 0} (one : Reader A) (word : Text) (next : A → Reader B) (t : Text) (p : ℕ) →
    (one >>= λ a. token word >>= λ _. next a) t p ≡ (one >>= (λ a. token word >>= λ _. give a) >>= next) t p
unfolding ◌>>=◌ onwards give
closed_then {A} one word next t p = go (one t p)
  where
    go :
        (o : Outcome (Got A)) →
        onwards o (λ a. token word >>= λ _. next a) ≡ onwards (onwards o (λ a. token word >>= λ _. give a)) next
    go (refused q k) = refl
    go (passed g) = sym (grouped (token word) (λ _. give g.what) next g.rest g.at)

-- a text that begins with a byte, or is at its end
pub begun : (t : Text) (b : ℕ) → slice_get t 0 ≡ Some b → t ≡ b ∷ drop 1 t
begun [] b h = absurd (omega (arith, slice_get_within [] 0 b h))
begun (x ∷ t) b h = ap (λ (y : ℕ). y ∷ t) (get_or_from_slice_get (x ∷ t) 0 b 0 h)

pub ended : (t : Text) → slice_get t 0 ≡ None → t ≡ []
ended [] h = refl
ended (x ∷ t) h = absurd (omega (arith, slice_get_within [] 0 x (sym h)))

-- a literal by the first byte of the text
literal-is : (c : ℕ) (word t : Text) (p : ℕ) → slice_get t 0 ≡ Some c → literal (c ∷ word) t p ≡ literal word (drop 1 t) (p + 1)
unfolding literal
literal-is c word t p h = rw (begun t c h, eq-eqb c c refl, add-one p)

literal-not : (c : ℕ) (word t : Text) (p : ℕ) → (slice_get t 0 ≡ Some c → ⊥) → literal (c ∷ word) t p ≡ refused Tptp p
unfolding literal
literal-not c word [] p h = refl
literal-not c word (b ∷ t) p h = rw (ne_eqb b c (λ (e : b ≡ c). h (ap Some e)))

pub literal-here :
    (old new : Cursor) → new.rest.now ≡ drop 1 old.rest.now → new.at ≡ old.at + 1 → (c : ℕ) → slice_get old.rest.now 0 ≡ Some c →
    Reads (literal (c ∷ [])) old tt new
unfolding literal
literal-here old new r e c h =
    let one = slice_get_within old.rest.now 0 c h in
    record { moved = past old new 1 (omega (arith, one)) r e; reads = literal-is c [] old.rest.now old.at h ∙ rw (sym r, sym e) refl }

-- bytes of a literal one after another
module _ (word text : Text) (i p : ℕ) where
  pub literal-more :
      i < length word →
      i < length text →
      get_or text i 0 ≡ get_or word i 0 →
      literal (drop i word) (drop i text) (p + i) ≡ literal (drop (i + 1) word) (drop (i + 1) text) (p + (i + 1))
  unfolding literal
  literal-more h l e =
      let next : suc (p + i) ≡ p + (i + 1) = omega arith in
      rw (here word i h, here text i l, eq-eqb (get_or text i 0) (get_or word i 0) e, next)

  pub literal-other :
      i < length word →
      (i < length text → get_or text i 0 ≡ get_or word i 0 → ⊥) →
      literal (drop i word) (drop i text) (p + i) ≡ refused Tptp (p + i)
  unfolding literal
  literal-other h e =
      rw (here word i h)
      (⊎_elim
      (λ (l : i < length text). rw (here text i l, ne_eqb (get_or text i 0) (get_or word i 0) (e l)))
      (λ (l : length text ≤ i). rw (over text i l))
      (side (length text) i))

pub literal_end : (word text : Text) (i p : ℕ) → length word ≤ i → literal (drop i word) text p ≡ passed (record { what = tt; rest = text; at = p })
unfolding literal
literal_end word text i p h = rw (over word i h) refl

-- the next byte behind blanks, and a token there
module _ (old mid : Cursor) (s : Skips old mid) where
  pub look-here : (b : ℕ) → slice_get mid.rest.now 0 ≡ Some b → from look old ≡ got b mid
  unfolding look peek
  look-here b h = onward blanks (λ _. peek) old tt mid s.reads.reads ∙ go mid.rest.now h
    where
      go : (t : Text) → slice_get t 0 ≡ Some b → peek t mid.at ≡ passed (record { what = b; rest = t; at = mid.at })
      go t h = rw (begun t b h)

  pub look-over : slice_get mid.rest.now 0 ≡ None → from look old ≡ refused Tptp mid.at
  unfolding look peek
  look-over h = onward blanks (λ _. peek) old tt mid s.reads.reads ∙ ap (λ (t : Text). peek t mid.at) (ended mid.rest.now h)

  pub token-from : (word : Text) → from (token word) old ≡ from (literal word) mid
  unfolding token
  token-from word = onward blanks (λ _. literal word) old tt mid s.reads.reads

  pub token_steps : (word : Text) (new : Cursor) (r : Result (Unit {0}) Refusal) → Steps (literal word) mid new r → Steps (token word) old new r
  token_steps word new (Ok u) l = record { moved = further old mid new s.reads.moved l.moved; reads = token-from word ∙ l.reads }
  token_steps word new (Err e) l = token-from word ∙ l

  pub token-other : (c : ℕ) → (slice_get mid.rest.now 0 ≡ Some c → ⊥) → from (token (c ∷ [])) old ≡ refused Tptp mid.at
  token-other c e = token-from (c ∷ []) ∙ literal-not c [] mid.rest.now mid.at e

  module _ (new : Cursor) (r : new.rest.now ≡ drop 1 mid.rest.now) (e : new.at ≡ mid.at + 1) where
    pub token-here : (c : ℕ) → slice_get mid.rest.now 0 ≡ Some c → Reads (token (c ∷ [])) old tt new
    token-here c h = token_steps (c ∷ []) new (Ok tt) (literal-here mid new r e c h)

    -- an opening parenthesis
    pub opening-here : (room : ℕ) → slice_get mid.rest.now 0 ≡ Some 40 → (room ≡ 0 → ⊥) → Reads (opening room) old tt new
    unfolding opening bytes
    opening-here zero h n = absurd (n refl)
    opening-here (suc room) h n = token-here 40 h

  pub opening-level : (room : ℕ) → slice_get mid.rest.now 0 ≡ Some 40 → room ≡ 0 → from (opening room) old ≡ refused Level mid.at
  unfolding opening
  opening-level zero h n = onward look _ old 40 mid (look-here 40 h)
  opening-level (suc room) h n = absurd (omega arith)

  pub opening-other : (room : ℕ) → (slice_get mid.rest.now 0 ≡ Some 40 → ⊥) → from (opening room) old ≡ refused Tptp mid.at
  unfolding opening bytes stop
  opening-other zero e = go mid.rest.now refl
    where
      go : (t : Text) → mid.rest.now ≡ t → from (opening zero) old ≡ refused Tptp mid.at
      go [] is = halt look _ old Tptp mid.at (look-over (ap (λ (u : Text). slice_get u 0) is))
      go (b ∷ t) is =
          let first = ap (λ (u : Text). slice_get u 0) is in
          onward look _ old b mid (look-here b first) ∙ rw (ne_eqb b 40 (λ (k : b ≡ 40). e (first ∙ ap Some k)))
  opening-other (suc room) e = token-other 40 e

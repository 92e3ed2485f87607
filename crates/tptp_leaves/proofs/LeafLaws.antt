-- Laws for the reading of nodes with none below them.
use Prim.Native.Nat.{ℕ, suc, ◌+◌, ◌*◌, ◌≤◌}
use native.Mathlib.Omega.{arith}
use mathlib.Core.Path.{◌≡◌, refl, sym, ap, ◌∙◌}
use mathlib.Core.Bool.{Bool, true, false, cond}
use mathlib.Core.List.{List, [], ◌∷◌, ◌++◌}
use lib.ListN.{length, take, drop, set, length-append}
use lib.Seq.{take-set-lt}
use lib.IntN.{ℤ, pos}
use borrow.Author.Tests.{ne_eqb}
use Rattle.std.specs.Prelude.{Option, Some, None, slice_get, Result}
use Rattle.text.specs.declared.cursor.Cursor.{Cursor}
use Rattle.model.specs.Words.{Words}
use Rattle.model.specs.Lists.{gather}
use Rattle.model.specs.Bytes.{Text, bytes}
use Rattle.model.specs.Answer.{passed, refused}
use Rattle.model.specs.Tree.{Term, constant, variable, Tree, plain, atom, compare, encode_term, encode}
use Rattle.model.specs.TptpReading.{stop, blanks, onwards, peek, literal, token, ◌>>=◌}
use Rattle.model.specs.TptpReading.{read_atom, read_compare, read_dollar, read_negated}
use Rattle.model.specs.declared.Refusal.TheVariants.{Tptp}
use Rattle.model.specs.declared.Refusal.{Refusal}
use Rattle.laws.specs.Putting.Modes.{terms-length}
use Rattle.tptp_tokens.specs.Steps.{from, got, Skips, Valued}
use Rattle.tptp_leaves.specs.declared.own.Own.{Own}
use Rattle.tptp_leaves.specs.declared.terms.TermWords.{TermWords}
use Rattle.tptp_leaves.specs.Room.{Becomes}
use Rattle.tptp_leaves.specs.Terms.{TermsStand}
use Rattle.tptp_leaves.specs.Leaves.{Unblank, LeafStands, read_plain, behind_dollar, behind_negation, read_leaf}
use Rattle.tptp_tokens.proofs.MovedLaws.{still}
use Rattle.tptp_tokens.proofs.BehindLaws.{valued_from}
use Rattle.tptp_tokens.proofs.TokenLaws.{begun, ended, look-here, look-over, token-here}
use Rattle.tptp_leaves.proofs.TermLaws.{two-words, term-put}

-- an atom
pub atom-stands :
    (b : Bool) (p : ℕ) (ts : List Term) (own own₁ own₂ own₃ : Own) (x : ℕ) → x ≡ cond b 2 3 →
    Becomes own (set own.words.now 0 (pos x)) own₁ → Becomes own₁ (set own₁.words.now 1 (pos p)) own₂ → TermsStand own₂.words.now own₃.words.now ts →
    LeafStands own₃.words.now (atom b p ts)
unfolding encode
atom-stands b p ts own own₁ own₂ own₃ x is tag e t =
    let ws = own.words.now in
    let front : take 2 own₂.words.now ≡ pos (cond b 2 3) ∷ pos p ∷ [] =
    two-words ws own₂.words.now 0 (pos (cond b 2 3)) (pos p) (omega (arith, own.long))
    (e.now ∙ ap (λ (us : Words). set us 1 (pos p)) (tag.now ∙ ap (λ (n : ℕ). set ws 0 (pos n)) is)) in
    let size : suc (suc (suc (length (gather encode_term ts)))) ≡ 3 + 2 * length ts = omega (arith, terms-length ts) in
    record {
      leaf = refl;
      most = omega (arith, terms-length ts, t.most);
      words =
          ap (λ (n : ℕ). take n own₃.words.now) size
          ∙ t.words
          ∙ ap (λ (us : Words). us ++ pos (length ts) ∷ gather encode_term ts) front;
    }

-- a comparison
pub term-two : (t : Term) → length (encode_term t) ≡ 2
unfolding encode_term
term-two (constant k) = refl
term-two (variable x) = refl

module _
    (b : Bool) (own own₁ own₂ own₃ own₄ : Own) (n : ℕ) (is : n ≡ cond b 4 5) (tag : Becomes own (set own.words.now 0 (pos n)) own₁) where
  pub compare-stands :
      (d z : ℤ) → z ≡ d → (x y : Term) (w v : TermWords) →
      encode_term x ≡ w.kind ∷ w.number ∷ [] → Becomes own₁ (set (set own₁.words.now 2 w.kind) 3 w.number) own₂ →
      Becomes own₂ (set own₂.words.now 1 z) own₃ →
      encode_term y ≡ v.kind ∷ v.number ∷ [] → Becomes own₃ (set (set own₃.words.now 4 v.kind) 5 v.number) own₄ →
      LeafStands own₄.words.now (compare b d x y)
  unfolding encode
  compare-stands d z same x y w v xs p e ys q = record {
    leaf = refl;
    most = omega (arith, length-append (encode_term x) (encode_term y), term-two x, term-two y);
    words =
        ap (λ (k : ℕ). take k own₄.words.now) size
        ∙ term-put own₃ own₄ 4 v (omega arith) y ys q
        ∙ ap (λ (ws : Words). ws ++ encode_term y) (front own.words.now own.long (tag.now ∙ ap (λ (k : ℕ). set own.words.now 0 (pos k)) is));
  }
    where
      size : suc (suc (length (encode_term x ++ encode_term y))) ≡ 6
      size = omega (arith, length-append (encode_term x) (encode_term y), term-two x, term-two y)

      front : (ws : Words) → 15 ≤ length ws → own₁.words.now ≡ set ws 0 (pos (cond b 4 5)) → take 4 own₃.words.now ≡ pos (cond b 4 5) ∷ d ∷ encode_term x
      front [] h t = absurd (omega arith)
      front (k ∷ []) h t = absurd (omega arith)
      front (k ∷ l ∷ ws) h t =
          ap (take 4) (e.now ∙ ap (λ (i : ℤ). set own₂.words.now 1 i) same)
          ∙ take-set-lt 4 own₂.words.now 1 d (omega arith)
          ∙ ap (λ (us : Words). set us 1 d) (term-put own₁ own₂ 2 w (omega arith) x xs p ∙ ap (λ (us : Words). take 2 us ++ encode_term x) t)

-- plain true or false
pub plain-stands :
    (b : Bool) (own own₁ : Own) (n : ℕ) → n ≡ cond b 1 0 → Becomes own (set own.words.now 0 (pos n)) own₁ → LeafStands own₁.words.now (plain b)
unfolding encode
plain-stands b own own₁ n is p = record {
  leaf = refl;
  most = omega arith;
  words = front own.words.now own.long (p.now ∙ ap (λ (k : ℕ). set own.words.now 0 (pos k)) is);
}
  where
    front : (ws : Words) → 15 ≤ length ws → own₁.words.now ≡ set ws 0 (pos (cond b 1 0)) → take 1 own₁.words.now ≡ pos (cond b 1 0) ∷ []
    front [] h t = absurd (omega arith)
    front (k ∷ ws) h t = ap (take 1) t

-- a byte is another one
other : (t : Text) (b c : ℕ) → slice_get t 0 ≡ Some b → (slice_get t 0 ≡ Some c → ⊥) → b ≡ c → ⊥
other t b c e n z = n (e ∙ ap (λ (d : ℕ). Some d) z)

-- behind a dollar
module _ (here : Cursor) (room : ℕ) where
  peeked : (b : ℕ) → slice_get here.rest.now 0 ≡ Some b → from peek here ≡ got b here
  unfolding peek
  peeked b = go here.rest.now
    where
      go : (t : Text) → slice_get t 0 ≡ Some b → peek t here.at ≡ passed (record { what = b; rest = t; at = here.at })
      go t h = rw (begun t b h)

  peek_over : slice_get here.rest.now 0 ≡ None → from peek here ≡ refused Tptp here.at
  unfolding peek
  peek_over e = rw (ended here.rest.now e)

  less_over : slice_get here.rest.now 0 ≡ None → from (literal (bytes "lesseq") >>= λ _. read_compare room true) here ≡ refused Tptp here.at
  unfolding bytes literal ◌>>=◌ onwards
  less_over e = rw (ended here.rest.now e)

  -- neither plain true nor false: the comparison's name is read, which the end of the text refuses as well
  pub dollar-compare :
      (slice_get here.rest.now 0 ≡ Some 116 → ⊥) → (slice_get here.rest.now 0 ≡ Some 102 → ⊥) →
      from (behind_dollar room) here ≡ from (literal (bytes "lesseq") >>= λ _. read_compare room true) here
  unfolding ◌>>=◌ onwards
  dollar-compare n m = go (slice_get here.rest.now 0) refl
    where
      go :
          (o : Option ℕ) → slice_get here.rest.now 0 ≡ o →
          from (behind_dollar room) here ≡ from (literal (bytes "lesseq") >>= λ _. read_compare room true) here
      go None e = rw (peek_over e) (sym (less_over e))
      go (Some b) e = rw (peeked b e, ne_eqb b 116 (other here.rest.now b 116 e n), ne_eqb b 102 (other here.rest.now b 102 e m))

  module _ (facts : Tree → Type 0) (end : Cursor) (r : Result (Unit {0}) Refusal) where
    pub dollar-true :
        slice_get here.rest.now 0 ≡ Some 116 → Valued (read_plain (bytes "true") true) facts here end r →
        Valued (behind_dollar room) facts here end r
    unfolding ◌>>=◌ onwards
    dollar-true e =
        valued_from here here end (still here) (behind_dollar room) (read_plain (bytes "true") true) facts (rw (peeked 116 e)) r

    pub dollar-false :
        slice_get here.rest.now 0 ≡ Some 102 → Valued (read_plain (bytes "false") false) facts here end r →
        Valued (behind_dollar room) facts here end r
    unfolding ◌>>=◌ onwards
    dollar-false e =
        valued_from here here end (still here) (behind_dollar room) (read_plain (bytes "false") false) facts (rw (peeked 102 e)) r

-- behind a negation
module _ (old mid : Cursor) (s : Skips old mid) (room : ℕ) where
  name_over : slice_get mid.rest.now 0 ≡ None → from (token (bytes "$lesseq") >>= λ _. read_compare room false) mid ≡ refused Tptp mid.at
  unfolding bytes token blanks literal ◌>>=◌ onwards
  name_over e = rw (ended mid.rest.now e)

  -- no atom: the comparison's name is read, which the end of the text refuses as well
  pub negation-compare :
      (slice_get mid.rest.now 0 ≡ Some 112 → ⊥) →
      from (behind_negation room) old ≡ from (token (bytes "$lesseq") >>= λ _. read_compare room false) mid
  unfolding ◌>>=◌ onwards
  negation-compare n = go (slice_get mid.rest.now 0) refl
    where
      go :
          (o : Option ℕ) → slice_get mid.rest.now 0 ≡ o →
          from (behind_negation room) old ≡ from (token (bytes "$lesseq") >>= λ _. read_compare room false) mid
      go None e = rw (look-over old mid s e) (sym (name_over e))
      go (Some b) e = rw (look-here old mid s b e, ne_eqb b 112 (other mid.rest.now b 112 e n))

  pub negation-atom :
      (facts : Tree → Type 0) (end : Cursor) (r : Result (Unit {0}) Refusal) → slice_get mid.rest.now 0 ≡ Some 112 →
      Valued (read_atom room false) facts mid end r → Valued (behind_negation room) facts old end r
  unfolding ◌>>=◌ onwards
  negation-atom facts end r e =
      valued_from old mid end s.reads.moved (behind_negation room) (read_atom room false) facts (rw (look-here old mid s 112 e)) r

-- a node with none below it
module _ (here : Cursor) (room : ℕ) (u : Unblank here.rest.now) where
  self : Skips here here
  unfolding blanks
  self = record { reads = record { moved = still here; reads = go here.rest.now u }; stop = u }
    where
      go : (t : Text) → Unblank t → blanks t here.at ≡ passed (record { what = tt; rest = t; at = here.at })
      go [] u = refl
      go (b ∷ t) u = rw (u b refl)

  pub leaf-none :
      (slice_get here.rest.now 0 ≡ Some 36 → ⊥) → (slice_get here.rest.now 0 ≡ Some 112 → ⊥) → (slice_get here.rest.now 0 ≡ Some 126 → ⊥) →
      from (read_leaf room) here ≡ refused Tptp here.at
  unfolding stop ◌>>=◌ onwards
  leaf-none d p n = go (slice_get here.rest.now 0) refl
    where
      go : (o : Option ℕ) → slice_get here.rest.now 0 ≡ o → from (read_leaf room) here ≡ refused Tptp here.at
      go None e = rw (look-over here here self e)
      go (Some b) e =
          rw (
            look-here here here self b e,
            ne_eqb b 36 (other here.rest.now b 36 e d),
            ne_eqb b 112 (other here.rest.now b 112 e p),
            ne_eqb b 126 (other here.rest.now b 126 e n),
          )

  module _ (facts : Tree → Type 0) (end : Cursor) (r : Result (Unit {0}) Refusal) where
    pub leaf-atom :
        slice_get here.rest.now 0 ≡ Some 112 → Valued (read_atom room true) facts here end r → Valued (read_leaf room) facts here end r
    unfolding ◌>>=◌ onwards
    leaf-atom e =
        valued_from here here end (still here) (read_leaf room) (read_atom room true) facts (rw (look-here here here self 112 e)) r

    module _ (new : Cursor) (p : new.rest.now ≡ drop 1 here.rest.now) (a : new.at ≡ here.at + 1) where
      pub leaf-dollar :
          slice_get here.rest.now 0 ≡ Some 36 → Valued (behind_dollar room) facts new end r → Valued (read_leaf room) facts here end r
      unfolding read_dollar bytes ◌>>=◌ onwards
      leaf-dollar e =
          let t = token-here here here self new p a 36 e in
          valued_from here new end t.moved (read_leaf room) (behind_dollar room) facts (rw (look-here here here self 36 e, t.reads)) r

      pub leaf-negated :
          slice_get here.rest.now 0 ≡ Some 126 → Valued (behind_negation room) facts new end r → Valued (read_leaf room) facts here end r
      unfolding read_negated bytes ◌>>=◌ onwards
      leaf-negated e =
          let t = token-here here here self new p a 126 e in
          valued_from here new end t.moved (read_leaf room) (behind_negation room) facts (rw (look-here here here self 126 e, t.reads)) r

-- Laws for the reading of terms: the words of one, and of several one after another.
use Prim.Native.Nat.{ℕ, ◌+◌, ◌*◌, ◌-◌, ◌≤◌, ◌<◌}
use native.Mathlib.Numerals.{add-one}
use native.Mathlib.Omega.{arith}
use mathlib.Core.Path.{◌≡◌, refl, sym, ap, ◌∙◌, subst}
use mathlib.Core.Bool.{Bool, true, false}
use mathlib.Core.List.{List, [], ◌∷◌, ◌++◌, append_assoc, append-nil}
use lib.ListN.{length, take, drop, set, get_or, length-set, length-append}
use lib.Seq.{take-suc, take-suc-set, take-set-lt, set_at, length-take-le}
use lib.IntN.{ℤ, pos}
use borrow.Author.Tests.{ne_eqb}
use Rattle.std.specs.Prelude.{Option, Some, None, slice_get, Result, Ok, Err}
use Rattle.model.specs.Words.{Words}
use Rattle.model.specs.Lists.{gather}
use Rattle.model.specs.Bytes.{bytes, comma}
use Rattle.model.specs.Answer.{refused}
use Rattle.model.specs.Tree.{Term, encode_term}
use Rattle.model.specs.TptpReading.{Reader, look, blanks, peek, onwards, ◌>>=◌, integer, term, terms, up_to}
use Rattle.model.specs.declared.Refusal.{Refusal}
use Rattle.model.specs.declared.Refusal.TheVariants.{Tptp}
use Rattle.text.specs.declared.cursor.Cursor.{Cursor}
use Rattle.tptp_tokens.specs.Steps.{from, got, Moved, Reads, Skips, Value}
use Rattle.tptp_tokens.specs.Several.{another}
use Rattle.tptp_leaves.specs.declared.own.Own.{Own}
use Rattle.tptp_leaves.specs.declared.terms.TermWords.{TermWords}
use Rattle.tptp_leaves.specs.Room.{Kept, Becomes}
use Rattle.tptp_leaves.specs.Terms.{TermRead, TermsStand, read_variable, read_constant}
use Rattle.tptp_tokens.proofs.MovedLaws.{further}
use Rattle.tptp_tokens.proofs.TokenLaws.{look-here, look-over, ended}
use Rattle.tptp_tokens.proofs.UpTo.{token-self, attach, attach-give, several_all, several_refused, several_stop, several_none, several_more}

-- two words put behind the first k
pub two-words :
    (own own' : Words) (k : ℕ) (x y : ℤ) → k + 2 ≤ length own → own' ≡ set (set own k x) (k + 1) y →
    take (k + 2) own' ≡ take k own ++ x ∷ y ∷ []
two-words own own' k x y h e =
    let more : k + 2 ≡ (k + 1) + 1 = omega arith in
    let fits : k + 1 < length (set own k x) = omega (arith, length-set own k x) in
    ap (take (k + 2)) e
    ∙ ap (λ (n : ℕ). take n (set (set own k x) (k + 1) y)) (more ∙ add-one (k + 1))
    ∙ take-suc-set (set own k x) (k + 1) y fits
    ∙ ap (λ (ws : Words). ws ++ y ∷ []) (ap (λ (n : ℕ). take n (set own k x)) (add-one k) ∙ take-suc-set own k x (omega arith))
    ∙ append_assoc (take k own) (x ∷ []) (y ∷ [])

-- a room that becomes another, which becomes a third
pub kept-further : (a b c : Own) → Kept a b → Kept b c → Kept a c
kept-further a b c m n = record { same = n.same ∙ m.same; long = n.long ∙ m.long }

-- a term's words put behind the first k
module _ (own own' : Own) (k : ℕ) (w : TermWords) (fits : k + 2 ≤ 15) (t : Term) (e : encode_term t ≡ w.kind ∷ w.number ∷ []) where
  pub term-put :
      Becomes own (set (set own.words.now k w.kind) (k + 1) w.number) own' →
      take (k + 2) own'.words.now ≡ take k own.words.now ++ encode_term t
  term-put p =
      two-words own.words.now own'.words.now k w.kind w.number (omega (arith, own.long)) p.now
      ∙ ap (λ (ws : Words). take k own.words.now ++ ws) (sym e)

-- a term read from a later place on by another reader
term_from :
    (old mid new : Cursor) → Moved old mid → (whole reader : Reader Term) → from whole old ≡ from reader mid →
    (r : Result TermWords Refusal) → TermRead reader mid new r → TermRead whole old new r
term_from old mid new m whole reader e (Ok w) v = record {
  what = v.what;
  reads = record { moved = further old mid new m v.reads.moved; reads = e ∙ v.reads.reads };
  holds = v.holds;
}
term_from old mid new m whole reader e (Err r) v = e ∙ v

module _ (old mid : Cursor) (s : Skips old mid) where
  -- no variable: a constant is read, which the end of the text refuses as well
  constant_over : slice_get mid.rest.now 0 ≡ None → from read_constant mid ≡ refused Tptp mid.at
  unfolding integer look blanks peek ◌>>=◌ onwards
  constant_over e = rw (ended mid.rest.now e)

  as_constant : (slice_get mid.rest.now 0 ≡ Some 88 → ⊥) → from term old ≡ from read_constant mid
  unfolding term ◌>>=◌ onwards
  as_constant n = go (slice_get mid.rest.now 0) refl
    where
      go : (o : Option ℕ) → slice_get mid.rest.now 0 ≡ o → from term old ≡ from read_constant mid
      go None e = rw (look-over old mid s e) (sym (constant_over e))
      go (Some b) e = rw (look-here old mid s b e, ne_eqb b 88 (λ z. n (e ∙ ap (λ (c : ℕ). Some c) z)))

  module _ (end : Cursor) (r : Result TermWords Refusal) where
    pub term-variable :
        slice_get mid.rest.now 0 ≡ Some 88 → (new : Cursor) → new.rest.now ≡ drop 1 mid.rest.now → new.at ≡ mid.at + 1 →
        TermRead read_variable new end r → TermRead term old end r
    unfolding term bytes ◌>>=◌ onwards
    term-variable h new p e =
        let t = token-self old mid s new p e 88 h in
        term_from old new end (further _ _ _ s.reads.moved t.moved) term read_variable (rw (look-here old mid s 88 h, t.reads)) r

    pub term-constant : (slice_get mid.rest.now 0 ≡ Some 88 → ⊥) → TermRead read_constant mid end r → TermRead term old end r
    term-constant n = term_from old mid end s.reads.moved term read_constant (as_constant n) r

-- the terms of a list one behind another, and one more
gather-last : (ts : List Term) (t : Term) → gather encode_term (ts ++ t ∷ []) ≡ gather encode_term ts ++ encode_term t
unfolding gather
gather-last [] t = append-nil (encode_term t)
gather-last (u ∷ ts) t = ap (λ (ws : Words). encode_term u ++ ws) (gather-last ts t) ∙ sym (append_assoc (encode_term u) (gather encode_term ts) (encode_term t))

-- the words of the first term, and of one more, with the number of terms
module _ (old own own' own'' : Own) where
  first-stands :
      (t : Term) → take 5 own'.words.now ≡ take 3 old.words.now ++ encode_term t →
      Becomes own' (set own'.words.now 2 (pos 1)) own'' → TermsStand old.words.now own''.words.now (t ∷ [])
  unfolding gather
  first-stands t h e =
      let ws = old.words.now in
      let three : take 3 ws ≡ take 2 ws ++ get_or ws 2 (pos 0) ∷ [] = take-suc ws 2 (pos 0) (omega (arith, old.long)) in
      let two : length (take 2 ws) ≡ 2 = length-take-le 2 ws (omega (arith, old.long)) in
      let front = h ∙ ap (λ (us : Words). us ++ encode_term t) three ∙ append_assoc (take 2 ws) (get_or ws 2 (pos 0) ∷ []) (encode_term t) in
      record {
        most = omega arith;
        words =
            ap (take 5) e.now
            ∙ take-set-lt 5 own'.words.now 2 (pos 1) (omega arith)
            ∙ ap (λ (us : Words). set us 2 (pos 1)) front
            ∙ set_at (take 2 ws) (get_or ws 2 (pos 0)) (encode_term t) (pos 1) 2 two
            ∙ ap (λ (us : Words). take 2 ws ++ pos 1 ∷ us) (sym (append-nil (encode_term t)));
      }

  more-stand :
      (ts : List Term) (t : Term) (n : ℕ) → length ts ≡ n → n < 6 → TermsStand old.words.now own.words.now ts →
      take (3 + 2 * n + 2) own'.words.now ≡ take (3 + 2 * n) own.words.now ++ encode_term t →
      Becomes own' (set own'.words.now 2 (pos (n + 1))) own'' → TermsStand old.words.now own''.words.now (ts ++ t ∷ [])
  more-stand ts t n is few s h e =
      let ws = gather encode_term ts in
      let us = old.words.now in
      let all : length (ts ++ t ∷ []) ≡ n + 1 = omega (arith, length-append ts (t ∷ []), is) in
      let enough : 3 + 2 * (n + 1) ≡ 3 + 2 * n + 2 = omega arith in
      let two : length (take 2 us) ≡ 2 = length-take-le 2 us (omega (arith, old.long)) in
      let words : take (3 + 2 * n) own.words.now ≡ take 2 us ++ pos n ∷ ws =
      subst (λ (k : ℕ). take (3 + 2 * k) own.words.now ≡ take 2 us ++ pos k ∷ ws) is s.words in
      let front = h ∙ ap (λ (vs : Words). vs ++ encode_term t) words ∙ append_assoc (take 2 us) (pos n ∷ ws) (encode_term t) in
      record {
        most = omega (arith, all);
        words =
            subst (λ (k : ℕ). take (3 + 2 * k) own''.words.now ≡ take 2 us ++ pos k ∷ gather encode_term (ts ++ t ∷ [])) (sym all)
            (ap (λ (k : ℕ). take k own''.words.now) enough
            ∙ ap (take (3 + 2 * n + 2)) e.now
            ∙ take-set-lt (3 + 2 * n + 2) own'.words.now 2 (pos (n + 1)) (omega arith)
            ∙ ap (λ (vs : Words). set vs 2 (pos (n + 1))) front
            ∙ set_at (take 2 us) (pos n) (ws ++ encode_term t) (pos (n + 1)) 2 two
            ∙ ap (λ (vs : Words). take 2 us ++ pos (n + 1) ∷ vs) (sym (gather-last ts t)));
      }

-- so many terms were read so far; their number and their words stand behind the first two words
pub record Listing (start : Cursor) (old own : Own) (here : Cursor) (n : ℕ) : Type 0 where
  pub ts : List Term
  pub number : length ts ≡ n
  pub goes : from terms start ≡ attach ts (from (up_to (6 - n) comma term) here)
  pub moved : Moved start here
  pub kept : Kept old own
  pub stand : TermsStand old.words.now own.words.now ts

pub listing_first :
    (start : Cursor) (old own' own : Own) (here : Cursor) (w : TermWords) →
    Value term (λ t. encode_term t ≡ w.kind ∷ w.number ∷ []) start here →
    Becomes old (set (set old.words.now 3 w.kind) 4 w.number) own' → Becomes own' (set own'.words.now 2 (pos 1)) own →
    Listing start old own here 1
unfolding terms ◌>>=◌ onwards
listing_first start old own' own here w f p e = record {
  ts = f.what ∷ [];
  number = refl;
  goes = rw f.reads.reads (attach-give f.what (from (up_to 5 comma term) here));
  moved = f.reads.moved;
  kept = kept-further old own' own p.kept e.kept;
  stand = first-stands old own own' own f.what (term-put old own' 3 w (omega arith) f.what f.holds p) e;
}

module _ {start : Cursor} {old own : Own} {here : Cursor} {n : ℕ} (p : Listing start old own here n) where
  stands : (end : Cursor) → from terms start ≡ got p.ts end → Moved here end → Value terms (TermsStand old.words.now own.words.now) start end
  stands end e m = record { what = p.ts; reads = record { moved = further _ _ _ p.moved m; reads = e }; holds = p.stand }

  module _ (few : n < 6) where
    pub listing_refused : (q : Refusal) (k : ℕ) → from (another comma) here ≡ refused q k → from terms start ≡ refused q k
    listing_refused q k a = several_refused term comma p.ts here (5 - n) (6 - n) (omega arith) p.goes q k a

    pub listing_stop : (b : Bool) → b ≡ false → (end : Cursor) → Reads (another comma) here b end → Value terms (TermsStand old.words.now own.words.now) start end
    listing_stop b e end a = stands end (several_stop term comma p.ts here (5 - n) (6 - n) (omega arith) p.goes b e end a.reads) a.moved

    module _ (b : Bool) (y : b ≡ true) (mid : Cursor) (a : Reads (another comma) here b mid) where
      pub listing_none : (q : Refusal) (k : ℕ) → from term mid ≡ refused q k → from terms start ≡ refused q k
      listing_none q k r = several_none term comma p.ts here (5 - n) (6 - n) (omega arith) p.goes b y mid a.reads q k r

      -- one more
      pub listing_more :
          (own' own'' : Own) (end : Cursor) (w : TermWords) → Value term (λ t. encode_term t ≡ w.kind ∷ w.number ∷ []) mid end →
          Becomes own (set (set own.words.now (3 + 2 * n) w.kind) (3 + 2 * n + 1) w.number) own' →
          Becomes own' (set own'.words.now 2 (pos (n + 1))) own'' → Listing start old own'' end (n + 1)
      listing_more own' own'' end w f q e = record {
        ts = p.ts ++ f.what ∷ [];
        number = omega (arith, length-append p.ts (f.what ∷ []), p.number);
        goes =
            several_more term comma p.ts here (5 - n) (6 - n) (omega arith) p.goes b y mid a.reads f.what end f.reads.reads
            ∙ ap (λ (k : ℕ). attach (p.ts ++ f.what ∷ []) (from (up_to k comma term) end)) (let z : 5 - n ≡ 6 - (n + 1) = omega arith in z);
        moved = further _ _ _ p.moved (further _ _ _ a.moved f.reads.moved);
        kept = kept-further old own own'' p.kept (kept-further own own' own'' q.kept e.kept);
        stand =
            more-stand old own own' own'' p.ts f.what n p.number few p.stand
            (term-put own own' (3 + 2 * n) w (omega arith) f.what f.holds q) e;
      }

  -- all six
  pub listing_all : n ≡ 6 → Value terms (TermsStand old.words.now own.words.now) start here
  listing_all e = record {
    what = p.ts;
    reads = record { moved = p.moved; reads = several_all term comma p.ts here (6 - n) (omega (arith, e)) p.goes };
    holds = p.stand;
  }

-- Laws for looking ahead in a text: the scan for a byte that can follow an operand, one byte after another, and the bytes behind
-- blanks that excluded tuples begin with.
use Prim.Native.Nat.{ℕ, suc, ◌+◌, ◌-◌, ◌≤◌, ◌<◌}
use native.Mathlib.Numerals.{add-one}
use native.Mathlib.Omega.{arith}
use mathlib.Core.Path.{◌≡◌, refl, sym, ap, ◌∙◌}
use mathlib.Core.Logic.{⊎_elim}
use mathlib.Core.Bool.{Bool, true, false, cond, ◌&&◌, ◌||◌}
use mathlib.Core.List.{[], ◌∷◌}
use lib.ListN.{length, drop, get_or}
use lib.Dec.{eqb}
use borrow.Author.Tests.{ne_eqb}
use denote.Bor.{Bor}
use Rattle.std.specs.Prelude.{Option, Some, None, slice_get, Result, Ok, Err}
use Rattle.std.specs.Option.{option_eq, option_copied}
use Rattle.std.specs.Result.{is_ok}
use Rattle.model.specs.Bytes.{Text, blank}
use Rattle.model.specs.Answer.{passed, refused}
use Rattle.model.specs.TptpReading.{Got, blanks, literal, token, onwards, ◌>>=◌, behind_blanks, begins_with, begins_tuple, begins_excluding}
use Rattle.model.specs.declared.Refusal.{Refusal}
use Rattle.model.specs.declared.Refusal.TheVariants.{Tptp}
use Rattle.laws.specs.Words.Tests.{decide}
use Rattle.laws.specs.Answer.{refused-passed, passed-same}
use Rattle.text.specs.declared.cursor.Cursor.{Cursor}
use Rattle.tptp_tokens.specs.Steps.{from, Reads, Skips, Steps}
use Rattle.tptp_binders.specs.Ahead.{stopping, StopsBehind, StopsAt, Foretells, begins}
use Rattle.tptp_tokens.proofs.TokenLaws.{here, over}

-- the scan of a text goes as the scan from an index on, where so many parentheses are open
pub record Scans (text : Text) (i depth : ℕ) : Type 0 where
  pub few : depth ≤ i
  pub same : stopping text 0 ≡ stopping (drop i text) depth

module _ (text : Text) (i depth : ℕ) (s : Scans text i depth) where
  -- the end of the text
  pub scan_end : length text ≤ i → StopsBehind text (length text)
  unfolding stopping
  scan_end e = record { high = omega arith; stops = over text (length text) (omega arith) ∙ sym (s.same ∙ rw (over text i e)) }

  module _ (h : i < length text) where
    -- the scan goes on behind this byte with another depth, or stops at it
    halts : stopping (drop i text) depth ≡ drop i text → StopsBehind text i
    halts e = record { high = omega arith; stops = sym (s.same ∙ e) }

    pub scan_open : (depth' : ℕ) → get_or text i 0 ≡ 40 → depth' ≡ depth + 1 → Scans text (i + 1) depth'
    unfolding stopping
    scan_open depth' e is = record { few = omega (arith, s.few); same = s.same ∙ rw (here text i h, e, is, sym (add-one depth)) }

    pub scan_close : (depth' : ℕ) → get_or text i 0 ≡ 41 → (depth ≡ 0 → ⊥) → depth' ≡ depth - 1 → Scans text (i + 1) depth'
    unfolding stopping
    scan_close depth' e n is = record { few = omega (arith, s.few); same = s.same ∙ rw (here text i h, e, ne_eqb depth 0 n, is) }

    pub scan_closing : get_or text i 0 ≡ 41 → depth ≡ 0 → StopsBehind text i
    unfolding stopping
    scan_closing e z = halts (rw (here text i h, e, z))

    -- a connective, where no parenthesis is open; another byte
    module _ (opens : get_or text i 0 ≡ 40 → ⊥) (closes : get_or text i 0 ≡ 41 → ⊥) where
      pub scan_connective : eqb depth 0 && (eqb (get_or text i 0) 38 || eqb (get_or text i 0) 124) ≡ true → StopsBehind text i
      unfolding stopping
      scan_connective e = halts (rw (here text i h, ne_eqb (get_or text i 0) 40 opens, ne_eqb (get_or text i 0) 41 closes, e))

      pub scan_other :
          (depth' : ℕ) →
          eqb depth 0 && (eqb (get_or text i 0) 38 || eqb (get_or text i 0) 124) ≡ false →
          depth' ≡ depth →
          Scans text (i + 1) depth'
      unfolding stopping
      scan_other depth' e is = record {
        few = omega (arith, s.few);
        same = s.same ∙ rw (here text i h, ne_eqb (get_or text i 0) 40 opens, ne_eqb (get_or text i 0) 41 closes, e, is);
      }

-- of what begins as a quantifier it is told whether this byte stands behind it
pub foretold :
    (c : ℕ) → c ≡ 38 → (here stop : Cursor) → StopsAt here stop → (r : Bool) → r ≡ begins_with c stop.rest.now → Foretells here.rest.now r
foretold c is here stop s r e = record { tells = λ _. e ∙ rw (is, s.stops) }

-- the first byte of a text, or the end, begins it
pub same_byte :
    (text : Text) (c : Bor ℕ) (o : Option (Bor ℕ)) → option_copied o ≡ slice_get text 0 →
    option_eq {T = Bor ℕ} (λ x y. eqb x.now y.now) o (Some c) ≡ begins_with c.now text
unfolding begins_with
same_byte [] c None h = refl
same_byte [] c (Some x) h = cc
same_byte (b ∷ t) c None h = cc
same_byte (b ∷ t) c (Some x) h = ap (λ (n : ℕ). eqb n c.now) cc

-- what blanks leave is the text behind them
pub blanks-rest : (text : Text) (p : ℕ) → (q : ℕ) × (blanks text p ≡ passed (record { what = tt; rest = behind_blanks text; at = q }))
unfolding blanks behind_blanks
blanks-rest [] p = (p, refl)
blanks-rest (b ∷ t) p =
    ⊎_elim
    (λ e. rw e (blanks-rest t _))
    (λ e. rw e (p, refl))
    (decide (blank b))

-- behind blanks a text begins as the place there
pub begins-there : (old new : Cursor) → Skips old new → (c : ℕ) → begins c old.rest.now ≡ begins_with c new.rest.now
unfolding begins
begins-there old new s c =
    ap (λ (g : Got (Unit {0})). begins_with c g.rest) (passed-same (sym (blanks-rest old.rest.now old.at).1 ∙ s.reads.reads))

-- of what begins as no quantifier nothing is told
pub untold :
    (old new : Cursor) → Skips old new → (a b : Bool) → a ≡ begins_with 33 new.rest.now → b ≡ begins_with 63 new.rest.now →
    (a || b) ≡ false → (r : Bool) → Foretells old.rest.now r
untold old new s a b all exists neither r = record {
  tells = λ yes.
      let none : (begins 33 old.rest.now || begins 63 old.rest.now) ≡ false =
      rw (begins-there old new s 33, begins-there old new s 63, sym all, sym exists) neither in
      cc;
}

-- a token of one byte is read if the text begins with it
module _ (c : ℕ) where
  one_byte :
      (t : Text) (q : ℕ) →
      literal (c ∷ []) t q ≡ cond (begins_with c t) (passed (record { what = tt; rest = drop 1 t; at = suc q })) (refused Tptp q)
  unfolding literal begins_with
  one_byte [] q = refl
  one_byte (b ∷ t) q = refl

  one_token :
      (t : Text) (p : ℕ) →
      (q : ℕ)
      × (token (c ∷ []) t p
      ≡ cond (begins c t) (passed (record { what = tt; rest = drop 1 (behind_blanks t); at = suc q })) (refused Tptp q))
  unfolding token begins ◌>>=◌ onwards
  one_token t p = let b = blanks-rest t p in (b.0, rw b.1 (one_byte (behind_blanks t) b.0))

  module _ (old : Cursor) where
    -- what comes of the token, by the test
    one : Got (Unit {0})
    one = record { what = tt; rest = drop 1 (behind_blanks old.rest.now); at = suc (one_token old.rest.now old.at).0 }

    one_yes : begins c old.rest.now ≡ true → from (token (c ∷ [])) old ≡ passed one
    unfolding one
    one_yes y = (one_token old.rest.now old.at).1 ∙ rw y

    one_no : begins c old.rest.now ≡ false → from (token (c ∷ [])) old ≡ refused Tptp (one_token old.rest.now old.at).0
    one_no n = (one_token old.rest.now old.at).1 ∙ rw n

    none : {q : Refusal} {p : ℕ} → from (token (c ∷ [])) old ≡ refused q p → begins c old.rest.now ≡ false
    none e = ⊎_elim (λ y. refused-passed (sym e ∙ one_yes y)) (λ n. n) (decide (begins c old.rest.now))

    some : (new : Cursor) → Reads (token (c ∷ [])) old tt new → begins c old.rest.now ≡ true
    some new r = ⊎_elim (λ y. y) (λ n. refused-passed (sym (one_no n) ∙ r.reads)) (decide (begins c old.rest.now))

    pub ahead :
        (new : Cursor) (r : Result (Unit {0}) Refusal) → Steps (token (c ∷ [])) old new r → is_ok r ≡ begins c old.rest.now
    ahead new (Ok u) s = sym (some new s)
    ahead new (Err e) s = sym (none s)

    -- and what stands behind it
    module _ (test : Text → Bool) where
      pub ahead_then :
          (new : Cursor) (r : Result (Unit {0}) Refusal) → Steps (token (c ∷ [])) old new r → true ≡ is_ok r →
          test new.rest.now ≡ (begins c old.rest.now && test (drop 1 (behind_blanks old.rest.now)))
      unfolding one
      ahead_then new (Ok u) s e =
          let same = ap (λ (g : Got (Unit {0})). g.rest) (passed-same (sym s.reads ∙ one_yes (some new s))) in
          rw (some new s) (ap test same)
      ahead_then new (Err r) s e = cc

      pub ahead_else :
          (b : Bool) (new : Cursor) (r : Result (Unit {0}) Refusal) → Steps (token (c ∷ [])) old new r → b ≡ is_ok r → b ≡ false →
          b ≡ (begins c old.rest.now && test (drop 1 (behind_blanks old.rest.now)))
      ahead_else b new r s is e = rw (sym (ahead new r s) ∙ sym is ∙ e, e)

-- excluded tuples by the bytes that they begin with
module _ (v : ℕ) (text : Text) where
  pub tuple-one : v ≡ 1 → begins 88 text ≡ begins_tuple v text
  unfolding begins begins_tuple
  tuple-one e = rw e

  pub tuple-many : (v ≡ 1 → ⊥) → (begins 40 text && begins 88 (drop 1 (behind_blanks text))) ≡ begins_tuple v text
  unfolding begins begins_tuple
  tuple-many n = rw (ne_eqb v 1 n)

  pub excludes_as : (begins 38 text && begins_tuple v (drop 1 (behind_blanks text))) ≡ begins_excluding v text
  unfolding begins begins_excluding
  excludes_as = refl

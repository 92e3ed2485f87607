-- Laws for the byte behind an operand, where a scan from the operand's first byte on stopped: if it stopped elsewhere, that byte is no
-- connective and no closing parenthesis.
use Prim.Native.Nat.{ℕ}
use native.Mathlib.Omega.{arith}
use mathlib.Core.Path.{◌≡◌, refl, sym, ap, ◌∙◌}
use mathlib.Core.Logic.{◌⊎◌, inl, inr, ⊎_elim}
use mathlib.Core.Bool.{Bool, true, false, cond}
use mathlib.Core.List.{[], ◌∷◌}
use lib.ListN.{length}
use lib.Dec.{eqb}
use borrow.Author.Tests.{eq-eqb, ne_eqb, eqb-true}
use Rattle.std.specs.Prelude.{slice_get, Some, None}
use Rattle.std.proofs.lemmas.Option.{get_or_from_slice_get}
use Rattle.text.specs.declared.cursor.Cursor.{Cursor}
use Rattle.model.specs.Bytes.{Text, ampersand, bar}
use Rattle.model.specs.Answer.{passed, refused}
use Rattle.model.specs.Tree.{Tree, join, cons}
use Rattle.model.specs.TptpReading as R
use Rattle.model.specs.TptpReading.{Got, Reader, give, ◌>>=◌, blanks, look, more, trees, joining, readers, behind_blanks, begins_with}
use Rattle.model.specs.TptpReading.{begins_excluding}
use Rattle.model.specs.declared.Refusal.TheVariants.{Tptp}
use Rattle.laws.specs.Answer.{passed-same}
use Rattle.laws.specs.Words.Tests.{decide, clash, and_left}
use Rattle.tptp_tokens.specs.Steps.{from, Reads, Skips}
use Rattle.tptp_binders.specs.Ahead.{StopsAt}
use Rattle.tptp_tokens.proofs.MovedLaws.{further}
use Rattle.tptp_tokens.proofs.TokenLaws.{begun, onward, halt, look-here, look-over}
use Rattle.tptp_binders.proofs.AheadLaws.{blanks-rest}
use Rattle.tptp_reading.proofs.AheadTrees.{operand-stopping, stopping-here}

-- a text begins with a byte, or is at its end
pub first-cases : (t : Text) → (slice_get t 0 ≡ None) ⊎ ((b : ℕ) × (slice_get t 0 ≡ Some b))
first-cases [] = inl refl
first-cases (b ∷ t) = inr (b, refl)

pub same_first : (t : Text) (b c : ℕ) → slice_get t 0 ≡ Some b → slice_get t 0 ≡ Some c → b ≡ c
same_first t b c h k = sym (get_or_from_slice_get t 0 b 0 h) ∙ get_or_from_slice_get t 0 c 0 k

pub begins-byte : (t : Text) (c : ℕ) → begins_with c t ≡ true → slice_get t 0 ≡ Some c
unfolding begins_with
begins-byte [] c e = clash e refl
begins-byte (b ∷ t) c e = ap Some (eqb-true b c e)

pub byte-begins : (t : Text) (b c : ℕ) → slice_get t 0 ≡ Some b → begins_with c t ≡ eqb b c
unfolding begins_with
byte-begins t b c h = rw (begun t b h) refl

pub here-begins : (t : Text) (c : ℕ) → slice_get t 0 ≡ Some c → begins_with c t ≡ true
here-begins t c h = byte-begins t c c h ∙ eq-eqb c c refl

-- blanks leave the text behind them
pub behind_skip : (old mid : Cursor) → Skips old mid → behind_blanks old.rest.now ≡ mid.rest.now
behind_skip old mid s =
    ap (λ (g : Got (Unit {0})). g.rest) (passed-same (sym (blanks-rest old.rest.now old.at).1 ∙ s.reads.reads))

-- what stands behind a first operand: nothing, a connective, or another byte
module _ (alone : Reader Tree) (first : Tree) (one : Reader Tree) (old mid : Cursor) (s : Skips old mid) where
  joining-over : slice_get mid.rest.now 0 ≡ None → from (joining alone first one) old ≡ refused Tptp mid.at
  unfolding joining
  joining-over h = halt look _ old Tptp mid.at (look-over old mid s h)

  pub joining-more :
      (b : Bool) →
      slice_get mid.rest.now 0 ≡ Some (cond b ampersand bar) →
      from (joining alone first one) old
      ≡ from (more (cond b ampersand bar) one >>= λ ts. give (join b (cons first (trees ts)))) mid
  unfolding joining
  joining-more true e = onward look _ old ampersand mid (look-here old mid s ampersand e)
  joining-more false e = onward look _ old bar mid (look-here old mid s bar e)

  joining-alone :
      (b : ℕ) → slice_get mid.rest.now 0 ≡ Some b → (b ≡ 38 → ⊥) → (b ≡ 124 → ⊥) → from (joining alone first one) old ≡ from alone mid
  unfolding joining
  joining-alone b h n m = onward look _ old b mid (look-here old mid s b h) ∙ rw (ne_eqb b 38 n, ne_eqb b 124 m) refl

-- no connective goes on
pub joining-none :
    (first : Tree) (one : Reader Tree) (old mid : Cursor) → Skips old mid →
    ((c : ℕ) → (c ≡ 38) ⊎ (c ≡ 124) → slice_get mid.rest.now 0 ≡ Some c → ⊥) →
    from (joining R.stop first one) old ≡ refused Tptp mid.at
unfolding R.stop
joining-none first one old mid s none =
    ⊎_elim
    (λ k. joining-over R.stop first one old mid s k)
    (λ k.
    let (b, h) = k in
    joining-alone R.stop first one old mid s b h
    (λ (e : b ≡ 38). none b (inl e) h)
    (λ (e : b ≡ 124). none b (inr e) h))
    (first-cases mid.rest.now)

-- where a byte that can follow an operand stands behind one, the scan stops
pub stops-behind :
    (room : ℕ) (formula : Bool) (scope : ℕ) (old : Cursor) (g : Got Tree) (stop : Cursor) →
    StopsAt old stop →
    from ((readers room).operand formula scope) old ≡ passed g →
    (c : ℕ) → (c ≡ 38) ⊎ (c ≡ 124) ⊎ (c ≡ 41) → begins_with c (behind_blanks g.rest) ≡ true →
    stop.rest.now ≡ behind_blanks g.rest
stops-behind room formula scope old g stop stops e c is begun =
    stops.stops ∙ operand-stopping room formula scope old.rest.now old.at g e ∙ stopping-here c g.rest is begun

module _
    (room : ℕ) (formula : Bool) (scope : ℕ) (old behind stop : Cursor) (t : Tree)
    (read : Reads ((readers room).operand formula scope) old t behind) (stops : StopsAt old stop)
  where
    module _ (mid : Cursor) (s : Skips behind mid) where
      pub stops-there :
          (c : ℕ) → (c ≡ 38) ⊎ (c ≡ 124) ⊎ (c ≡ 41) → slice_get mid.rest.now 0 ≡ Some c →
          (mid.at ≡ stop.at) × (stop.rest.now ≡ mid.rest.now)
      stops-there c is h =
          let skipped = behind_skip behind mid s in
          let begun = ap (begins_with c) skipped ∙ here-begins mid.rest.now c h in
          let same = stops-behind room formula scope old _ stop stops read.reads c is begun ∙ skipped in
          let moved = further old behind mid read.moved s.reads.moved in
          (omega (arith, stops.moved.whole, moved.whole, ap length same), same)

      -- it stopped elsewhere: no all-of or any-of goes on, and no excluded tuples begin
      module _ (strays : mid.at ≡ stop.at → ⊥) where
        pub joining_strays : (one : Reader Tree) → from (joining R.stop t one) behind ≡ refused Tptp mid.at
        joining_strays one =
            joining-none t one behind mid s
            (λ c is h. strays (stops-there c (⊎_elim (λ (e : c ≡ 38). inl e) (λ (e : c ≡ 124). inr (inl e)) is) h).0)

        pub excluding_strays : (v : ℕ) → begins_excluding v behind.rest.now ≡ false
        unfolding begins_excluding
        excluding_strays v =
            ⊎_elim
            (λ k.
            let connective = and_left (begins_with 38 (behind_blanks behind.rest.now)) _ k in
            let there = sym (ap (begins_with 38) (behind_skip behind mid s)) ∙ connective in
            absurd (strays (stops-there 38 (inl refl) (begins-byte mid.rest.now 38 there)).0))
            (λ k. k)
            (decide (begins_excluding v behind.rest.now))

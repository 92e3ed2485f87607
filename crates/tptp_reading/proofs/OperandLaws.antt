-- Laws for the reading of an operand: by its first byte.
use Prim.Native.Nat.{ℕ, zero, suc, ◌-◌}
use mathlib.Core.Path.{◌≡◌, refl, sym, ap, ◌∙◌}
use mathlib.Core.Logic.{⊎_elim}
use mathlib.Core.Bool.{Bool, true, false, cond, ◌&&◌}
use lib.Dec.{eqb}
use borrow.Author.Tests.{ne_eqb}
use Rattle.std.specs.Prelude.{slice_get, Some, None, Result}
use Rattle.text.specs.declared.cursor.Cursor.{Cursor}
use Rattle.model.specs.Words.{Words}
use Rattle.model.specs.Bytes.{Text, dollar, letter_p, tilde, parenthesis, interrogation, exclamation}
use Rattle.model.specs.Answer.{refused}
use Rattle.model.specs.Tree.{Tree}
use Rattle.model.specs.Level as L
use Rattle.model.specs.Reading.{is_formula}
use Rattle.model.specs.Tptp.{good_tree}
use Rattle.model.specs.TptpReading as R
use Rattle.model.specs.TptpReading.{Reader, stop, look, opening, readers, read_dollar, read_atom, read_negated, read_join, read_quantifier}
use Rattle.model.specs.TptpReading.{read_some, read_operand}
use Rattle.model.specs.declared.Refusal.{Refusal}
use Rattle.model.specs.declared.Refusal.TheVariants.{Tptp}
use Rattle.laws.specs.Words.Tests.{clash}
use Rattle.laws.specs.Tptp.Sound.Policies.{operand_sound}
use Rattle.tptp_tokens.specs.Steps.{from, Skips, Reads, Value, Valued}
use Rattle.tptp_leaves.specs.Leaves.{Unblank, LeafStands, read_leaf}
use Rattle.tptp_reading.specs.Formula.{beneath, LeafByte, chained}
use Rattle.tptp_tokens.proofs.MovedLaws.{further}
use Rattle.tptp_tokens.proofs.TokenLaws.{onward, halt, look-here, look-over}
use Rattle.tptp_tokens.proofs.BehindLaws.{valued_from}
use Rattle.tptp_tokens.proofs.UpTo.{skips_here}
use Rattle.tptp_reading.proofs.StopLaws.{first-cases, same_first}
use Rattle.tptp_reading.proofs.RoomLaws.{opening-room, beneath_less}

-- an operand, with what can be read behind one parenthesis more
pub operand-is : (room : ℕ) (formula : Bool) (scope : ℕ) → (readers room).operand formula scope ≡ read_operand room (beneath room) formula scope
unfolding readers beneath
operand-is zero formula scope = refl
operand-is (suc room) formula scope = refl

module _ (room : ℕ) (formula : Bool) (scope : ℕ) where
  abbrev operand : Reader Tree
  operand = (readers room).operand formula scope

  -- what is read by the first byte
  abbrev compound : ℕ → Reader Tree
  compound b =
      cond (eqb b parenthesis)
      (read_join room (beneath room) formula scope)
      (cond (eqb b interrogation)
      (cond formula (read_quantifier room (beneath room) false scope) (read_some room (beneath room) scope))
      (cond (eqb b exclamation && formula) (read_quantifier room (beneath room) true scope) stop))

  abbrev chosen : ℕ → Reader Tree
  chosen b =
      cond (eqb b dollar)
      (read_dollar room)
      (cond (eqb b letter_p) (read_atom room true) (cond (eqb b tilde) (read_negated room) (compound b)))

  module _ (old mid : Cursor) (s : Skips old mid) where
    pub operand-over : slice_get mid.rest.now 0 ≡ None → from operand old ≡ refused Tptp mid.at
    unfolding read_operand
    operand-over h =
        ap (λ (reader : Reader Tree). from reader old) (operand-is room formula scope)
        ∙ halt look chosen old Tptp mid.at (look-over old mid s h)

    module _ (b : ℕ) (h : slice_get mid.rest.now 0 ≡ Some b) where
      operand-chosen : from operand old ≡ from (chosen b) mid
      unfolding read_operand
      operand-chosen =
          ap (λ (reader : Reader Tree). from reader old) (operand-is room formula scope)
          ∙ onward look chosen old b mid (look-here old mid s b h)

      -- an all-of or any-of, a "some", a quantifier
      operand-join : b ≡ parenthesis → from operand old ≡ from (read_join room (beneath room) formula scope) mid
      operand-join e = operand-chosen ∙ ap (λ (b : ℕ). from (chosen b) mid) e

      pub operand-some :
          b ≡ interrogation → formula ≡ false → (facts : Tree → Type 0) (new : Cursor) (r : Result (Unit {0}) Refusal) →
          Valued (read_some room (beneath room) scope) facts mid new r →
          Valued operand facts old new r
      operand-some e f facts new =
          valued_from old mid new s.reads.moved operand (read_some room (beneath room) scope) facts
          (operand-chosen
          ∙ ap (λ (b : ℕ). from (chosen b) mid) e
          ∙ ap (λ (b : Bool). from (cond b (read_quantifier room (beneath room) false scope) (read_some room (beneath room) scope)) mid) f)

      pub operand-quantifier :
          (every : Bool) → b ≡ cond every exclamation interrogation → formula ≡ true → (facts : Tree → Type 0) (new : Cursor)
          (r : Result (Unit {0}) Refusal) →
          Valued (read_quantifier room (beneath room) every scope) facts mid new r →
          Valued operand facts old new r
      operand-quantifier every e f facts new =
          valued_from old mid new s.reads.moved operand (read_quantifier room (beneath room) every scope) facts
          (operand-chosen ∙ ap (λ (b : ℕ). from (chosen b) mid) e ∙ which every f)
        where
          which :
              (every : Bool) → formula ≡ true →
              from (chosen (cond every exclamation interrogation)) mid ≡ from (read_quantifier room (beneath room) every scope) mid
          which true f =
              ap (λ (b : Bool). from (cond b (read_quantifier room (beneath room) true scope) stop) mid) f
          which false f =
              ap (λ (b : Bool). from (cond b (read_quantifier room (beneath room) false scope) (read_some room (beneath room) scope)) mid) f

      -- the parenthesis of an all-of or any-of: it is refused, or what stands behind it is read
      module _ (e : b ≡ parenthesis) where
        pub operand-refused : (q : Refusal) (p : ℕ) → from (opening room) mid ≡ refused q p → from operand old ≡ refused q p
        unfolding read_join
        operand-refused q p k = operand-join e ∙ halt (opening room) _ mid q p k

        pub operand-chain :
            (inside : Cursor) → Reads (opening room) mid tt inside → (lower : ℕ) → lower ≡ room - 1 → (facts : Tree → Type 0) (new : Cursor)
            (r : Result (Unit {0}) Refusal) →
            Valued (chained ((readers lower).operand formula scope)) facts inside new r →
            Valued operand facts old new r
        unfolding read_join
        operand-chain inside o lower l facts new =
            let below = beneath_less room lower (opening-room room mid inside o.reads) l in
            valued_from old inside new (further old mid inside s.reads.moved o.moved) operand
            (chained ((readers lower).operand formula scope)) facts
            (operand-join e
            ∙ onward (opening room) _ mid tt inside o.reads
            ∙ ap (λ (b : R.Readers). from (chained (b.operand formula scope)) inside) below)

  -- an operand behind blanks
  pub operand_skip :
      (old mid : Cursor) → Skips old mid → (facts : Tree → Type 0) (new : Cursor) (r : Result (Unit {0}) Refusal) →
      Valued operand facts mid new r →
      Valued operand facts old new r
  operand_skip old mid s facts new =
      let self = skips_here mid s.stop in
      valued_from old mid new s.reads.moved operand operand facts
      (⊎_elim
      (λ k. operand-over old mid s k ∙ sym (operand-over mid mid self k))
      (λ k. operand-chosen old mid s k.0 k.1 ∙ sym (operand-chosen mid mid self k.0 k.1))
      (first-cases mid.rest.now))

  -- a node with none below it, whose first byte stands here
  module _ (here : Cursor) (u : Unblank here.rest.now) (l : LeafByte formula here.rest.now) where
    operand-leaf : from operand here ≡ from (read_leaf room) here
    operand-leaf =
        let s = skips_here here u in
        ⊎_elim
        (λ k. operand-over here here s k ∙ sym (halt look _ here Tptp here.at (look-over here here s k)))
        (λ k.
        let (b, h) = k in
        operand-chosen here here s b h
        ∙ rw (
          ne_eqb b parenthesis (λ (e : b ≡ parenthesis). l.join (h ∙ ap Some e)),
          ne_eqb b interrogation (λ (e : b ≡ interrogation). l.some (h ∙ ap Some e)),
          l.quantifier b h,
        ) (sym (onward look _ here b here (look-here here here s b h))))
        (first-cases here.rest.now)

    -- it was refused
    pub leaf-refused : (q : Refusal) (p : ℕ) → from (read_leaf room) here ≡ refused q p → from operand here ≡ refused q p
    leaf-refused q p e = operand-leaf ∙ e

    module _ {own : Words} {new : Cursor} (v : Value (read_leaf room) (LeafStands own) here new) where
      -- it stands there, and is good
      good : good_tree v.what formula ≡ true
      good = (operand_sound room formula scope _ _ _ (operand-leaf ∙ v.reads.reads)).good

      pub leaf-stands : (t : Tree) × LeafStands own t × (good_tree t formula ≡ true)
      leaf-stands = (v.what, v.holds, good)

      pub leaf-read :
          (facts : Tree → Type 0) → ((t : Tree) → LeafStands own t → good_tree t formula ≡ true → facts t) →
          Value operand facts here new
      leaf-read facts told = record {
        what = v.what;
        reads = record { moved = v.reads.moved; reads = operand-leaf ∙ v.reads.reads };
        holds = told v.what v.holds good;
      }

-- a first byte that begins no node that has others below it
pub leaf-byte :
    (formula : Bool) (text : Text) (b : ℕ) → slice_get text 0 ≡ Some b → (b ≡ parenthesis → ⊥) → (b ≡ interrogation → ⊥) →
    (formula && eqb b exclamation) ≡ false →
    LeafByte formula text
leaf-byte formula text b h n m e = record {
  join = λ k. n (same_first text b parenthesis h k);
  some = λ k. m (same_first text b interrogation h k);
  quantifier = λ c k. ap (λ (d : ℕ). eqb d exclamation && formula) (sym (same_first text b c h k)) ∙ turned (eqb b exclamation) formula e;
}
  where
    turned : (x y : Bool) → (y && x) ≡ false → (x && y) ≡ false
    turned true true e = e
    turned true false e = refl
    turned false y e = refl

pub not_left : (x y : Bool) → (x && y) ≡ false → y ≡ true → x ≡ false
not_left true y e k = sym k ∙ e
not_left false y e k = refl

-- a role that is no formula's is a restriction's
pub restricts : (role : L.Role) → is_formula role ≡ false → role ≡ L.Role.restriction
unfolding is_formula
restricts L.Role.restriction e = refl
restricts L.Role.formula e = clash refl e
restricts (L.Role.operand b) e = clash refl e

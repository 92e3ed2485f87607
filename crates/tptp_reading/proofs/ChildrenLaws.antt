-- Laws for the reading of the further operands of an all-of or any-of one after another.
use Prim.Native.Nat.{ℕ, zero, suc, ◌+◌, ◌-◌, ◌≤◌, ◌<◌}
use native.Mathlib.Omega.{arith}
use mathlib.Core.Path.{◌≡◌, refl, sym, ap, ◌∙◌}
use mathlib.Core.Bool.{Bool, true, false, cond}
use mathlib.Core.List.{List, [], ◌∷◌, ◌++◌}
use lib.ListN.{length, length-append}
use Rattle.text.specs.declared.cursor.Cursor.{Cursor}
use Rattle.model.specs.Words.{Words}
use Rattle.model.specs.Bytes.{Text, ampersand, bar}
use Rattle.model.specs.Answer.{refused, passed}
use Rattle.model.specs.Tree.{Tree}
use Rattle.model.specs.Level.{Role}
use Rattle.model.specs.Reading.{is_formula}
use Rattle.model.specs.TptpReading.{Got, Reader, onwards, ◌>>=◌, blanks, peek, look, more, up_to, trees, read_operand, readers}
use Rattle.model.specs.declared.Refusal.{Refusal}
use Rattle.model.specs.declared.Refusal.TheVariants.{Tptp}
use Rattle.laws.specs.Answer.{refused-passed}
use Rattle.tptp_tokens.specs.Steps.{from, Moved, Reads, Value}
use Rattle.tptp_tokens.specs.Several.{another}
use Rattle.modes.specs.declared.marks.Marks.{Marks}
use Rattle.tptp_state.specs.Told.{Passed, Ready, Told, Handed, Joined}
use Rattle.tptp_reading.specs.Formula.{Begins, Follows, Further}
use Rattle.tptp_state.specs.declared.state.State.{State}
use Rattle.tptp_tokens.proofs.MovedLaws.{still, further}
use Rattle.tptp_tokens.proofs.UpTo.{attach, attach-none, several_refused, several_stop, several_none, several_more}
use Rattle.tptp_reading.proofs.JoinLaws.{told_more}

-- at the end of a text there is no operand
operand-none : (room : ℕ) (formula : Bool) (scope at : ℕ) → (readers room).operand formula scope [] at ≡ refused Tptp at
unfolding readers read_operand look blanks peek ◌>>=◌ onwards
operand-none zero formula scope at = refl
operand-none (suc room) formula scope at = refl

operand-there :
    (room : ℕ) (formula : Bool) (scope : ℕ) (t : Text) (p : ℕ) (g : Got Tree) →
    (readers room).operand formula scope t p ≡ passed g →
    1 ≤ length t
operand-there room formula scope [] p g e = refused-passed (sym (operand-none room formula scope p) ∙ e)
operand-there room formula scope (b ∷ t) p g e = omega arith

-- so many operands with the first were read so far; there is fuel for those that are left
pub record Joining
    (room : ℕ) (b : Bool) (table : Words) (role : Role) (above scope : ℕ) (start : Marks) (first : State) (old here : Cursor)
    (before out : Words) (state : State) (n : ℕ) : Type 0 where
  pub ts : List Tree
  pub number : suc (length ts) ≡ n
  pub few : n + length here.rest.now ≤ suc (length old.rest.now)
  pub fuel : ℕ
  pub some : 1 ≤ fuel
  pub enough : length here.rest.now ≤ fuel
  pub goes :
      from (more (cond b ampersand bar) ((readers room).operand (is_formula role) scope)) old
      ≡ attach ts (from (up_to fuel (cond b ampersand bar) ((readers room).operand (is_formula role) scope)) here)
  pub follows : Follows table b role above scope start first state before out ts
  pub ready : Ready above scope state
  pub long : length out ≡ length before
  pub moved : Moved old here

module _
    (room : ℕ) (b : Bool) (table : Words) (role : Role) (above scope : ℕ) (start : Marks) (first : State) (old : Cursor) (before : Words)
  where
    abbrev one : Reader Tree
    one = (readers room).operand (is_formula role) scope

    abbrev byte : ℕ
    byte = cond b ampersand bar

    pub joining-start :
        Begins table room above scope first → 1 ≤ length old.rest.now →
        Joining room b table role above scope start first old old before before first 1
    unfolding more trees
    joining-start begins h = record {
      ts = [];
      number = refl;
      few = omega arith;
      fuel = length old.rest.now;
      some = h;
      enough = omega arith;
      goes = sym (attach-none _);
      follows = λ f u out e a. a;
      ready = begins.ready;
      long = refl;
      moved = still old;
    }

    module _
        {out : Words} {state : State} {n : ℕ} (here : Cursor)
        (t : Joining room b table role above scope start first old here before out state n)
        (c : ℕ) (is : c ≡ byte)
      where
        abbrev f : ℕ
        f = t.fuel - 1

        burns : t.fuel ≡ suc f
        burns = omega (arith, t.some)

        -- the text ends
        pub joining-over : (q : Refusal) (p : ℕ) → from (another c) here ≡ refused q p → from (more byte one) old ≡ refused q p
        joining-over q p e = several_refused one byte t.ts here f t.fuel burns t.goes q p (rw (sym is) e)

        module _ (follow : Bool) (mid : Cursor) (a : Reads (another c) here follow mid) where
          -- another byte stands here
          pub joining-stop :
              follow ≡ false → Value (more byte one) (Further table b role above scope start first state before out n) old mid
          joining-stop e = record {
            what = t.ts;
            reads = record {
              moved = further old here mid t.moved a.moved;
              reads = several_stop one byte t.ts here f t.fuel burns t.goes follow e mid (rw (sym is) a.reads);
            };
            holds = record { number = t.number; follows = t.follows };
          }

          module _ (yes : follow ≡ true) where
            -- the next operand was refused
            pub joining-refused : (q : Refusal) (p : ℕ) → from one mid ≡ refused q p → from (more byte one) old ≡ refused q p
            joining-refused q p why = several_none one byte t.ts here f t.fuel burns t.goes follow yes mid (rw (sym is) a.reads) q p why

            -- it was read
            pub joining-more :
                here.at < mid.at →
                (handed known joint : State) (out' : Words) (behind : Cursor) →
                Value one (λ tree. Told table tree role above scope handed known out out') mid behind →
                Handed b start state handed →
                Joined b state.set known joint →
                length out' ≡ length out →
                Joining room b table role above scope start first old behind before out' joint (n + 1)
            joining-more less handed known joint out' behind v hand j l =
                let there = operand-there room (is_formula role) scope mid.rest.now mid.at _ v.reads.reads in
                let was : handed.asked ≡ state.asked = ap (λ (x : State). x.asked) hand in
                let passes : joint.asked ≡ Passed → state.asked ≡ Passed = λ p. sym was ∙ v.holds.passes (sym j.asked ∙ p) in
                let m = a.moved.whole in
                let k = v.reads.moved in
                record {
                  ts = t.ts ++ v.what ∷ [];
                  number = omega (arith, length-append t.ts (v.what ∷ []), t.number);
                  few = omega (arith, t.few, less, m, k.low, k.whole);
                  fuel = f;
                  some = omega (arith, t.enough, less, m, there);
                  enough = omega (arith, t.enough, less, m, k.low, k.whole);
                  goes = several_more one byte t.ts here f t.fuel burns t.goes follow yes mid (rw (sym is) a.reads) v.what behind v.reads.reads;
                  follows = λ g u words same all.
                      told_more table b g t.ts v.what role above scope start u state handed known joint words out out'
                      (t.follows g u words same all) same hand v.holds j;
                  ready = record {
                    counted = omega (arith, j.words, v.holds.counted);
                    level = λ p. t.ready.level (passes p);
                    range = λ p. t.ready.range (passes p);
                  };
                  long = l ∙ t.long;
                  moved = further old here behind t.moved (further here mid behind a.moved v.reads.moved);
                }

-- Laws for the reading of a quantifier: what stands before its restriction, between that and its body, and behind; and what is known then.
use Prim.Native.Nat.{ℕ, zero, suc, ◌+◌, ◌*◌, ◌-◌, ◌≤◌, ◌<◌, min}
use native.Mathlib.Omega.{arith}
use mathlib.Core.Path.{◌≡◌, refl, sym, ap, subst, ◌∙◌, fun_ext}
use mathlib.Core.Logic.{⊎_elim}
use mathlib.Core.Bool.{Bool, true, false, cond}
use mathlib.Core.List.{List, [], ◌∷◌, ◌++◌}
use lib.ListN.{length, drop, set, length-append}
use lib.Seq.{sets}
use lib.Dec.{leb, ltb}
use lib.IntN.{pos}
use borrow.Author.Tests.{leb-true}
use Rattle.std.specs.Prelude.{slice_get, Some}
use Rattle.text.specs.declared.cursor.Cursor.{Cursor}
use Rattle.model.specs.Words.{Words, same, policy_limit, level_limit, scope_limit}
use Rattle.model.specs.Bytes.{bytes, blank, exclamation, interrogation}
use Rattle.model.specs.Lists.{gather}
use Rattle.model.specs.Answer.{Outcome, refused, ◌>>=◌}
use Rattle.model.specs.Tree.{Tree, quantifier, encode}
use Rattle.model.specs.Tag as M
use Rattle.model.specs.Level.{Role, restriction, formula, operand, quantifier_cost, cost}
use Rattle.model.specs.Reading.{is_formula}
use Rattle.model.specs.Mode.{Variables, size, ask_modes}
use Rattle.model.specs.TptpReading as R
use Rattle.model.specs.TptpReading.{Reader, Readers, Restricted, give, token, opening, read_binder, read_quantifier, readers}
use Rattle.model.specs.declared.Refusal.{Refusal}
use Rattle.laws.specs.Answer.{then_assoc}
use Rattle.laws.specs.Words.Tests.{decide}
use Rattle.laws.specs.Reading.Trees.{ask_tree}
use Rattle.tables.specs.Checked.{outcome}
use Rattle.std.specs.Prelude.{Result, Ok, Err}
use Rattle.model.specs.declared.Refused.{Refused}
use Rattle.modes.specs.Mode.{set_of}
use Rattle.tptp_tokens.specs.Steps.{from, Reads, Steps, Value, Valued}
use Rattle.tptp_tokens.specs.Laying.{most_words, Laid}
use Rattle.modes.specs.declared.marks.Marks.{Marks}
use Rattle.tptp_state.specs.Told.{Passed, told, Told, Settled, Entered, Introduced, Outer}
use Rattle.tptp_reading.specs.Formula.{Begins, beneath, RestrictedTold}
use Rattle.tptp_state.specs.declared.state.State.{State}
use Rattle.tptp_tokens.proofs.MovedLaws.{further}
use Rattle.tptp_tokens.proofs.TokenLaws.{onward, halt, token-here}
use Rattle.tptp_tokens.proofs.BehindLaws.{closed_from}
use Rattle.tptp_state.proofs.StateLaws.{asked-passed}
use Rattle.tptp_binders.proofs.TuplesLaws.{sets-append}
use Rattle.tptp_tokens.proofs.LayingLaws.{laid_three}
use Rattle.tptp_reading.proofs.SomeLaws.{entered_passed, entered_ready}
use Rattle.tptp_tokens.proofs.UpTo.{skips_here}
use Rattle.tptp_reading.proofs.StopLaws.{same_first}
use Rattle.tptp_reading.proofs.RoomLaws.{opening-room, beneath_less}

-- tuples of one number at least are as many numbers at least
count_most : (v count : ℕ) → 1 ≤ v → count ≤ v * count
count_most zero count h = absurd (omega arith)
count_most (suc v) count h = omega arith

-- the marks of the outer variables are those variables
told-outer :
    (m : Result (Unit {0}) Refused) (marks : Marks) (bound : Variables) (k : Variables → Outcome (Unit {0})) →
    ((x : ℕ) → set_of marks x ≡ bound x) →
    (told m marks >>= k) ≡ (outcome m >>= λ _. k bound)
unfolding ◌>>=◌
told-outer (Ok u) marks bound k h = ap k (fun_ext h)
told-outer (Err q) marks bound k h = refl

-- questions in three steps, however they are grouped
three_then :
    {A B C D : Type 0} (o : Outcome A) (f : A → Outcome B) (g : B → Outcome C) (h : C → Outcome D) →
    (o >>= f >>= g >>= h) ≡ (o >>= λ a. f a >>= λ b. g b >>= h)
three_then o f g h = then_assoc (o >>= f) g h ∙ then_assoc o f (λ b. g b >>= h)

-- questions 4 to 7 of a quantifier, and its words
module _
    (table : Words) (b : Bool) (v : ℕ) (c : Restricted) (f : Tree) (role : Role) (above scope level count tag : ℕ)
    (s handed known between r : State) (out mid last out₁ out₂ out' : Words) (deep free : Bool) (marks : Marks)
    (kind : is_formula role ≡ true)
    (costs : level ≡ above + quantifier_cost role b)
    (some : 1 ≤ v) (few : v ≤ 4)
    (is-deep : deep ≡ leb level level_limit) (is_free : free ≡ leb (scope + v) scope_limit)
    (entered : Entered 3 deep free marks s handed)
    (outer : Outer scope marks)
    (restricted : RestrictedTold table level scope v handed known out mid count c)
    (introduced : Introduced scope v s.words known between)
    (body : Told table f formula level (scope + v) between r mid last)
    (tagged : tag ≡ cond b 8 9)
    (laid₁ : Laid s.words tag last out₁)
    (laid₂ : Laid (s.words + 1) v out₁ out₂)
    (laid₃ : Laid (s.words + 2) count out₂ out')
  where
    abbrev q : Tree
    q = quantifier b v c.excluded c.restriction f

    abbrev tuples : Words
    tuples = gather (λ tuple. tuple) c.excluded

    sized : size q ≡ 3 + v * count + size c.restriction + size f
    unfolding size encode
    sized =
        omega (
          arith,
          length-append (tuples ++ encode c.restriction) (encode f),
          length-append tuples (encode c.restriction),
          restricted.size,
        )

    counted : r.words ≡ min (s.words + size q) most_words
    counted = omega (arith, body.counted, introduced.words, restricted.told.counted, restricted.words, entered.words, sized)

    -- what passed at the end passed before
    known-passes : r.asked ≡ Passed → known.asked ≡ Passed
    known-passes p = sym introduced.asked ∙ body.passes p

    handed-passes : r.asked ≡ Passed → handed.asked ≡ Passed
    handed-passes p = sym restricted.asked ∙ restricted.told.passes (known-passes p)

    -- within the limit of words every part stands where it does in the words
    module _ (within : s.words + size q ≤ policy_limit) where
      abbrev start : ℕ
      start = s.words + 3 + v * count

      first : handed.words ≡ s.words + 3
      first = omega (arith, entered.words, sized, within)

      second : restricted.handed.words ≡ start
      second = omega (arith, restricted.words, first, sized, within)

      third : between.words ≡ start + size c.restriction
      third = omega (arith, introduced.words, restricted.told.counted, second, sized, within)

      restricts : Settled table c.restriction restriction level (scope + v) restricted.handed known restricted.between mid
      restricts = restricted.told.settled (omega (arith, second, sized, within))

      below : Settled table f formula level (scope + v) between r mid last
      below = body.settled (omega (arith, third, sized, within))

      asked : outcome r.asked ≡ (outcome s.asked >>= λ _. ask_tree q table role above scope s.words)
      unfolding ask_tree
      asked =
          below.asked
          ∙ rw (
            introduced.asked,
            restricts.asked,
            restricted.asked,
            entered.asked,
            second,
            third,
            is-deep,
            is_free,
            costs,
            restricted.number,
          ) (simp then_assoc)

      modes : r.asked ≡ Passed → outcome r.moded ≡ (outcome s.moded >>= λ _. ask_modes q table scope s.words)
      unfolding ask_modes is_formula
      modes p =
          let free-scope : scope + v ≤ scope_limit =
          leb-true (scope + v) scope_limit (sym is_free ∙ (entered_passed 3 deep free marks s handed entered (handed-passes p)).1) in
          below.modes p
          ∙ rw (
            introduced.modes free-scope,
            restricts.modes (known-passes p),
            restricted.moded,
            restricted.set,
            entered.moded,
            entered.set,
            second,
            third,
            restricted.number,
          )
          (three_then (told s.moded marks) _ _ _
          ∙ told-outer s.moded marks (λ x. ltb x scope) _ (outer.holds (omega (arith, free-scope))))

      -- the words behind the first three
      laid-below : last ≡ sets out (s.words + 3) (tuples ++ encode c.restriction ++ encode f)
      unfolding size
      laid-below =
          let c' = encode c.restriction in
          let long : start ≡ s.words + 3 + length tuples = omega (arith, restricted.size) in
          let longer : start + length c' ≡ s.words + 3 + length (tuples ++ c') =
          omega (arith, restricted.size, length-append tuples c') in
          below.laid
          ∙ ap (λ (n : ℕ). sets mid n (encode f)) (third ∙ longer)
          ∙ ap (λ (o : Words). sets o (s.words + 3 + length (tuples ++ c')) (encode f))
          (restricts.laid
          ∙ ap (λ (n : ℕ). sets restricted.between n c') (second ∙ long)
          ∙ ap (λ (o : Words). sets o (s.words + 3 + length tuples) c')
          (restricted.laid (omega (arith, first, sized, within)) ∙ ap (λ (n : ℕ). sets out n tuples) first)
          ∙ sets-append tuples c' out (s.words + 3))
          ∙ sets-append (tuples ++ c') (encode f) out (s.words + 3)

      laid : out' ≡ sets out s.words (encode q)
      unfolding encode
      laid =
          let w = s.words in
          let words = tuples ++ encode c.restriction ++ encode f in
          laid₃ (omega (arith, count_most v count some, sized, within))
          ∙ ap (λ (o : Words). set o (w + 2) (pos count))
          (laid₂ (omega arith)
          ∙ ap (λ (o : Words). set o (w + 1) (pos v))
          (laid₁ (omega (arith, tags b, tagged)) ∙ ap (λ (o : Words). set o w (pos tag)) laid-below))
          ∙ laid_three words out w (pos tag) (pos v) (pos count)
          ∙ ap (λ (n : ℕ). sets out w (pos n ∷ pos v ∷ pos count ∷ words)) tagged
          ∙ ap (λ (n : ℕ). sets out w (pos (cond b 8 9) ∷ pos v ∷ pos n ∷ words)) (sym restricted.number)
        where
          tags : (b : Bool) → cond b 8 9 ≤ 9
          tags true = omega arith
          tags false = omega arith

    pub told-quantifier : Told table q role above scope s r out out'
    told-quantifier = record {
      counted = counted;
      passes = λ p. (asked-passed handed.asked s.asked _ entered.asked (handed-passes p)).0;
      settled = λ within. record { asked = asked within; modes = λ p. rw kind (modes within p); laid = laid within };
    }

-- a quantifier costs two levels at most
pub cost-few : (role : Role) (b : Bool) → cost role (M.Tag.quantifier b) ≤ 2
unfolding cost quantifier_cost
cost-few restriction b = omega arith
cost-few formula b = omega arith
cost-few (operand a) b = ⊎_elim (λ e. rw e (omega arith)) (λ e. rw e (omega arith)) (decide (same a b))

-- the byte that a quantifier begins with
mark-read :
    (b : Bool) (old at : Cursor) → slice_get old.rest.now 0 ≡ Some (cond b exclamation interrogation) →
    at.rest.now ≡ drop 1 old.rest.now → at.at ≡ old.at + 1 →
    Reads (token (cond b (bytes "!") (bytes "?"))) old tt at
unfolding bytes blank
mark-read true old at h r e =
    token-here old old (skips_here old (λ b k. rw (same_first old.rest.now b exclamation k h) refl)) at r e exclamation h
mark-read false old at h r e =
    token-here old old (skips_here old (λ b k. rw (same_first old.rest.now b interrogation k h) refl)) at r e interrogation h

-- a quantifier is read up to its restriction
module _
    (b : Bool) (old at : Cursor) (room scope : ℕ) (byte : slice_get old.rest.now 0 ≡ Some (cond b exclamation interrogation))
    (passed : at.rest.now ≡ drop 1 old.rest.now) (on : at.at ≡ old.at + 1)
  where
    abbrev reader : Reader Tree
    reader = read_quantifier room (beneath room) b scope

    mark : Reads (token (cond b (bytes "!") (bytes "?"))) old tt at
    mark = mark-read b old at byte passed on

    abbrev sign : Reader (Unit {0})
    sign = token (cond b (bytes "=>") (bytes "&"))

    -- what is left to read behind the parenthesis, and behind the sign
    abbrev behind-sign : Readers → ℕ → Restricted → Reader Tree
    behind-sign below v c =
        R.◌>>=◌ (below.operand true (scope + v)) λ f.
        R.◌>>=◌ (token (bytes ")")) λ _.
        give (quantifier b v c.excluded c.restriction f)

    abbrev rest : Readers → ℕ → Reader Tree
    rest below v = R.◌>>=◌ (below.restriction v scope) λ c. R.◌>>=◌ sign λ _. behind-sign below v c

    -- its binder was refused
    pub quantifier_unbound : (q : Refusal) (p : ℕ) → from (read_binder 3 scope) at ≡ refused q p → from reader old ≡ refused q p
    unfolding read_quantifier
    quantifier_unbound q p e =
        onward (token (cond b (bytes "!") (bytes "?"))) _ old tt at mark.reads ∙ halt (read_binder 3 scope) _ at q p e

    module _ (v : ℕ) (next : Cursor) (binds : Reads (read_binder 3 scope) at v next × (1 ≤ v) × (v ≤ 4)) where
      bound : from reader old ≡ from (R.◌>>=◌ (opening room) λ _. rest (beneath room) v) next
      unfolding read_quantifier
      bound =
          onward (token (cond b (bytes "!") (bytes "?"))) _ old tt at mark.reads
          ∙ onward (read_binder 3 scope) _ at v next binds.0.reads

      -- its parenthesis was refused
      pub quantifier-refused : (q : Refusal) (p : ℕ) → from (opening room) next ≡ refused q p → from reader old ≡ refused q p
      quantifier-refused q p e = bound ∙ halt (opening room) _ next q p e

      module _ (inside : Cursor) (opens : Reads (opening room) next tt inside) (lower : ℕ) (less : lower ≡ room - 1) where
        some₁ : 1 ≤ room
        some₁ = opening-room room next inside opens.reads

        -- its restriction may begin
        pub quantifier-begins :
            (table : Words) (role : Role) (above level : ℕ) (deep free : Bool) (marks : Marks) (s handed : State) →
            Begins table room above scope s →
            level ≡ above + cost role (M.Tag.quantifier b) →
            deep ≡ leb level level_limit →
            free ≡ leb (scope + v) scope_limit →
            Entered 3 deep free marks s handed →
            Outer scope marks →
            (lower < room) × Begins table lower level (scope + v) handed
        quantifier-begins table role above level deep free marks s handed begins costs is-deep is_free entered outer = (
          omega (arith, some₁, less),
          record {
            levels = omega (arith, some₁, less, begins.levels, costs, cost-few role b);
            variables = omega (arith, some₁, less, binds.2, begins.variables);
            ready =
                entered_ready table 3 deep free marks s handed above scope level (scope + v) begins.ready entered
                (λ is. leb-true level level_limit (sym is-deep ∙ is))
                (λ is. leb-true (scope + v) scope_limit (sym is_free ∙ is));
          },
        )

        inner : from reader old ≡ from (rest (readers lower) v) inside
        inner =
            bound
            ∙ onward (opening room) _ next tt inside opens.reads
            ∙ ap (λ (below : Readers). from (rest below v) inside) (beneath_less room lower some₁ less)

        -- its restriction was refused
        pub quantifier_unrestricted :
            (q : Refusal) (p : ℕ) → from ((readers lower).restriction v scope) inside ≡ refused q p → from reader old ≡ refused q p
        quantifier_unrestricted q p e = inner ∙ halt ((readers lower).restriction v scope) _ inside q p e

        -- the restriction, and what stands behind it
        module _
            (table : Words) (level : ℕ) (handed known : State) (out mid : Words) (excluded : ℕ) (end : Cursor)
            (restricts :
            Value ((readers lower).restriction v scope) (RestrictedTold table level scope v handed known out mid excluded) inside end)
          where
            restricted : from reader old ≡ from (R.◌>>=◌ sign λ _. behind-sign (readers lower) v restricts.what) end
            restricted = inner ∙ onward ((readers lower).restriction v scope) _ inside restricts.what end restricts.reads.reads

            pub quantifier_unsigned : (q : Refusal) (p : ℕ) → from sign end ≡ refused q p → from reader old ≡ refused q p
            quantifier_unsigned q p e = restricted ∙ halt sign _ end q p e

            module _ (start : Cursor) (signs : Reads sign end tt start) where
              signed : from reader old ≡ from (behind-sign (readers lower) v restricts.what) start
              signed = restricted ∙ onward sign _ end tt start signs.reads

              -- its body may begin
              pub quantifier-body :
                  (s between : State) (lower' : ℕ) →
                  lower' ≡ room - 1 →
                  Begins table lower level (scope + v) handed →
                  Introduced scope v s.words known between →
                  Begins table lower' level (scope + v) between
              quantifier-body s between lower' less' begins introduced =
                  let told = restricts.holds.told in
                  let asked : between.asked ≡ Passed → handed.asked ≡ Passed =
                  λ p. sym restricts.holds.asked ∙ told.passes (sym introduced.asked ∙ p) in
                  record {
                    levels = omega (arith, less, less', begins.levels);
                    variables = omega (arith, less, less', begins.variables);
                    ready = record {
                      counted = omega (arith, introduced.words, told.counted);
                      level = λ p. begins.ready.level (asked p);
                      range = λ p. begins.ready.range (asked p);
                    };
                  }

              module _ (lower' : ℕ) (less' : lower' ≡ room - 1) where
                abbrev body : Reader Tree
                body = (readers lower').operand (is_formula formula) (scope + v)

                -- its body was refused
                pub quantifier_bodiless : (q : Refusal) (p : ℕ) → from body start ≡ refused q p → from reader old ≡ refused q p
                unfolding is_formula
                quantifier_bodiless q p e =
                    signed
                    ∙ halt ((readers lower).operand true (scope + v)) _ start q p
                    (ap (λ (k : ℕ). from ((readers k).operand true (scope + v)) start) (less ∙ sym less') ∙ e)

                -- the body, and the closing parenthesis
                pub quantifier-read :
                    (role : Role) (above tag w₁ w₂ : ℕ) (s between r : State) (last out₁ out₂ out' : Words) (deep free : Bool)
                    (marks : Marks) (last-end new : Cursor) (close : Result (Unit {0}) Refusal) →
                    is_formula role ≡ true →
                    level ≡ above + cost role (M.Tag.quantifier b) →
                    deep ≡ leb level level_limit →
                    free ≡ leb (scope + v) scope_limit →
                    Entered 3 deep free marks s handed →
                    Outer scope marks →
                    Introduced scope v s.words known between →
                    Value body (λ f. Told table f formula level (scope + v) between r mid last) start last-end →
                    tag ≡ cond b 8 9 →
                    Laid s.words tag last out₁ →
                    Laid w₁ v out₁ out₂ →
                    w₁ ≡ s.words + 1 →
                    Laid w₂ excluded out₂ out' →
                    w₂ ≡ s.words + 2 →
                    Steps (token (41 ∷ [])) last-end new close →
                    Valued reader (λ t. Told table t role above scope s r out out') old new close
                unfolding is_formula cost bytes
                quantifier-read
                    role above tag w₁ w₂ s between r last out₁ out₂ out' deep free marks last-end new close kind costs is-deep is_free
                    entered outer introduced reads tagged laid₁ laid₂ at₂ laid₃ at₃ closes =
                    let c = restricts.what in
                    let Body : Tree → Type 0 = λ f. Told table f formula level (scope + v) between r mid last in
                    let f =
                    subst (λ (k : ℕ). Value ((readers k).operand true (scope + v)) Body start last-end) (less' ∙ sym less) reads in
                    let front = further old at next mark.moved binds.0.moved in
                    let head = further old inside end (further old next inside front opens.moved) restricts.reads.moved in
                    let moved = further old start last-end (further old end start head signs.moved) f.reads.moved in
                    closed_from old last-end new moved reader (token (41 ∷ [])) (quantifier b v c.excluded c.restriction f.what)
                    (λ t. Told table t role above scope s r out out')
                    (signed ∙ onward ((readers lower).operand true (scope + v)) _ start f.what last-end f.reads.reads)
                    (told-quantifier table b v c f.what role above scope level excluded tag
                    s handed known between r out mid last out₁ out₂ out' deep free marks
                    kind costs binds.1 binds.2 is-deep is_free entered outer restricts.holds introduced f.holds tagged laid₁
                    (subst (λ (k : ℕ). Laid k v out₁ out₂) at₂ laid₂)
                    (subst (λ (k : ℕ). Laid k excluded out₂ out') at₃ laid₃))
                    close closes

-- Laws for an all-of or any-of behind its first operand: where its connective stands, and what comes of the whole with the closing
-- parenthesis.
use Prim.Native.Nat.{ℕ, ◌+◌, ◌*◌, ◌≤◌}
use native.Mathlib.Omega.{arith}
use mathlib.Core.Path.{◌≡◌, refl, sym, ap, subst, ◌∙◌}
use mathlib.Core.Logic.{◌⊎◌, inl, inr, ⊎_elim}
use mathlib.Core.Bool.{Bool, true, false, cond, not, ◌||◌}
use mathlib.Core.List.{List, [], ◌∷◌}
use lib.ListN.{length, get_or}
use lib.Dec.{ltb, eqb}
use borrow.Author.Tests.{eqb-true, eq-eqb, ltb-true, not-false}
use Rattle.std.specs.Prelude.{slice_get, Some, Result}
use Rattle.std.proofs.lemmas.Option.{slice_get_within}
use Rattle.text.specs.declared.cursor.Cursor.{Cursor}
use Rattle.model.specs.Words.{Words}
use Rattle.model.specs.Bytes.{Text, bytes, blank, ampersand, bar}
use Rattle.model.specs.Answer as A
use Rattle.model.specs.Answer.{Outcome, passed, refused, ask}
use Rattle.model.specs.Tree.{Tree, plain, atom, compare, join, quantifier, some, cons}
use Rattle.model.specs.Level.{Role, under}
use Rattle.model.specs.Reading.{is_formula}
use Rattle.model.specs.Tptp.{Stand, predicate_token, parenthesized, negation, is_join, enclosed, tokens}
use Rattle.model.specs.TptpReading as R
use Rattle.model.specs.TptpReading.{Got, Reader, give, onwards, ◌>>=◌, blanks, peek, literal, look, token, more, trees, joining}
use Rattle.model.specs.TptpReading.{readers, begins_with, behind_blanks}
use Rattle.model.specs.declared.Refusal.{Refusal}
use Rattle.model.specs.declared.Refusal.TheVariants.{Level, Variable, Tptp}
use Rattle.laws.specs.Answer.{ask-passed, then_passed}
use Rattle.laws.specs.Reading.Nodes.{under-kind}
use Rattle.laws.specs.Words.Tests.{decide, clash, or_left, or_right, or_false_left, or_false_right}
use Rattle.laws.specs.Tptp.Spelling.TokensAhead.{stand_ahead, ahead_first}
use Rattle.laws.specs.Tptp.Sound.Policies.{operand_sound}
use Rattle.tptp_tokens.specs.Steps.{from, Moved, Skips, Reads, Steps, Value, Valued}
use Rattle.tptp_tokens.specs.Laying.{Laid}
use Rattle.tptp_state.specs.Told.{Passed, Told, Entered}
use Rattle.tptp_binders.specs.Ahead.{StopsAt, begins}
use Rattle.tptp_reading.specs.Formula.{Begins, Further, chained, closed}
use Rattle.tptp_state.specs.declared.state.State.{State}
use Rattle.tptp_tokens.proofs.MovedLaws.{still, further, same_place}
use Rattle.tptp_tokens.proofs.TokenLaws.{onward, halt, given_then}
use Rattle.tptp_tokens.proofs.BehindLaws.{valued_from, closed_from}
use Rattle.tptp_binders.proofs.AheadLaws.{blanks-rest}
use Rattle.tptp_reading.proofs.StopLaws.{begins-byte, byte-begins, here-begins, joining-more, joining-none, stops-behind, stops-there}
use Rattle.tptp_state.proofs.StateLaws.{asked-passed}
use Rattle.tptp_reading.proofs.JoinLaws.{told-one, told-join}

-- whether a connective stands at a place, by both tests
abbrev Connects : Cursor → Bool → Bool → Type 0
Connects stop every any = (every ≡ begins_with 38 stop.rest.now) × (any ≡ begins_with 124 stop.rest.now)

connects :
    (stop : Cursor) (every any : Bool) → Connects stop every any → (every || any) ≡ true →
    slice_get stop.rest.now 0 ≡ Some (cond every ampersand bar)
connects stop true any (e, o) is = begins-byte stop.rest.now 38 (sym e)
connects stop false any (e, o) is = begins-byte stop.rest.now 124 (sym o ∙ is)

connected :
    (stop : Cursor) (every any : Bool) → Connects stop every any → (c : ℕ) → (c ≡ 38) ⊎ (c ≡ 124) → begins_with c stop.rest.now ≡ true →
    (every || any) ≡ true
connected stop every any (e, o) c is h =
    ⊎_elim
    (λ (k : c ≡ 38). or_left every any (e ∙ ap (λ (n : ℕ). begins_with n stop.rest.now) (sym k) ∙ h))
    (λ (k : c ≡ 124). or_right every any (o ∙ ap (λ (n : ℕ). begins_with n stop.rest.now) (sym k) ∙ h))
    is

-- a byte behind blanks is none
pub behind-blank : (text : Text) (b : ℕ) (u : Text) → behind_blanks text ≡ b ∷ u → blank b ≡ false
unfolding behind_blanks
behind-blank [] b u e = absurd (omega (arith, ap length e))
behind-blank (c ∷ t) b u e =
    ⊎_elim
    (λ k. behind-blank t b u (rw k at e))
    (λ k. ap blank (sym (ap (λ (l : Text). get_or l 0 0) (rw k at e))) ∙ k)
    (decide (blank c))

-- the next byte behind blanks
look-behind : (rest : Text) (p : ℕ) → (q : ℕ) × (look rest p ≡ peek (behind_blanks rest) q)
unfolding look ◌>>=◌ onwards
look-behind rest p =
    let (q, e) = blanks-rest rest p in
    (q, ap (λ (o : Outcome (Got (Unit {0}))). onwards o (λ _. peek)) e)

-- an operand alone, and the closing parenthesis: refused where no such parenthesis stands, whatever the operand is
alone-refused :
    (first : Tree) (b : ℕ) (u : Text) (q : ℕ) → blank b ≡ false → eqb b 41 ≡ false →
    onwards (cond (is_join first) R.stop (give first) (b ∷ u) q) (λ t. token (bytes ")") >>= λ _. give t) ≡ refused Tptp q
unfolding R.stop give token blanks literal bytes ◌>>=◌ onwards
alone-refused first b u q e n = ⊎_elim (λ k. rw k) (λ k. rw k (rw (e, n))) (decide (is_join first))

both-refused :
    (first : Tree) (one : Reader Tree) (rest : Text) (p : ℕ) → begins_with 41 (behind_blanks rest) ≡ false →
    onwards (joining (cond (is_join first) R.stop (give first)) first one rest p) (λ t. token (bytes ")") >>= λ _. give t)
    ≡ onwards (joining R.stop first one rest p) (λ t. token (bytes ")") >>= λ _. give t)
unfolding joining peek R.stop begins_with ◌>>=◌ onwards
both-refused first one rest p none = go (behind_blanks rest) refl
  where
    go :
        (u : Text) → behind_blanks rest ≡ u →
        onwards (joining (cond (is_join first) R.stop (give first)) first one rest p) (λ t. token (bytes ")") >>= λ _. give t)
        ≡ onwards (joining R.stop first one rest p) (λ t. token (bytes ")") >>= λ _. give t)
    go [] e = rw ((look-behind rest p).1, e)
    go (b ∷ u) e =
        rw ((look-behind rest p).1, e)
        (⊎_elim
        (λ k. rw k)
        (λ k. rw k (⊎_elim
        (λ l. rw l)
        (λ l. rw l (alone-refused first b u (look-behind rest p).0 (behind-blank rest b u e) (sym (ap (begins_with 41) e) ∙ none)))
        (decide (eqb b 124))))
        (decide (eqb b 38)))

-- an operand alone, where no connective stands behind it, and the closing parenthesis
alone-closed :
    (first : Tree) (one : Reader Tree) (rest : Text) (p : ℕ) →
    begins_with 38 (behind_blanks rest) ≡ false → begins_with 124 (behind_blanks rest) ≡ false →
    onwards (joining (give first) first one rest p) (λ t. token (bytes ")") >>= λ _. give t)
    ≡ (token (bytes ")") >>= λ _. give first) rest p
unfolding joining peek give token blanks literal bytes begins_with ◌>>=◌ onwards look-behind
alone-closed first one rest p n m = go (behind_blanks rest) refl
  where
    q : ℕ
    q = (blanks-rest rest p).0

    go :
        (u : Text) → behind_blanks rest ≡ u →
        onwards (joining (give first) first one rest p) (λ t. token (bytes ")") >>= λ _. give t)
        ≡ (token (bytes ")") >>= λ _. give first) rest p
    go [] e = rw ((look-behind rest p).1, (blanks-rest rest p).1, e) refl
    go (b ∷ u) e =
        let no = behind-blank rest b u e in
        let n' = sym (ap (begins_with 38) e) ∙ n in
        let m' = sym (ap (begins_with 124) e) ∙ m in
        rw ((look-behind rest p).1, (blanks-rest rest p).1, e) (rw (n', m', no) refl)

-- an operand begins with a parenthesis if it is an all-of or any-of
operand-begins :
    (t : Tree) (scope : ℕ) (text rest : Text) → Stand (enclosed t (tokens t scope)) text rest → begins 40 text ≡ is_join t
unfolding begins begins_with bytes blank predicate_token negation parenthesized is_join enclosed tokens
operand-begins (plain true) scope text rest s = ap (begins_with 40) (ahead_first _ _ _ rest refl text (stand_ahead s)).1
operand-begins (plain false) scope text rest s = ap (begins_with 40) (ahead_first _ _ _ rest refl text (stand_ahead s)).1
operand-begins (atom true p ts) scope text rest s = ap (begins_with 40) (ahead_first _ _ _ rest refl text (stand_ahead s)).1
operand-begins (atom false p ts) scope text rest s = ap (begins_with 40) (ahead_first _ _ _ rest refl text (stand_ahead s)).1
operand-begins (compare true d x y) scope text rest s = ap (begins_with 40) (ahead_first _ _ _ rest refl text (stand_ahead s)).1
operand-begins (compare false d x y) scope text rest s = ap (begins_with 40) (ahead_first _ _ _ rest refl text (stand_ahead s)).1
operand-begins (join b ts) scope text rest s = ap (begins_with 40) (ahead_first _ _ _ rest refl text (stand_ahead s)).1
operand-begins (quantifier true v excluded c f) scope text rest s =
    ap (begins_with 40) (ahead_first _ _ _ rest refl text (stand_ahead s)).1
operand-begins (quantifier false v excluded c f) scope text rest s =
    ap (begins_with 40) (ahead_first _ _ _ rest refl text (stand_ahead s)).1
operand-begins (some c) scope text rest s = ap (begins_with 40) (ahead_first _ _ _ rest refl text (stand_ahead s)).1

operand-join :
    (room : ℕ) (formula : Bool) (scope : ℕ) (text : Text) (p : ℕ) (g : Got Tree) →
    (readers room).operand formula scope text p ≡ passed g →
    begins 40 text ≡ is_join g.what
operand-join room formula scope text p g e =
    operand-begins g.what scope text g.rest (operand_sound room formula scope text p g e).stand

-- a connective can follow an operand
widen : (c : ℕ) → (c ≡ 38) ⊎ (c ≡ 124) → (c ≡ 38) ⊎ (c ≡ 124) ⊎ (c ≡ 41)
widen c is = ⊎_elim (λ (e : c ≡ 38). inl e) (λ (e : c ≡ 124). inr (inl e)) is

-- behind the first operand of what is read up to a closing parenthesis
module _ (room : ℕ) (formula : Bool) (scope : ℕ) (old : Cursor) where
  abbrev one : Reader Tree
  one = (readers room).operand formula scope

  -- it was refused
  chained_refused : {q : Refusal} {p : ℕ} → from one old ≡ refused q p → from (chained one) old ≡ refused q p
  chained_refused {q} {p} e = halt one _ old q p e

  closed-refused : {q : Refusal} {p : ℕ} → from one old ≡ refused q p → from (closed one) old ≡ refused q p
  unfolding R.whole
  closed-refused {q} {p} e = halt (R.whole one) _ old q p (halt one _ old q p e)

  module _ (stop : Cursor) (every any : Bool) (stops : StopsAt old stop) (is : Connects stop every any) where
    -- where a connective stands, one operand alone is refused as well
    closed-chained : (every || any) ≡ true → from (closed one) old ≡ from (chained one) old
    unfolding R.whole ◌>>=◌ onwards
    closed-chained both = go (from one old) refl
      where
        other : (b : Bool) → cond b ampersand bar ≡ 41 → ⊥
        other true e = omega arith
        other false e = omega arith

        none : (g : Got Tree) → from one old ≡ passed g → begins_with 41 (behind_blanks g.rest) ≡ false
        none g e =
            ⊎_elim
            (λ k.
            let same = stops-behind room formula scope old g stop stops e 41 (inr (inr refl)) k in
            let closes = ap (begins_with 41) same ∙ k in
            let here = connects stop every any is both in
            absurd (other every (eqb-true _ 41 (sym (byte-begins stop.rest.now _ 41 here) ∙ closes))))
            (λ k. k)
            (decide (begins_with 41 (behind_blanks g.rest)))

        go : (o : Outcome (Got Tree)) → from one old ≡ o → from (closed one) old ≡ from (chained one) old
        go (refused q p) e = rw e
        go (passed g) e = rw e (both-refused g.what one g.rest g.at (none g e))

    module _ (t : Tree) (behind : Cursor) (read : Reads one old t behind) where
      -- none is ahead at all: an operand that is an all-of or any-of is refused, another one is read alone
      module _ (none : (every || any) ≡ false) where
        nowhere : (c : ℕ) → (c ≡ 38) ⊎ (c ≡ 124) → begins_with c (behind_blanks behind.rest.now) ≡ false
        nowhere c which =
            ⊎_elim
            (λ k.
            let same = stops-behind room formula scope old _ stop stops read.reads c (widen c which) k in
            clash (connected stop every any is c which (ap (begins_with c) same ∙ k)) none)
            (λ k. k)
            (decide (begins_with c (behind_blanks behind.rest.now)))

        closed-alone : is_join t ≡ false → from (closed one) old ≡ from (token (bytes ")") >>= λ _. give t) behind
        unfolding R.whole ◌>>=◌ onwards
        closed-alone k =
            rw (read.reads, k)
            (alone-closed t one behind.rest.now behind.at (nowhere 38 (inl refl)) (nowhere 124 (inr refl)))

      module _ (mid : Cursor) (s : Skips behind mid) where
        -- no connective stands where the scan stops
        joining-stop : (not (eqb mid.at stop.at) || not (every || any)) ≡ true → from (joining R.stop t one) behind ≡ refused Tptp mid.at
        joining-stop taken =
            joining-none t one behind mid s λ c which h.
            let there = stops-there room formula scope old behind stop t read stops mid s c (widen c which) h in
            let both = connected stop every any is c which (ap (begins_with c) there.1 ∙ here-begins mid.rest.now c h) in
            clash taken (rw (eq-eqb mid.at stop.at there.0, both) refl)

        chained-stop : (not (eqb mid.at stop.at) || not (every || any)) ≡ true → from (chained one) old ≡ refused Tptp mid.at
        chained-stop taken = onward one _ old t behind read.reads ∙ halt (joining R.stop t one) _ behind Tptp mid.at (joining-stop taken)

        closed-stop : (every || any) ≡ false → is_join t ≡ true → from (closed one) old ≡ refused Tptp mid.at
        unfolding R.whole ◌>>=◌ onwards
        closed-stop none k =
            rw (read.reads, k, joining-stop (or_right (not (eqb mid.at stop.at)) (not (every || any)) (ap not none))) refl

        -- one does
        chained-here : (not (eqb mid.at stop.at) || not (every || any)) ≡ false → slice_get mid.rest.now 0 ≡ Some (cond every ampersand bar)
        chained-here left =
            let at = eqb-true mid.at stop.at (not-false (eqb mid.at stop.at) (or_false_left _ _ left)) in
            let both = not-false (every || any) (or_false_right (not (eqb mid.at stop.at)) _ left) in
            let same = same_place old mid stop (further old behind mid read.moved s.reads.moved) stops.moved at in
            ap (λ (u : Text). slice_get u 0) same ∙ connects stop every any is both

        chained_on :
            slice_get mid.rest.now 0 ≡ Some (cond every ampersand bar) →
            from (chained one) old
            ≡ from
            (more (cond every ampersand bar) one >>= λ ts. token (bytes ")") >>= λ _. give (join every (cons t (trees ts))))
            mid
        unfolding ◌>>=◌ give onwards
        chained_on b =
            onward one _ old t behind read.reads
            ∙ ap (λ (o : Outcome (Got Tree)). onwards o (λ tree. token (bytes ")") >>= λ _. give tree))
            (joining-more R.stop t one behind mid s every b)
            ∙ given_then (more (cond every ampersand bar) one) (λ ts. join every (cons t (trees ts)))
            (λ tree. token (bytes ")") >>= λ _. give tree) mid.rest.now mid.at

-- what the first operand of a node that was entered begins with
pub chain-begins :
    (table : Words) (room above scope : ℕ) (before handed : State) →
    Begins table room above scope before →
    above + 1 + 2 * room ≤ 600 →
    Entered 2 (ltb above 64) true before.set before handed →
    Begins table room (above + 1) scope handed
chain-begins table room above scope before handed begins levels e = record {
  levels = levels;
  variables = begins.variables;
  ready = record {
    counted = omega (arith, e.words);
    level = λ p. deep (asked p).1;
    range = λ p. begins.ready.range (asked p).0;
  };
}
  where
    questions : Outcome (Unit {0})
    questions = A.◌>>=◌ (ask (ltb above 64) Level before.words) λ _. ask true Variable before.words

    asked : handed.asked ≡ Passed → (before.asked ≡ Passed) × (questions ≡ passed tt)
    asked p = asked-passed handed.asked before.asked (λ _. questions) e.asked p

    deep : questions ≡ passed tt → above + 1 ≤ 64
    deep k =
        let (u, first, second) = then_passed (ask (ltb above 64) Level before.words) (λ _. ask true Variable before.words) k in
        omega (arith, ltb-true above 64 (ask-passed (ltb above 64) Level before.words first))

-- the first operand of an all-of or any-of, which stands below it
module _
    (room : ℕ) (table : Words) (role low : Role) (above scope : ℕ) (before handed : State) (here stop : Cursor) (every any : Bool)
    (old out : Words)
    (stops : StopsAt here stop) (is : Connects stop every any) (below : low ≡ under role every)
  where
    abbrev each : Reader Tree
    each = (readers room).operand (is_formula role) scope

    abbrev lower-each : Reader Tree
    lower-each = (readers room).operand (is_formula low) scope

    abbrev c : ℕ
    c = cond every ampersand bar

    kind : is_formula low ≡ is_formula role
    kind = ap is_formula below ∙ under-kind role every

    -- it was refused
    pub chain-refused : (q : Refusal) (p : ℕ) → from lower-each here ≡ refused q p → from (chained each) here ≡ refused q p
    chain-refused q p e =
        chained_refused room (is_formula role) scope here
        (subst (λ (formula : Bool). from ((readers room).operand formula scope) here ≡ refused q p) kind e)

    -- it was read, and the blanks behind it
    module _
        (first : State) (behind mid : Cursor)
        (read : Value lower-each (λ t. Told table t low (above + 1) scope handed first old out) here behind)
        (s : Skips behind mid)
      where
        abbrev known : Tree → Type 0
        known t = Told table t (under role every) (above + 1) scope handed first old out

        value : Value each known here behind
        value =
            subst (λ (formula : Bool). Value ((readers room).operand formula scope) known here behind) kind
            (subst (λ (r : Role). Value lower-each (λ t. Told table t r (above + 1) scope handed first old out) here behind) below read)

        -- no connective stands behind it
        pub chain-stop : (not (eqb mid.at stop.at) || not (every || any)) ≡ true → from (chained each) here ≡ refused Tptp mid.at
        chain-stop taken =
            chained-stop room (is_formula role) scope here stop every any stops is value.what behind value.reads mid s taken

        -- one does
        module _ (left : (not (eqb mid.at stop.at) || not (every || any)) ≡ false) where
          there : slice_get mid.rest.now 0 ≡ Some c
          there = chained-here room (is_formula role) scope here stop every any stops is value.what behind value.reads mid s left

          -- the further operands begin there
          pub chain-rest :
              Begins table room (above + 1) scope handed →
              Begins table room (above + 1) scope first × (1 ≤ length mid.rest.now)
          chain-rest begins = (
            record {
              levels = begins.levels;
              variables = begins.variables;
              ready = record {
                counted = omega (arith, value.holds.counted);
                level = λ p. begins.ready.level (value.holds.passes p);
                range = λ p. begins.ready.range (value.holds.passes p);
              };
            },
            (let some = slice_get_within mid.rest.now 0 c there in omega (arith, some)),
          )

          goes :
              from (chained each) here
              ≡ from (more c each >>= λ ts. token (bytes ")") >>= λ _. give (join every (cons value.what (trees ts)))) mid
          goes =
              chained_on room (is_formula role) scope here stop every any stops is value.what behind value.reads mid s there

          -- they were refused
          pub chain_unread : (q : Refusal) (p : ℕ) → from (more c lower-each) mid ≡ refused q p → from (chained each) here ≡ refused q p
          chain_unread q p e =
              goes ∙ halt (more c each) _ mid q p
              (subst (λ (formula : Bool). from (more c ((readers room).operand formula scope)) mid ≡ refused q p) kind e)

          -- they were read, and behind them the closing parenthesis was read or refused
          pub chain-read :
              (rest : State) (next end : Cursor) (count : ℕ) (out₁ out₂ out₃ : Words) (tag : ℕ) (close : Result (Unit {0}) Refusal) →
              Entered 2 (ltb above 64) true before.set before handed →
              Value (more c lower-each) (Further table every low (above + 1) scope before.set first rest out out₁ count) mid next →
              tag ≡ cond every 6 7 →
              Laid before.words tag out₁ out₂ →
              Laid (before.words + 1) count out₂ out₃ →
              Steps (token (41 ∷ [])) next end close →
              Valued (chained each) (λ tree. Told table tree role above scope before rest old out₃) here end close
          unfolding bytes
          chain-read rest next end count out₁ out₂ out₃ tag close entered children six first-laid second-laid closes =
              let t = value.what in
              let further : Role → List Tree → Type 0 = λ r. Further table every r (above + 1) scope before.set first rest out out₁ count in
              let listed =
              subst
              (λ (formula : Bool). Value (more c ((readers room).operand formula scope)) (further (under role every)) mid next)
              kind
              (subst (λ (r : Role). Value (more c lower-each) (further r) mid next) below children) in
              closed_from here next end (past value.reads s listed.reads)
              (chained each) (token (41 ∷ [])) (join every (cons t (trees listed.what)))
              (λ tree. Told table tree role above scope before rest old out₃)
              (goes ∙ onward (more c each) _ mid listed.what next listed.reads.reads)
              (told-join table every t listed.what role above scope before handed rest old out₁ out₂ out₃ tag count entered
              (listed.holds.follows t handed old entered.set
              (told-one table every t (under role every) (above + 1) scope handed first old out value.holds))
              six listed.holds.number first-laid second-laid)
              close closes
            where
              past :
                  {A B : Type 0} {r : Reader A} {l : Reader B} {a : A} {b : B} {n : Cursor} →
                  Reads r here a behind → Skips behind mid → Reads l mid b n → Moved here n
              past {n} x y z = further here mid n (further here behind mid x.moved y.reads.moved) z.moved

-- an all-of or any-of with no parentheses around it, or an operand that is none
module _
    (room : ℕ) (role : Role) (scope : ℕ) (here stop : Cursor) (every any : Bool) (stops : StopsAt here stop) (is : Connects stop every any)
  where
    abbrev single : Reader Tree
    single = (readers room).operand (is_formula role) scope

    -- a connective stands ahead
    pub whole-chain :
        (facts : Tree → Type 0) (end : Cursor) (r : Result (Unit {0}) Refusal) → (every || any) ≡ true →
        Valued (chained single) facts here end r →
        Valued (closed single) facts here end r
    whole-chain facts end r both =
        valued_from here here end (still here) (closed single) (chained single) facts
        (closed-chained room (is_formula role) scope here stop every any stops is both) r

    -- none does: one operand was read or refused
    pub whole-refused : (q : Refusal) (p : ℕ) → from single here ≡ refused q p → from (closed single) here ≡ refused q p
    whole-refused q p = closed-refused room (is_formula role) scope here

    module _
        {facts : Tree → Type 0} (behind : Cursor) (came : Value single facts here behind) (none : (every || any) ≡ false)
        (parenthesis : Bool) (c : ℕ) (begun : parenthesis ≡ begins c here.rest.now) (opens : c ≡ 40)
      where
        joins : is_join came.what ≡ parenthesis
        joins =
            sym
            (begun
            ∙ ap (λ (k : ℕ). begins k here.rest.now) opens
            ∙ operand-join room (is_formula role) scope here.rest.now here.at _ came.reads.reads)

        -- an all-of or any-of in parentheses
        pub whole-stop : (mid : Cursor) → Skips behind mid → parenthesis ≡ true → from (closed single) here ≡ refused Tptp mid.at
        whole-stop mid s e =
            closed-stop room (is_formula role) scope here stop every any stops is came.what behind came.reads mid s none (joins ∙ e)

        -- another operand, and the closing parenthesis
        pub whole-alone :
            parenthesis ≡ false → (end : Cursor) (close : Result (Unit {0}) Refusal) → Steps (token (41 ∷ [])) behind end close →
            Valued (closed single) facts here end close
        unfolding bytes
        whole-alone e end close closes =
            closed_from here behind end came.reads.moved (closed single) (token (41 ∷ [])) came.what facts
            (closed-alone room (is_formula role) scope here stop every any stops is came.what behind came.reads none (joins ∙ e))
            came.holds close closes

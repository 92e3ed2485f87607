-- Laws for the reading of a quantifier's restriction: with excluded tuples, as an all-of or any-of, and as an operand.
use Prim.Native.Nat.{ℕ, zero, suc, ◌+◌, ◌*◌, ◌-◌, ◌≤◌, ◌<◌, min}
use native.Mathlib.Omega.{arith}
use mathlib.Core.Path.{◌≡◌, refl, sym, ap, ◌∙◌}
use mathlib.Core.Logic.{inl, ⊎_elim}
use mathlib.Core.Bool.{Bool, true, false}
use mathlib.Core.List.{List, [], ◌∷◌}
use lib.Dec.{eqb}
use lib.ListN.{length}
use lib.IntN.{ℤ}
use Rattle.std.specs.Prelude.{Result, Ok, Err}
use Rattle.std.proofs.lemmas.Option.{slice_get-get_or}
use Rattle.text.specs.declared.cursor.Cursor.{Cursor}
use Rattle.model.specs.Words.{Words}
use Rattle.model.specs.Lists.{gather}
use Rattle.model.specs.Bytes.{Text, bytes, blank, ampersand}
use Rattle.model.specs.Answer.{Outcome, passed, refused}
use Rattle.model.specs.Tree.{Tree}
use Rattle.model.specs.Level.{restriction}
use Rattle.model.specs.Reading.{is_formula}
use Rattle.model.specs.Tptp.{excludes, good_tuple}
use Rattle.model.specs.TptpReading as R
use Rattle.model.specs.TptpReading.{Got, Reader, Readers, Restricted, give, blanks, peek, look, onwards, literal, token, opening, more, joining}
use Rattle.model.specs.TptpReading.{excluding, read_tuple, read_operand, read_restriction, readers, behind_blanks, begins_with, begins_excluding}
use Rattle.model.specs.TptpReading.{◌>>=◌}
use Rattle.model.specs.declared.Refusal.{Refusal}
use Rattle.model.specs.declared.Refusal.TheVariants.{Tptp}
use Rattle.laws.specs.Words.Tests.{decide, clash, and_left}
use Rattle.laws.specs.Tptp.Sound.Lists.{tuple-reads}
use Rattle.laws.specs.Tptp.Sound.Policies.{item_sound}
use Rattle.tptp_tokens.specs.Steps.{from, got, Moved, Skips, Reads, Value}
use Rattle.tptp_binders.specs.Ahead.{StopsAt, begins}
use Rattle.tptp_tokens.specs.Laying.{most_words}
use Rattle.tptp_binders.specs.Tuples.{StoredTuples}
use Rattle.tptp_state.specs.Told.{Told}
use Rattle.tptp_reading.specs.Formula.{Begins, beneath, chained, exclusion, Numbered, RestrictedTold}
use Rattle.tptp_state.specs.declared.state.State.{State}
use Rattle.tptp_tokens.proofs.MovedLaws.{still, further, same_place}
use Rattle.tptp_tokens.proofs.TokenLaws.{onward, halt, given_then, closed_then}
use Rattle.tptp_tokens.proofs.Strict.{excludes_strict}
use Rattle.tptp_binders.proofs.AheadLaws.{blanks-rest}
use Rattle.tptp_reading.proofs.MoreLaws.{more-later}
use Rattle.tptp_reading.proofs.StopLaws.{behind_skip, stops-behind, joining_strays, excluding_strays}
use Rattle.tptp_reading.proofs.ChainLaws.{behind-blank}
use Rattle.tptp_reading.proofs.RoomLaws.{opening-room}
use Rattle.tptp_reading.proofs.OperandLaws.{operand-is}

-- blanks before excluded tuples do not matter
blanks-once : (t : Text) → behind_blanks (behind_blanks t) ≡ behind_blanks t
unfolding behind_blanks
blanks-once [] = refl
blanks-once (b ∷ t) = ⊎_elim (λ e. rw e (blanks-once t)) (λ e. rw e (rw e)) (decide (blank b))

excluding-blanks : (v : ℕ) (t : Text) → begins_excluding v (behind_blanks t) ≡ begins_excluding v t
unfolding begins_excluding
excluding-blanks v t = rw (blanks-once t)

-- where they begin there is a byte
pub excluding-some : (v : ℕ) (text : Text) → begins_excluding v text ≡ true → 1 ≤ length text
unfolding begins_excluding behind_blanks begins_with
excluding-some v [] e = clash e refl
excluding-some v (b ∷ t) e = omega arith

-- a tuple takes a byte at least
tuple_shortens :
    (room v x : ℕ) → 1 ≤ v → (t : Text) (p : ℕ) (g : Got (List ℤ)) →
    read_tuple room v x t p ≡ passed g → length g.rest < length t
tuple_shortens room v x h t p g e =
    let read = item_sound (excludes x) (good_tuple v) {told = ⊥} (tuple-reads room v x h) t p g e in
    excludes_strict x g.what t g.rest read.stand

-- readings that come to the same, and something behind them
same_then :
    {A B : Type 0} (one other : Reader A) (next : A → Reader B) (t u : Text) (p q : ℕ) →
    one t p ≡ other u q →
    (one >>= next) t p ≡ (other >>= next) u q
unfolding ◌>>=◌
same_then {A} one other next t u p q e = ap (λ (o : Outcome (Got A)). onwards o next) e

-- a restriction with these excluded tuples
abbrev with_tuples : Tree → List (List ℤ) → Restricted
with_tuples c tuples = record { restriction = c; excluded = tuples }

-- behind a restriction there are excluded tuples, or there are none
module _ (room v x : ℕ) (first : Tree) (one : Reader Tree) (t : Text) (p : ℕ) where
  tuples-behind :
      begins_excluding v t ≡ true →
      excluding (suc room) (readers room) first one v x t p
      ≡ (more ampersand (read_tuple room v x) >>= λ tuples. give (with_tuples first tuples)) t p
  unfolding excluding
  tuples-behind e =
      rw e
      (ap (λ (k : ℕ). (more ampersand (read_tuple k v x) >>= λ tuples. give (with_tuples first tuples)) t p)
      (let z : suc room - 1 ≡ room = omega arith in z))

  none-behind :
      begins_excluding v t ≡ false →
      excluding (suc room) (readers room) first one v x t p ≡ (joining R.stop first one >>= λ c. give (with_tuples c [])) t p
  unfolding excluding
  none-behind e = rw e

-- behind the words of excluded tuples an operand may begin
pub excluding-begins :
    (table : Words) (room level scope words n : ℕ) (s : State) →
    Begins table room level scope s →
    words ≡ min n most_words →
    Begins table room level scope (record { words = words; asked = s.asked; moded = s.moded; set = s.set })
excluding-begins table room level scope words n s b e = record {
  levels = b.levels;
  variables = b.variables;
  ready = record {
    counted = omega (arith, e);
    level = b.ready.level;
    range = b.ready.range;
  };
}

-- a restriction with excluded tuples
module _ (here stop : Cursor) (room x v : ℕ) where
  abbrev one : Reader Tree
  one = (readers room).operand (is_formula restriction) (x + v)

  abbrev tuple : Reader (List ℤ)
  tuple = read_tuple room v x

  abbrev ends : Restricted → Reader Restricted
  ends r = token (bytes ")") >>= λ _. give r

  -- the restriction was refused
  pub excluding-refused : (q : Refusal) (p : ℕ) → from one here ≡ refused q p → from (exclusion room v x) here ≡ refused q p
  unfolding is_formula
  excluding-refused q p e = halt one _ here q p e

  module _
      (c : Tree) (behind mid : Cursor) (read : Reads one here c behind) (skipped : Skips behind mid)
      (some : 1 ≤ v) (stops : StopsAt here stop) (is : begins_excluding v stop.rest.now ≡ true)
    where
      -- something else stands behind it
      pub excluding-other : (mid.at ≡ stop.at → ⊥) → from (exclusion room v x) here ≡ refused Tptp mid.at
      unfolding is_formula
      excluding-other n =
          onward one _ here c behind read.reads
          ∙ halt (excluding (suc room) (readers room) c one v x) _ behind Tptp mid.at
          (none-behind room v x c one behind.rest.now behind.at
          (excluding_strays room false (x + v) here behind stop c read stops mid skipped n v)
          ∙ halt (joining R.stop c one) _ behind Tptp mid.at
          (joining_strays room false (x + v) here behind stop c read stops mid skipped n one))

      -- the tuples stand behind it
      module _ (same : mid.at ≡ stop.at) where
        rests : mid.rest.now ≡ stop.rest.now
        rests = same_place here mid stop (further here behind mid read.moved skipped.reads.moved) stops.moved same

        goes : from (exclusion room v x) here ≡ from (more ampersand tuple >>= λ tuples. ends (with_tuples c tuples)) stop
        unfolding is_formula
        goes =
            let begun = sym (excluding-blanks v behind.rest.now) ∙ ap (begins_excluding v) (behind_skip behind mid skipped ∙ rests) ∙ is in
            let some-left = excluding-some v stop.rest.now is in
            let byte = slice_get-get_or mid.rest.now 0 0 (omega (arith, some-left, ap length rests)) in
            onward one (λ first. excluding (suc room) (readers room) first one v x >>= ends) here c behind read.reads
            ∙ same_then (excluding (suc room) (readers room) c one v x) (more ampersand tuple >>= λ tuples. give (with_tuples c tuples)) ends
            behind.rest.now behind.rest.now behind.at behind.at
            (tuples-behind room v x c one behind.rest.now behind.at begun)
            ∙ given_then (more ampersand tuple) (with_tuples c) ends behind.rest.now behind.at
            ∙ same_then (more ampersand tuple) (more ampersand tuple) (λ tuples. ends (with_tuples c tuples))
            behind.rest.now stop.rest.now behind.at stop.at
            (more-later ampersand tuple (tuple_shortens room v x some) behind mid skipped _ byte
            ∙ ap (λ (t : Text). more ampersand tuple t mid.at) rests
            ∙ ap (λ (p : ℕ). more ampersand tuple stop.rest.now p) same)

        -- they were refused
        pub excluding_unlisted : (q : Refusal) (p : ℕ) → from (more ampersand tuple) stop ≡ refused q p → from (exclusion room v x) here ≡ refused q p
        excluding_unlisted q p e = goes ∙ halt (more ampersand tuple) _ stop q p e

        module _ (ts : List (List ℤ)) (next : Cursor) (listed : Reads (more ampersand tuple) stop ts next) where
          -- no closing parenthesis stands behind them
          pub excluding_unclosed : (q : Refusal) (p : ℕ) → from (token (41 ∷ [])) next ≡ refused q p → from (exclusion room v x) here ≡ refused q p
          unfolding bytes
          excluding_unclosed q p e =
              goes ∙ onward (more ampersand tuple) _ stop ts next listed.reads ∙ halt (token (41 ∷ [])) _ next q p e

          pub excluding-read :
              {facts : Restricted → Type 0} (close : Cursor) → Reads (token (41 ∷ [])) next tt close → facts (with_tuples c ts) →
              Value (exclusion room v x) facts here close
          unfolding bytes give
          excluding-read close closes holds = record {
            what = with_tuples c ts;
            reads = record {
              moved = further here next close (further here stop next stops.moved listed.moved) closes.moved;
              reads =
                  goes
                  ∙ onward (more ampersand tuple) _ stop ts next listed.reads
                  ∙ onward (token (41 ∷ [])) (λ _. give (with_tuples c ts)) next tt close closes.reads;
            };
            holds = holds;
          }

-- what is known behind it: the tuples were laid before it
pub excluding-told :
    (table : Words) (level x v : ℕ) (s last : State) (out between out' : Words) (n words : ℕ) (c : Tree) (tuples : List (List ℤ)) →
    StoredTuples v s.words n out between tuples →
    words ≡ min (s.words + v * n) most_words →
    Told table c restriction level (x + v) (record { words = words; asked = s.asked; moded = s.moded; set = s.set }) last between out' →
    RestrictedTold table level x v s last out out' n (with_tuples c tuples)
excluding-told table level x v s last out between out' n words c tuples stored count told = record {
  number = stored.number;
  size = stored.size;
  handed = record { words = words; asked = s.asked; moded = s.moded; set = s.set };
  between = between;
  words = count;
  asked = refl;
  moded = refl;
  set = refl;
  laid = stored.laid;
  told = told;
}

-- the reading of a restriction in room for so many parentheses
restriction_as : (room v x : ℕ) → (readers room).restriction v x ≡ read_restriction room (beneath room) v x
unfolding readers beneath
restriction_as zero v x = refl
restriction_as (suc room) v x = refl

-- blanks before an operand do not matter, nor before a parenthesis
look-at : (b : ℕ) (u : Text) (q : ℕ) → blank b ≡ false → look (b ∷ u) q ≡ passed (record { what = b; rest = b ∷ u; at = q })
unfolding look blanks peek ◌>>=◌ onwards
look-at b u q n = rw n refl

module _ (t : Text) (p : ℕ) where
  abbrev place : ℕ
  place = (blanks-rest t p).0

  look-ahead : look t p ≡ peek (behind_blanks t) place
  unfolding look ◌>>=◌ onwards
  look-ahead = ap (λ (o : Outcome (Got (Unit {0}))). onwards o (λ _. peek)) (blanks-rest t p).1

  look-over : behind_blanks t ≡ [] → look t p ≡ refused Tptp place
  unfolding peek
  look-over e = look-ahead ∙ ap (λ (u : Text). peek u place) e

  module _ (b : ℕ) (u : Text) (e : behind_blanks t ≡ b ∷ u) where
    look-on : look t p ≡ passed (record { what = b; rest = b ∷ u; at = place })
    unfolding peek
    look-on = look-ahead ∙ ap (λ (u : Text). peek u place) e

    look-later : {A : Type 0} (next : ℕ → Reader A) → (look >>= next) t p ≡ (look >>= next) (b ∷ u) place
    unfolding ◌>>=◌ onwards
    look-later next = ap (λ (o : Outcome (Got ℕ)). onwards o next) (look-on ∙ sym (look-at b u place (behind-blank t b u e)))

    operand-later :
        (room : ℕ) (below : Readers) (formula : Bool) (scope : ℕ) →
        read_operand room below formula scope t p ≡ read_operand room below formula scope (b ∷ u) place
    unfolding read_operand
    operand-later room below formula scope = look-later _

    opening-later : (room : ℕ) → opening room t p ≡ opening room (b ∷ u) place
    unfolding opening token blanks bytes ◌>>=◌ onwards
    opening-later zero = look-later _
    opening-later (suc room) = rw ((blanks-rest t p).1, e) (rw (behind-blank t b u e) refl)

-- behind the parenthesis of a restriction
abbrev opened : ℕ → Readers → ℕ → ℕ → Reader Restricted
opened room below v x =
    below.operand false (x + v) >>= λ first.
    excluding room below first (below.operand false (x + v)) v x >>= λ r.
    token (bytes ")") >>= λ _.
    give r

module _ (t : Text) (p room v x : ℕ) where
  alone_over :
      behind_blanks t ≡ [] →
      read_restriction room (beneath room) v x t p ≡ (read_operand room (beneath room) false (x + v) >>= λ c. give (with_tuples c [])) t p
  unfolding read_restriction read_operand ◌>>=◌ onwards
  alone_over e = rw (look-over t p e) refl

  module _ (b : ℕ) (u : Text) (e : behind_blanks t ≡ b ∷ u) where
    alone-on :
        eqb b 40 ≡ false →
        read_restriction room (beneath room) v x t p ≡ (read_operand room (beneath room) false (x + v) >>= λ c. give (with_tuples c [])) t p
    unfolding read_restriction ◌>>=◌ onwards
    alone-on n =
        let operand = read_operand room (beneath room) false (x + v) in
        rw (look-on t p b u e, n)
        (same_then operand operand (λ c. give (with_tuples c [])) (b ∷ u) t (place t p) p
        (sym (operand-later t p b u e room (beneath room) false (x + v))))

    opens-on :
        eqb b 40 ≡ true →
        read_restriction room (beneath room) v x t p ≡ (opening room >>= λ _. opened room (beneath room) v x) t p
    unfolding read_restriction ◌>>=◌ onwards
    opens-on y =
        rw (look-on t p b u e, y)
        (same_then (opening room) (opening room) (λ _. opened room (beneath room) v x) (b ∷ u) t (place t p) p
        (sym (opening-later t p b u e room)))

module _ (t : Text) (p room v x : ℕ) where
  abbrev single-reader : Reader Tree
  single-reader = read_operand room (beneath room) false (x + v)

  -- a restriction that begins with no parenthesis is an operand
  alone-same :
      begins 40 t ≡ false → (readers room).restriction v x t p ≡ ((readers room).operand false (x + v) >>= λ c. give (with_tuples c [])) t p
  unfolding begins begins_with
  alone-same none =
      ap (λ (r : Reader Restricted). r t p) (restriction_as room v x)
      ∙ go (behind_blanks t) refl
      ∙ ap (λ (r : Reader Tree). (r >>= λ c. give (with_tuples c [])) t p) (sym (operand-is room false (x + v)))
    where
      go :
          (u : Text) → behind_blanks t ≡ u →
          read_restriction room (beneath room) v x t p ≡ (single-reader >>= λ c. give (with_tuples c [])) t p
      go [] e = alone_over t p room v x e
      go (b ∷ u) e = alone-on t p room v x b u e (ap (begins_with 40) (sym e) ∙ none)

  -- one that begins with a parenthesis opens it
  opens_same :
      begins 40 t ≡ true → (readers room).restriction v x t p ≡ (opening room >>= λ _. opened room (beneath room) v x) t p
  unfolding begins begins_with
  opens_same is = ap (λ (r : Reader Restricted). r t p) (restriction_as room v x) ∙ go (behind_blanks t) refl
    where
      go :
          (u : Text) → behind_blanks t ≡ u →
          read_restriction room (beneath room) v x t p ≡ (opening room >>= λ _. opened room (beneath room) v x) t p
      go [] e = clash is (ap (begins_with 40) e)
      go (b ∷ u) e = opens-on t p room v x b u e (ap (begins_with 40) (sym e) ∙ is)

-- and behind it stands an all-of or any-of, or a restriction and its excluded tuples
opened_inside :
    (here inside : Cursor) (room lower v x : ℕ) → begins 40 here.rest.now ≡ true → lower ≡ room - 1 →
    from (opening room) here ≡ got tt inside →
    from ((readers room).restriction v x) here ≡ from (exclusion lower v x) inside
unfolding beneath
opened_inside here inside zero lower v x is less e =
    absurd (let some : 1 ≤ 0 = opening-room 0 here inside e in omega (arith, some))
opened_inside here inside (suc room) lower v x is less e =
    opens_same here.rest.now here.at (suc room) v x is
    ∙ onward (opening (suc room)) _ here tt inside e
    ∙ ap (λ (k : ℕ). from (exclusion k v x) inside) (let same : room ≡ lower = omega arith in same)

-- where none begin at the byte that can follow an operand, none begin behind the operand
none_after :
    (here stop : Cursor) (room v x : ℕ) (g : Got Tree) → StopsAt here stop → begins_excluding v stop.rest.now ≡ false →
    from ((readers room).operand false (x + v)) here ≡ passed g →
    begins_excluding v g.rest ≡ false
unfolding begins_excluding
none_after here stop room v x g stops none e =
    ⊎_elim
    (λ k.
    let connective = and_left (begins_with ampersand (behind_blanks g.rest)) _ k in
    let same = stops-behind room false (x + v) here g stop stops e 38 (inl refl) connective in
    clash k (sym (excluding-blanks v g.rest) ∙ ap (begins_excluding v) (sym same) ∙ none))
    (λ k. k)
    (decide (begins_excluding v g.rest))

-- an all-of or any-of, where no excluded tuples begin at the byte that can follow its first operand
chained_same :
    (here stop : Cursor) (room v x : ℕ) → StopsAt here stop → begins_excluding v stop.rest.now ≡ false →
    from (exclusion room v x) here ≡ from (chained ((readers room).operand false (x + v)) >>= λ c. give (with_tuples c [])) here
unfolding ◌>>=◌ onwards
chained_same here stop room v x stops none = go (from one here) refl
  where
    one : Reader Tree
    one = (readers room).operand false (x + v)

    rest : Tree → Reader Restricted
    rest c = give (with_tuples c [])

    closing : Restricted → Reader Restricted
    closing r = token (bytes ")") >>= λ _. give r

    go :
        (o : Outcome (Got Tree)) → from one here ≡ o →
        onwards o (λ first. excluding (suc room) (readers room) first one v x >>= closing)
        ≡ onwards (onwards o (λ first. joining R.stop first one >>= λ t. token (bytes ")") >>= λ _. give t)) rest
    go (refused q p) e = refl
    go (passed g) e =
        let c = g.what in
        let join = joining R.stop c one in
        same_then (excluding (suc room) (readers room) c one v x) (join >>= rest) closing g.rest g.rest g.at g.at
        (none-behind room v x c one g.rest g.at (none_after here stop room v x g stops none e))
        ∙ given_then join (λ t. with_tuples t []) closing g.rest g.at
        ∙ closed_then join (bytes ")") (λ t. give (with_tuples t [])) g.rest g.at

-- behind its parenthesis there is room for one less
pub restricted-begins :
    (table : Words) (room level scope lower : ℕ) (here inside : Cursor) (s : State) →
    Begins table room level scope s →
    Reads (opening room) here tt inside →
    lower ≡ room - 1 →
    (lower < room) × Begins table lower level scope s × (level + 1 + 2 * lower ≤ 600)
restricted-begins table room level scope lower here inside s b reads less =
    let some = opening-room room here inside reads.reads in (
      omega (arith, some),
      record {
        levels = omega (arith, some, b.levels);
        variables = omega (arith, some, b.variables);
        ready = b.ready;
      },
      omega (arith, some, b.levels),
    )

-- a restriction with no excluded tuples
pub plain-told :
    (table : Words) (level x v : ℕ) (s last : State) (out out' : Words) (c : Tree) → s.words ≤ most_words →
    Told table c restriction level (x + v) s last out out' →
    RestrictedTold table level x v s last out out' 0 (with_tuples c [])
unfolding gather
plain-told table level x v s last out out' c few told = record {
  number = refl;
  size = omega arith;
  handed = s;
  between = out;
  words = omega arith;
  asked = refl;
  moded = refl;
  set = refl;
  laid = λ _. refl;
  told = told;
}

plain-read :
    (whole : Reader Restricted) (one : Reader Tree) (old mid next : Cursor) → from whole old ≡ from (one >>= λ c. give (with_tuples c [])) mid →
    Moved old mid →
    {facts : Tree → Type 0} {told : Restricted → Type 0} → Value one facts mid next →
    ((c : Tree) → facts c → told (with_tuples c [])) →
    Value whole told old next
unfolding give
plain-read whole one old mid next e m value h = record {
  what = with_tuples value.what [];
  reads = record {
    moved = further old mid next m value.reads.moved;
    reads = e ∙ onward one (λ c. give (with_tuples c [])) mid value.what next value.reads.reads;
  };
  holds = h value.what value.holds;
}

module _ (here : Cursor) (v x room : ℕ) where
  abbrev restricts : Reader Restricted
  restricts = (readers room).restriction v x

  -- an operand
  module _ (none : begins 40 here.rest.now ≡ false) where
    abbrev single : Reader Tree
    single = (readers room).operand (is_formula restriction) (x + v)

    pub alone-refused : (q : Refusal) (p : ℕ) → from single here ≡ refused q p → from restricts here ≡ refused q p
    unfolding is_formula
    alone-refused q p e = alone-same here.rest.now here.at room v x none ∙ halt single _ here q p e

    pub restricted-alone :
        {facts : Tree → Type 0} {told : Restricted → Type 0} (next : Cursor) → Value single facts here next →
        ((c : Tree) → facts c → told (with_tuples c [])) →
        Value restricts told here next
    unfolding is_formula
    restricted-alone next value =
        plain-read restricts single here here next (alone-same here.rest.now here.at room v x none) (still here) value

  -- its parenthesis is refused, or opens
  module _ (is : begins 40 here.rest.now ≡ true) where
    pub restricted-refused : (q : Refusal) (p : ℕ) → from (opening room) here ≡ refused q p → from restricts here ≡ refused q p
    restricted-refused q p e = opens_same here.rest.now here.at room v x is ∙ halt (opening room) _ here q p e

    module _ (lower : ℕ) (inside : Cursor) (opens : Reads (opening room) here tt inside) (less : lower ≡ room - 1) where
      inner : from restricts here ≡ from (exclusion lower v x) inside
      inner = opened_inside here inside room lower v x is less opens.reads

      -- with excluded tuples
      pub restricted-excluding :
          (told : ℕ → Restricted → Type 0) (next : Cursor) (r : Result ℕ Refusal) → Numbered (exclusion lower v x) told inside next r →
          Numbered restricts told here next r
      restricted-excluding told next (Ok n) value = record {
        what = value.what;
        reads = record { moved = further here inside next opens.moved value.reads.moved; reads = inner ∙ value.reads.reads };
        holds = value.holds;
      }
      restricted-excluding told next (Err e) r = inner ∙ r

      -- an all-of or any-of
      module _ (stop : Cursor) (stops : StopsAt inside stop) (none : begins_excluding v stop.rest.now ≡ false) where
        abbrev joint : Reader Tree
        joint = chained ((readers lower).operand (is_formula restriction) (x + v))

        as_joint : from restricts here ≡ from (joint >>= λ c. give (with_tuples c [])) inside
        unfolding is_formula
        as_joint = inner ∙ chained_same inside stop lower v x stops none

        pub joint-refused : (q : Refusal) (p : ℕ) → from joint inside ≡ refused q p → from restricts here ≡ refused q p
        joint-refused q p e = as_joint ∙ halt joint _ inside q p e

        pub restricted-chain :
            {facts : Tree → Type 0} {told : Restricted → Type 0} (next : Cursor) → Value joint facts inside next →
            ((c : Tree) → facts c → told (with_tuples c [])) →
            Value restricts told here next
        restricted-chain next value = plain-read restricts joint here inside next as_joint opens.moved value

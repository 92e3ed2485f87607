-- Laws for the reading of fields: bytes passed one after another, in a bare field and in quotes, and what stands behind them.
use Prim.Native.Nat.{ℕ, suc, ◌+◌, ◌≤◌, ◌<◌}
use native.Mathlib.Numerals.{add-one}
use native.Mathlib.Nat.{eq-or-lt_of_le}
use native.Mathlib.Omega.{arith}
use mathlib.Core.Path.{◌≡◌, refl, sym, ap, ap₂, ◌∙◌, subst}
use mathlib.Core.Logic.{⊎_elim}
use mathlib.Core.Bool.{Bool, true, false, cond}
use mathlib.Core.List.{[], ◌∷◌, ◌++◌, append_assoc}
use lib.ListN.{length, get_or, take, drop, take-append-drop, length-append, length-drop, drop_of_length-le}
use lib.Seq.{drop-cons, length-take-le}
use lib.Dec.{eqb}
use borrow.Author.Tests.{eqb-true}
use Rattle.model.specs.declared.Refusal.TheVariants.{Csv}
use Rattle.model.specs.Answer.{Outcome, passed, refused, ◌>>=◌}
use Rattle.model.specs.Bytes.{Text, lf, cr, quote, comma}
use Rattle.model.specs.Lists.{all}
use Rattle.model.specs.Csv.{text_data, quotable}
use Rattle.model.specs.CsvReading.{Records, State, start, field, inside, quoting, closing, ending, move_behind, move_bare, move_first, move}
use Rattle.model.specs.CsvReading.{add_byte, add_record, at_end, follow, read_from}
use Rattle.laws.specs.Words.Tests.{and-true, and_left, and_right, or_left}
use Rattle.laws.specs.Csv.Complete.{data_quote}
use Rattle.csv_reading.specs.declared.field.End.TheVariants.{Comma, Line}
use Rattle.std.specs.Prelude.{slice_get, Some}
use Rattle.text.specs.declared.cursor.Cursor.{Cursor}
use Rattle.text.specs.Passing.{Passed, Stops}
use Rattle.csv_reading.specs.Field.{add_all, attach, behind, reading, goes_on, Same, Bare, Quoted, EndOf}
use Rattle.text.proofs.PassingLaws.{stops-at}
use Rattle.std.specs.List.{prefix_len}
use Rattle.std.proofs.lemmas.List.Sums.{prefix_len-le-length, prefix_len_stops}
use Rattle.std.proofs.lemmas.Option.{get_or_from_slice_get}

-- bytes put in front one part after another
add_all-append : (s t : Text) (rs : Records) → add_all (s ++ t) rs ≡ add_all s (add_all t rs)
unfolding add_all
add_all-append [] t rs = refl
add_all-append (b ∷ s) t rs = ap (add_byte b) (add_all-append s t rs)

pub attach-append : (s t : Text) (o : Outcome Records) → attach s (attach t o) ≡ attach (s ++ t) o
unfolding attach ◌>>=◌
attach-append s t (refused r p) = refl
attach-append s t (passed rs) = ap passed (sym (add_all-append s t rs))

pub attach-none : (o : Outcome Records) → attach [] o ≡ o
unfolding attach add_all ◌>>=◌
attach-none (refused r p) = refl
attach-none (passed rs) = refl

pub attach-refused : (t : Text) (p : ℕ) → attach t (refused Csv p) ≡ refused Csv p
unfolding attach ◌>>=◌
attach-refused t p = refl

-- one byte, and then the others
attach-first : (b : ℕ) (t : Text) (o : Outcome Records) → (attach t o >>= λ rs. passed (add_byte b rs)) ≡ attach (b ∷ t) o
unfolding attach add_all ◌>>=◌
attach-first b t (refused r p) = refl
attach-first b t (passed rs) = refl

attach-one : (b : ℕ) (o : Outcome Records) → (o >>= λ rs. passed (add_byte b rs)) ≡ attach (b ∷ []) o
unfolding attach add_all ◌>>=◌
attach-one b o = refl

-- the reading at a byte that is passed
pub read_past : (s : State) (b : ℕ) (old new : Cursor) → Passed (b ∷ []) old new → reading s old ≡ follow (move s b) b old.at (λ next. reading next new)
unfolding read_from
read_past s b old new p =
    ap (read_from s old.at) p.rest
    ∙ ap (λ (j : ℕ). follow (move s b) b old.at (λ next. read_from next j new.rest.now)) (let e : suc old.at ≡ new.at = omega (arith, p.at) in e)

-- what is text can stand in quotes
text-quotable : (b : ℕ) → text_data b ≡ true → quotable b ≡ true
unfolding quotable
text-quotable b e = or_left _ _ (or_left _ _ (or_left _ _ (or_left _ _ e)))

-- bytes of a text in quotes
pub quoting-text :
    (t : Text) (p q : ℕ) (rest : Text) →
    all text_data t ≡ true →
    q ≡ p + length t →
    read_from quoting p (t ++ rest) ≡ attach t (read_from quoting q rest)
unfolding read_from move follow all
quoting-text [] p q rest e h = ap (λ (n : ℕ). read_from quoting n rest) (let k : p ≡ q = omega arith in k) ∙ sym (attach-none _)
quoting-text (b ∷ t) p q rest e h =
    let d : text_data b ≡ true = and_left _ (all text_data t) e in
    rw (data_quote b d, text-quotable b d, quoting-text t (suc p) q rest (and_right (text_data b) _ e) (omega arith)) (attach-first b t _)

-- bytes of a bare field, behind which no byte of a field stands
inside-text :
    (t : Text) (p q : ℕ) (rest : Text) →
    all text_data t ≡ true →
    q ≡ p + length t →
    Stops text_data rest →
    read_from inside p (t ++ rest) ≡ attach t (behind q rest)
unfolding read_from move move_bare follow all behind Stops at_end
inside-text [] p q [] e h k = sym (attach-none _)
inside-text [] p q (b ∷ rest) e h k = rw k (ap (λ (n : ℕ). follow (move_behind b) b n (λ next. read_from next (suc n) rest)) (let z : p ≡ q = omega arith in z) ∙ sym (attach-none _))
inside-text (b ∷ t) p q rest e h k =
    let d : text_data b ≡ true = and_left _ (all text_data t) e in
    rw (d, inside-text t (suc p) q rest (and_right (text_data b) _ e) (omega arith) k) (attach-first b t _)

pub field-text :
    (t : Text) (p q : ℕ) (rest : Text) →
    all text_data t ≡ true →
    q ≡ p + length t →
    Stops text_data rest →
    Stops (λ c. eqb c quote) (t ++ rest) →
    read_from field p (t ++ rest) ≡ attach t (behind q rest)
unfolding read_from move move_first move_bare follow all behind Stops at_end
field-text [] p q [] e h k f = sym (attach-none _)
field-text [] p q (b ∷ rest) e h k f = rw (f, k) (ap (λ (n : ℕ). follow (move_behind b) b n (λ next. read_from next (suc n) rest)) (let z : p ≡ q = omega arith in z) ∙ sym (attach-none _))
field-text (b ∷ t) p q rest e h k f =
    let d : text_data b ≡ true = and_left _ (all text_data t) e in
    rw (f, d, inside-text t (suc p) q rest (and_right (text_data b) _ e) (omega arith) k) (attach-first b t _)

-- the reading behind a quote that closes the field
pub closing-rest : (p : ℕ) (text : Text) → Stops (λ c. eqb c quote) text → read_from closing p text ≡ behind p text
unfolding read_from move behind at_end Stops
closing-rest p [] e = refl
closing-rest p (b ∷ text) e = rw e

-- what stands behind a field, byte by byte
behind_past : (b : ℕ) (old new : Cursor) → Passed (b ∷ []) old new → behind old.at old.rest.now ≡ follow (move_behind b) b old.at (λ next. reading next new)
unfolding behind
behind_past b old new p =
    ap (behind old.at) p.rest
    ∙ ap (λ (j : ℕ). follow (move_behind b) b old.at (λ next. read_from next j new.rest.now)) (let e : suc old.at ≡ new.at = omega (arith, p.at) in e)

-- places of one text: the same one, behind bytes that were passed, and one after another
pub same_here : (here : Cursor) → Same here here
same_here here = record { whole = refl; bytes = []; rest = refl }

pub same_passed : (t : Text) (old new : Cursor) → Passed t old new → Same old new
same_passed t old new p = record {
  whole = omega (arith, p.at, ap length p.rest, length-append t new.rest.now);
  bytes = t;
  rest = p.rest;
}

pub same_then : (a b c : Cursor) → Same a b → Same b c → Same a c
same_then a b c s t = record {
  whole = t.whole ∙ s.whole;
  bytes = s.bytes ++ t.bytes;
  rest = s.rest ∙ ap (λ (r : Text). s.bytes ++ r) t.rest ∙ sym (append_assoc s.bytes t.bytes c.rest.now);
}

-- a byte that is passed lies in the text
shorter : (b : ℕ) (old new : Cursor) → Passed (b ∷ []) old new → (old.at < new.at) × Same old new
shorter b old new p = (omega (arith, p.at), same_passed (b ∷ []) old new p)

pub ends-comma : (old new : Cursor) → Passed (comma ∷ []) old new → EndOf old Comma new
unfolding move_behind follow goes_on
ends-comma old new p = record { reads = behind_past comma old new p; onward = shorter comma old new p }

-- no LF stands behind a CR
no_line : (p : ℕ) (t : Text) → Stops (λ c. eqb c lf) t → read_from ending p t ≡ refused Csv p
unfolding read_from at_end move follow Stops
no_line p [] s = refl
no_line p (b ∷ t) s = rw s

-- no comma stands there, and a CR does
module _ (old same mid new : Cursor) (e : same ≡ old) (p : Passed (cr ∷ []) same mid) where
  first : Passed (cr ∷ []) old mid
  first = subst (λ (c : Cursor). Passed (cr ∷ []) c mid) e p

  pub ends-line : Passed (lf ∷ []) mid new → EndOf old Line new
  unfolding move_behind move follow goes_on
  ends-line q =
      let one = shorter cr old mid first in
      let two = shorter lf mid new q in
      record {
        reads = behind_past cr old mid first ∙ read_past ending lf mid new q;
        onward = (omega (arith, one.0, two.0), same_then old mid new one.1 two.1);
      }

  -- no LF behind it
  pub ends-early : (new ≡ mid) × Stops (λ c. eqb c lf) mid.rest.now → behind old.at old.rest.now ≡ refused Csv new.at
  unfolding move_behind follow
  ends-early s =
      behind_past cr old mid first ∙ no_line mid.at mid.rest.now s.1 ∙ ap (λ (c : Cursor). refused Csv c.at) (sym s.0)

pub empty : (t : Text) → length t ≡ 0 → t ≡ []
empty [] e = refl
empty (b ∷ t) e = absurd (omega (arith, e))

no_text : (p : ℕ) (t : Text) → t ≡ [] → behind p t ≡ (read_from start p t >>= λ rs. passed (add_record rs))
unfolding behind read_from at_end ◌>>=◌
no_text p t e = rw e refl

pub ends-text : (old mid new : Cursor) → mid ≡ old → new ≡ mid → length new.rest.now ≡ 0 → EndOf old Line new
unfolding goes_on
ends-text old mid new e f r =
    subst (λ (c : Cursor). EndOf c Line new) (f ∙ e) (record { reads = no_text new.at new.rest.now (empty _ r); onward = (omega (arith, r), same_here new) })

ends_other :
    (p : ℕ) (text : Text) → Stops (λ c. eqb c comma) text → Stops (λ c. eqb c cr) text → (text ≡ [] → ⊥) → behind p text ≡ refused Csv p
unfolding behind move_behind follow Stops
ends_other p [] f g e = absurd (e refl)
ends_other p (b ∷ t) f g e = rw (f, g)

pub ends_bad :
    (old mid new : Cursor) →
    (mid ≡ old) × Stops (λ c. eqb c comma) old.rest.now →
    (new ≡ mid) × Stops (λ c. eqb c cr) mid.rest.now →
    (new.rest.now ≡ [] → ⊥) →
    behind old.at old.rest.now ≡ refused Csv new.at
ends_bad old mid new f g e =
    subst (λ (c : Cursor). behind c.at c.rest.now ≡ refused Csv new.at) (g.0 ∙ f.0)
    (ends_other new.at new.rest.now
    (subst (λ (c : Cursor). Stops (λ b. eqb b comma) c.rest.now) (sym f.0 ∙ sym g.0) f.1)
    (subst (λ (c : Cursor). Stops (λ b. eqb b cr) c.rest.now) (sym g.0) g.1) e)

-- bytes in quotes, so many
pub record InQuotes (old : Cursor) (i : ℕ) : Type 0 where
  pub bytes : Text
  pub to : i ≤ length old.rest.now
  pub reads : reading quoting old ≡ attach bytes (read_from quoting (old.at + i) (drop i old.rest.now))
  pub none : i ≡ 0 → bytes ≡ []
  pub some : 1 ≤ i → (t : Text) × (bytes ≡ get_or old.rest.now 0 0 ∷ t)

pub quotes_none : (old : Cursor) → InQuotes old 0
quotes_none old = record {
  bytes = [];
  to = omega arith;
  reads = ap (λ (n : ℕ). read_from quoting n old.rest.now) (let e : old.at ≡ old.at + 0 = omega arith in e) ∙ sym (attach-none _);
  none = λ e. refl;
  some = λ k. absurd (omega (arith, k));
}

-- the reading at an index
read_at :
    (old : Cursor) (s : State) (i : ℕ) →
    i < length old.rest.now →
    read_from s (old.at + i) (drop i old.rest.now)
    ≡ follow (move s (get_or old.rest.now i 0)) (get_or old.rest.now i 0) (old.at + i)
    (λ next. read_from next (old.at + (i + 1)) (drop (i + 1) old.rest.now))
unfolding read_from
read_at old s i h =
    let b = get_or old.rest.now i 0 in
    ap (read_from s (old.at + i)) (drop-cons old.rest.now i 0 h)
    ∙ ap₂ (λ (j k : ℕ). follow (move s b) b (old.at + i) (λ next. read_from next j (drop k old.rest.now)))
    (let e : suc (old.at + i) ≡ old.at + (i + 1) = omega arith in e)
    (sym (add-one i))

module _ (old : Cursor) (i : ℕ) (q : InQuotes old i) (h : i < length old.rest.now) where
  byte : ℕ
  byte = get_or old.rest.now i 0

  -- one byte more, with which the reading stands at k
  quotes_step :
      (k : ℕ) →
      i < k →
      k ≤ length old.rest.now →
      read_from quoting (old.at + i) (drop i old.rest.now) ≡ attach (byte ∷ []) (read_from quoting (old.at + k) (drop k old.rest.now)) →
      InQuotes old k
  unfolding byte
  quotes_step k l m e = record {
    bytes = q.bytes ++ byte ∷ [];
    to = m;
    reads = q.reads ∙ ap (attach q.bytes) e ∙ attach-append q.bytes (byte ∷ []) _;
    none = λ z. absurd (omega (arith, z, l));
    some = λ z.
        ⊎_elim
        (λ (s : 0 ≡ i). ([], ap (λ (t : Text). t ++ byte ∷ []) (q.none (sym s)) ∙ ap (λ (n : ℕ). get_or old.rest.now n 0 ∷ []) (sym s)))
        (λ (s : 0 < i). let r = q.some s in (r.0 ++ byte ∷ [], ap (λ (t : Text). t ++ byte ∷ []) r.1))
        (eq-or-lt_of_le (let o : 0 ≤ i = omega arith in o));
  }

  pub quotes_more : eqb (get_or old.rest.now i 0) quote ≡ false → quotable (get_or old.rest.now i 0) ≡ true → InQuotes old (i + 1)
  unfolding move follow byte
  quotes_more e f = quotes_step (i + 1) (omega arith) (omega arith) (read_at old quoting i h ∙ rw (e, f) (attach-one _ _))

  closes :
      eqb (get_or old.rest.now i 0) quote ≡ true →
      read_from quoting (old.at + i) (drop i old.rest.now) ≡ read_from closing (old.at + (i + 1)) (drop (i + 1) old.rest.now)
  unfolding move follow
  closes e = read_at old quoting i h ∙ rw e

  pub quotes_double :
      eqb (get_or old.rest.now i 0) quote ≡ true → eqb (get_or old.rest.now (i + 1) 0) quote ≡ true → i + 1 < length old.rest.now → InQuotes old (i + 2)
  unfolding move follow byte
  quotes_double e f k =
      quotes_step (i + 2) (omega arith) (omega arith)
      (closes e
      ∙ read_at old closing (i + 1) k
      ∙ rw f
      (attach-one _ _
      ∙ ap₂ (λ (b n : ℕ). attach (b ∷ []) (read_from quoting (old.at + n) (drop n old.rest.now)))
      (eqb-true _ quote f ∙ sym (eqb-true _ quote e))
      (let z : i + 1 + 1 ≡ i + 2 = omega arith in z)))

  pub quotes_close :
      (new : Cursor) →
      new.rest.now ≡ drop (i + 1) old.rest.now →
      new.at ≡ old.at + (i + 1) →
      eqb (get_or old.rest.now i 0) quote ≡ true →
      Stops (λ c. eqb c quote) (drop (i + 1) old.rest.now) →
      Quoted old new i
  quotes_close new r a e f = record {
    bytes = q.bytes;
    behind = omega (arith, a);
    same = record {
      whole = omega (arith, a, ap length r, length-drop (i + 1) old.rest.now, h);
      bytes = take (i + 1) old.rest.now;
      rest = sym (take-append-drop (i + 1) old.rest.now) ∙ ap (λ (t : Text). take (i + 1) old.rest.now ++ t) (sym r);
    };
    reads = q.reads ∙ ap (attach q.bytes) (closes e ∙ ap₂ (λ (n : ℕ) (t : Text). read_from closing n t) (sym a) (sym r));
    stop = subst (Stops (λ c. eqb c quote)) (sym r) f;
    none = q.none;
    some = q.some;
  }

  pub quotes_bad :
      eqb (get_or old.rest.now i 0) quote ≡ false → quotable (get_or old.rest.now i 0) ≡ false → reading quoting old ≡ refused Csv (old.at + i)
  unfolding move follow
  quotes_bad e f = q.reads ∙ ap (attach q.bytes) (read_at old quoting i h ∙ rw (e, f)) ∙ attach-refused q.bytes _

pub quotes_open : (old : Cursor) (i : ℕ) → InQuotes old i → length old.rest.now ≤ i → reading quoting old ≡ refused Csv (old.at + i)
unfolding at_end read_from
quotes_open old i q h =
    q.reads ∙ ap (attach q.bytes) (ap (read_from quoting (old.at + i)) (drop_of_length-le old.rest.now h)) ∙ attach-refused q.bytes _

-- the bytes of a bare field that are counted
prefix : (test : ℕ → Bool) (t : Text) → all test (take (prefix_len test t) t) ≡ true
unfolding all
prefix test [] = refl
prefix test (b ∷ t) = go (test b) refl (prefix test t)
  where
    go : (x : Bool) → test b ≡ x → all test (take (prefix_len test t) t) ≡ true → all test (take (cond x (1 + prefix_len test t) 0) (b ∷ t)) ≡ true
    go true e p = subst (λ (n : ℕ). all test (take n (b ∷ t)) ≡ true) (let k : suc (prefix_len test t) ≡ 1 + prefix_len test t = omega arith in k) (and-true e p)
    go false e p = refl

comma_stops : (t : Text) → slice_get t 0 ≡ Some comma → Stops text_data t
unfolding Stops text_data
comma_stops [] e = tt
comma_stops (b ∷ t) e = rw (get_or_from_slice_get (b ∷ t) 0 comma 0 e) refl

pub bare-passed :
    (old new : Cursor) (n : ℕ) →
    n ≡ prefix_len text_data old.rest.now →
    new.rest.now ≡ drop n old.rest.now →
    new.at ≡ old.at + n →
    Bare old new n
bare-passed old new n c r a =
    let few : n ≤ length old.rest.now = omega (arith, c, prefix_len-le-length text_data old.rest.now) in
    let size = length-take-le n old.rest.now few in
    record {
      bytes = take n old.rest.now;
      passed = record {
        rest = sym (take-append-drop n old.rest.now) ∙ ap (λ (t : Text). take n old.rest.now ++ t) (sym r);
        at = omega (arith, a, size);
      };
      size = size;
      bare = rw c (prefix text_data old.rest.now);
      stop = subst (Stops text_data) (sym r) (rw c (stops-at text_data old.rest.now _ (prefix_len_stops text_data old.rest.now 0)));
    }

pub bare-none : (here : Cursor) → slice_get here.rest.now 0 ≡ Some comma → Bare here here 0
unfolding all
bare-none here h = record {
  bytes = [];
  passed = record { rest = refl; at = omega arith };
  size = refl;
  bare = refl;
  stop = comma_stops here.rest.now h;
}

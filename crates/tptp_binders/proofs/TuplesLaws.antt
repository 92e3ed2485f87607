-- Laws for the reading of excluded tuples one after another.
use Prim.Native.Nat.{ℕ, suc, ◌+◌, ◌*◌, ◌-◌, ◌≤◌, ◌<◌, min}
use native.Mathlib.Omega.{arith}
use mathlib.Core.Path.{◌≡◌, refl, sym, ap, ◌∙◌}
use mathlib.Core.Bool.{Bool, true, false}
use mathlib.Core.List.{List, [], ◌∷◌, ◌++◌, append-nil, append_assoc}
use lib.ListN.{length, set, length-append}
use lib.Seq.{sets}
use lib.IntN.{ℤ}
use Rattle.text.specs.declared.cursor.Cursor.{Cursor}
use Rattle.model.specs.Words.{Words}
use Rattle.model.specs.Lists.{gather}
use Rattle.model.specs.Bytes.{ampersand}
use Rattle.model.specs.Answer.{refused}
use Rattle.model.specs.TptpReading.{more, up_to, read_tuple}
use Rattle.model.specs.declared.Refusal.{Refusal}
use Rattle.tptp_tokens.specs.Steps.{from, Moved, Reads, Value}
use Rattle.tptp_tokens.specs.Several.{another}
use Rattle.tptp_tokens.specs.Laying.{most_words}
use Rattle.tptp_binders.specs.Tuples.{StoredAll, StoredTuples}
use Rattle.tptp_tokens.proofs.MovedLaws.{still, further}
use Rattle.tptp_tokens.proofs.UpTo.{attach, attach-none, several_refused, several_stop, several_none, several_more}
use Rattle.tptp_binders.proofs.TupleLaws.{tuple_strict}

-- words laid one list behind another
pub sets-append : (xs ys out : Words) (w : ℕ) → sets (sets out w xs) (w + length xs) ys ≡ sets out w (xs ++ ys)
sets-append [] ys out w = ap (λ (n : ℕ). sets out n ys) (let e : w + 0 ≡ w = omega arith in e)
sets-append (x ∷ xs) ys out w =
    ap (λ (n : ℕ). sets (sets (set out w x) (suc w) xs) n ys) (let e : w + suc (length xs) ≡ suc w + length xs = omega arith in e)
    ∙ sets-append xs ys (set out w x) (suc w)

gather-last : (ts : List (List ℤ)) (t : List ℤ) → gather (λ tuple. tuple) (ts ++ t ∷ []) ≡ gather (λ tuple. tuple) ts ++ t
unfolding gather
gather-last [] t = append-nil t
gather-last (u ∷ ts) t = ap (λ (ks : List ℤ). u ++ ks) (gather-last ts t) ∙ sym (append_assoc u (gather (λ tuple. tuple) ts) t)

-- so many tuples were read so far; there is fuel for those that are left
pub record Tupling (room v x w : ℕ) (start here : Cursor) (old out : Words) (count to : ℕ) : Type 0 where
  pub ts : List (List ℤ)
  pub number : length ts ≡ count
  pub few : count + length here.rest.now ≤ length start.rest.now
  pub fuel : ℕ
  pub some : 1 ≤ fuel
  pub enough : length here.rest.now ≤ fuel
  pub goes : from (more ampersand (read_tuple room v x)) start ≡ attach ts (from (up_to fuel ampersand (read_tuple room v x)) here)
  pub size : length (gather (λ tuple. tuple) ts) ≡ v * count
  pub reached : to ≡ min (w + v * count) most_words
  pub laid : w + v * count ≤ most_words → out ≡ sets old w (gather (λ tuple. tuple) ts)
  pub long : length out ≡ length old
  pub moved : Moved start here

module _ (room v x w : ℕ) (start : Cursor) (old : Words) where
  pub tupling_none : 1 ≤ length start.rest.now → w ≤ most_words → Tupling room v x w start start old old 0 w
  unfolding more gather
  tupling_none h l = record {
    ts = [];
    number = refl;
    few = omega arith;
    fuel = length start.rest.now;
    some = h;
    enough = omega arith;
    goes = sym (attach-none _);
    size = omega arith;
    reached = omega arith;
    laid = λ _. refl;
    long = refl;
    moved = still start;
  }

  module _ {here : Cursor} {out : Words} {count to : ℕ} (t : Tupling room v x w start here old out count to) where
    one : t.fuel ≡ suc (t.fuel - 1)
    one = omega (arith, t.some)

    pub tupling_refused :
        (q : Refusal) (p : ℕ) → from (another ampersand) here ≡ refused q p → from (more ampersand (read_tuple room v x)) start ≡ refused q p
    tupling_refused = several_refused (read_tuple room v x) ampersand t.ts here (t.fuel - 1) t.fuel one t.goes

    pub tupling_stop :
        (b : Bool) → b ≡ false → (end : Cursor) → Reads (another ampersand) here b end →
        Value (more ampersand (read_tuple room v x)) (StoredTuples v w count old out) start end
    tupling_stop b e end a = record {
      what = t.ts;
      reads = record {
        moved = further _ _ _ t.moved a.moved;
        reads = several_stop (read_tuple room v x) ampersand t.ts here (t.fuel - 1) t.fuel one t.goes b e end a.reads;
      };
      holds = record { number = t.number; size = t.size; laid = t.laid };
    }

    module _ (b : Bool) (y : b ≡ true) (mid : Cursor) (a : Reads (another ampersand) here b mid) where
      pub tupling_stuck :
          (q : Refusal) (p : ℕ) → from (read_tuple room v x) mid ≡ refused q p → from (more ampersand (read_tuple room v x)) start ≡ refused q p
      tupling_stuck = several_none (read_tuple room v x) ampersand t.ts here (t.fuel - 1) t.fuel one t.goes b y mid a.reads

      pub tupling_more :
          here.at < mid.at → (out' : Words) (end : Cursor) (to' : ℕ) → 1 ≤ v →
          Value (read_tuple room v x) (StoredAll v to out out') mid end →
          length out' ≡ length out →
          to' ≡ min (to + v) most_words →
          Tupling room v x w start end old out' (count + 1) to'
      tupling_more passed out' end to' one_more r l m =
          let ks = gather (λ tuple. tuple) t.ts in
          let strict = tuple_strict room v x mid end r.what one_more r.reads.reads in
          let shorter : length end.rest.now + 2 ≤ length here.rest.now = omega (arith, strict, a.moved.whole, passed) in
          let product : v * (count + 1) ≡ v * count + v = times v count in
          record {
            ts = t.ts ++ r.what ∷ [];
            number = omega (arith, length-append t.ts (r.what ∷ []), t.number);
            few = omega (arith, t.few, shorter);
            fuel = t.fuel - 1;
            some = omega (arith, t.enough, shorter);
            enough = omega (arith, t.enough, shorter);
            goes = several_more (read_tuple room v x) ampersand t.ts here (t.fuel - 1) t.fuel one t.goes b y mid a.reads r.what end r.reads.reads;
            size = ap length (gather-last t.ts r.what) ∙ omega (arith, length-append ks r.what, t.size, r.holds.number, product);
            reached = omega (arith, m, t.reached, product);
            laid = λ few.
                let exact : to ≡ w + length ks = omega (arith, t.reached, t.size, product, few) in
                r.holds.laid
                ∙ ap (λ (n : ℕ). sets out n r.what) exact
                ∙ ap (λ (o : Words). sets o (w + length ks) r.what) (t.laid (omega (arith, product, few)))
                ∙ sets-append ks r.what old w
                ∙ ap (sets old w) (sym (gather-last t.ts r.what));
            long = l ∙ t.long;
            moved = further _ _ _ t.moved (further _ _ _ a.moved r.reads.moved);
          }
        where
          times : (v count : ℕ) → v * (count + 1) ≡ v * count + v
          times v count = omega arith

-- Laws for the reading of excluded tuples.
use Prim.Native.Nat.{ℕ, zero, suc, ◌+◌, ◌-◌, ◌≤◌, ◌<◌}
use native.Mathlib.Numerals.{add-one}
use native.Mathlib.Omega.{arith}
use mathlib.Core.Path.{◌≡◌, refl, sym, ap, ◌∙◌}
use mathlib.Core.Logic.{⊎_elim}
use mathlib.Core.Bool.{true, false}
use mathlib.Core.List.{List, [], ◌∷◌, ◌++◌}
use lib.ListN.{length, set, length-append}
use lib.Seq.{sets}
use lib.IntN.{ℤ}
use lib.Dec.{eqb}
use borrow.Author.Tests.{eq-eqb, ne_eqb, eqb-true}
use Rattle.std.specs.Prelude.{Result, Ok, Err}
use Rattle.text.specs.declared.cursor.Cursor.{Cursor}
use Rattle.model.specs.Words.{Words}
use Rattle.model.specs.Bytes.{Text, bytes}
use Rattle.model.specs.Answer.{Outcome, passed, refused}
use Rattle.model.specs.Tptp.{excludes, good_tuple}
use Rattle.model.specs.TptpReading.{Got, Reader, give, onwards, token, opening, unequal, read_unequals, read_tuple, ◌>>=◌}
use Rattle.model.specs.declared.Refusal.{Refusal}
use Rattle.laws.specs.Words.Tests.{decide}
use Rattle.laws.specs.Tptp.Sound.Lists.{tuple-reads}
use Rattle.laws.specs.Tptp.Sound.Policies.{item_sound}
use Rattle.tptp_tokens.specs.Steps.{from, got, Moved, Reads, Steps, Value, Valued}
use Rattle.tptp_tokens.specs.Laying.{Stored}
use Rattle.tptp_binders.specs.Tuples.{StoredAll, tuple_opening, tuple_closing, further_unequals}
use Rattle.tptp_tokens.proofs.MovedLaws.{still, further}
use Rattle.tptp_tokens.proofs.BehindLaws.{steps_from}
use Rattle.tptp_tokens.proofs.LayingLaws.{sets_last}
use Rattle.tptp_tokens.proofs.UpTo.{attach, attach-none, attach-attach, attach-give, attach-all}
use Rattle.tptp_tokens.proofs.Strict.{excludes_strict}

-- the first of several variables, and the others behind it
module _ (n x : ℕ) (old : Cursor) where
  first_read :
      (k : ℤ) (mid : Cursor) → from (unequal x) old ≡ got k mid →
      from (read_unequals n x) old ≡ attach (k ∷ []) (from (further_unequals n (suc x)) mid)
  unfolding read_unequals further_unequals ◌>>=◌ onwards give attach
  first_read k mid e = go n
    where
      behind :
          (o : Outcome (Got (Unit {0}))) (m : ℕ) →
          onwards o (λ _. read_unequals m (suc x) >>= λ ks. give (k ∷ ks)) ≡ attach (k ∷ []) (onwards o (λ _. read_unequals m (suc x)))
      behind (refused q p) m = refl
      behind (passed g) m = attach-give k (read_unequals m (suc x) g.rest g.at)

      go : (n : ℕ) → from (read_unequals n x) old ≡ attach (k ∷ []) (from (further_unequals n (suc x)) mid)
      go zero = rw e
      go (suc m) = rw e (behind (from (token (bytes "|")) mid) m)

  pub first-refused : (q : Refusal) (p : ℕ) → from (unequal x) old ≡ refused q p → from (read_unequals n x) old ≡ refused q p
  unfolding read_unequals ◌>>=◌ onwards
  first-refused q p e = go n
    where
      go : (n : ℕ) → from (read_unequals n x) old ≡ refused q p
      go zero = rw e
      go (suc m) = rw e

-- so many numbers were read so far, each behind a bar
pub record Furthering (n x w : ℕ) (start here : Cursor) (old out : Words) (i : ℕ) : Type 0 where
  pub ks : List ℤ
  pub number : length ks ≡ i
  pub goes : from (further_unequals n x) start ≡ attach ks (from (further_unequals (n - i) (x + i)) here)
  pub laid : out ≡ sets old w ks
  pub moved : Moved start here

module _ (n x w : ℕ) (start : Cursor) (old : Words) where
  pub furthering_none : Furthering n x w start start old old 0
  furthering_none = record {
    ks = [];
    number = refl;
    goes =
        sym (attach-none (from (further_unequals n x) start))
        ∙ ap (λ (m : ℕ). attach [] (from (further_unequals m x) start)) (let e : n ≡ n - 0 = omega arith in e)
        ∙ ap (λ (y : ℕ). attach [] (from (further_unequals (n - 0) y) start)) (let e : x ≡ x + 0 = omega arith in e);
    laid = refl;
    moved = still start;
  }

  module _ {here : Cursor} {out : Words} {i : ℕ} (f : Furthering n x w start here old out i) where
    module _ (few : i < n) where
      abbrev m : ℕ
      m = n - (i + 1)

      next : from (further_unequals n x) start ≡ attach f.ks (from (token (124 ∷ []) >>= λ _. read_unequals m (x + i)) here)
      unfolding further_unequals bytes
      next =
          f.goes
          ∙ ap (λ (k : ℕ). attach f.ks (from (further_unequals k (x + i)) here)) (let e : n - i ≡ suc (n - (i + 1)) = omega arith in e)

      -- no bar
      pub furthering_stop : (q : Refusal) (p : ℕ) → from (token (124 ∷ [])) here ≡ refused q p → from (further_unequals n x) start ≡ refused q p
      unfolding attach ◌>>=◌ onwards
      furthering_stop q p e = next ∙ rw e

      module _ (mid : Cursor) (s : Reads (token (124 ∷ [])) here tt mid) where
        one_more : from (further_unequals n x) start ≡ attach f.ks (from (read_unequals m (x + i)) mid)
        unfolding ◌>>=◌ onwards
        one_more = next ∙ rw s.reads

        pub furthering_refused :
            (y : ℕ) → y ≡ x + i → (q : Refusal) (p : ℕ) → from (unequal y) mid ≡ refused q p → from (further_unequals n x) start ≡ refused q p
        unfolding attach
        furthering_refused y is q p e = one_more ∙ rw (sym is, first-refused m y mid q p e)

        -- one more
        pub furthering_more :
            (y : ℕ) → y ≡ x + i → (out' : Words) (end : Cursor) → Value (unequal y) (Stored (w + i) out out') mid end →
            Furthering n x w start end old out' (i + 1)
        furthering_more y is out' end u = record {
          ks = f.ks ++ u.what ∷ [];
          number = omega (arith, f.number, length-append f.ks (u.what ∷ []));
          goes =
              one_more
              ∙ rw (sym is) (ap (attach f.ks) (first_read m y mid u.what end u.reads.reads))
              ∙ attach-attach f.ks (u.what ∷ []) (from (further_unequals m (suc y)) end)
              ∙ ap (λ (z : ℕ). attach (f.ks ++ u.what ∷ []) (from (further_unequals m z) end))
              (let e : suc y ≡ x + (i + 1) = omega (arith, is) in e);
          laid =
              u.holds
              ∙ ap (λ (o : Words). set o (w + i) u.what) f.laid
              ∙ ap (λ (j : ℕ). set (sets old w f.ks) (w + j) u.what) (sym f.number)
              ∙ sets_last f.ks old w u.what;
          moved = further _ _ _ f.moved (further _ _ _ s.moved u.reads.moved);
        }

    -- all of them
    pub furthering_end : i ≡ n → Value (further_unequals n x) (StoredAll n w old out) start here
    unfolding further_unequals give
    furthering_end e = record {
      what = f.ks;
      reads = record {
        moved = f.moved;
        reads =
            f.goes
            ∙ ap (λ (m : ℕ). attach f.ks (from (further_unequals m (x + i)) here)) (let z : n - i ≡ 0 = omega arith in z)
            ∙ attach-all f.ks here;
      };
      holds = record { number = f.number ∙ e; laid = f.laid };
    }

-- v variables and their numbers: the first, and the others behind it
module _ (x v w : ℕ) (out out₁ out' : Words) (h : 1 ≤ v) (old mid new : Cursor) (f : Value (unequal x) (Stored w out out₁) old mid) where
  first_only : from (read_unequals (v - 1) x) old ≡ attach (f.what ∷ []) (from (further_unequals (v - 1) (x + 1)) mid)
  first_only =
      first_read (v - 1) x old f.what mid f.reads.reads
      ∙ ap (λ (y : ℕ). attach (f.what ∷ []) (from (further_unequals (v - 1) y) mid)) (sym (add-one x))

  pub unequals-read :
      (r : Result (Unit {0}) Refusal) → Valued (further_unequals (v - 1) (x + 1)) (StoredAll (v - 1) (w + 1) out₁ out') mid new r →
      Valued (read_unequals (v - 1) x) (StoredAll v w out out') old new r
  unfolding attach
  unequals-read (Ok u) g = record {
    what = f.what ∷ g.what;
    reads = record {
      moved = further _ _ _ f.reads.moved g.reads.moved;
      reads = first_only ∙ ap (attach (f.what ∷ [])) g.reads.reads;
    };
    holds = record {
      number = omega (arith, g.holds.number);
      laid =
          g.holds.laid
          ∙ ap (λ (o : Words). sets o (w + 1) g.what) f.holds
          ∙ ap (λ (n : ℕ). sets (set out w f.what) n g.what) (add-one w);
    };
  }
  unequals-read (Err e) g = first_only ∙ ap (attach (f.what ∷ [])) g

-- an excluded tuple: of one variable, or in parentheses
module _ (room v : ℕ) (old : Cursor) where
  pub opening_one : v ≡ 1 → Reads (tuple_opening room v) old tt old
  unfolding tuple_opening give
  opening_one e = record { moved = still old; reads = rw (eq-eqb v 1 e) }

  pub closing_one : v ≡ 1 → Reads (tuple_closing v) old tt old
  unfolding tuple_closing give
  closing_one e = record { moved = still old; reads = rw (eq-eqb v 1 e) }

  module _ (n : v ≡ 1 → ⊥) (new : Cursor) (r : Result (Unit {0}) Refusal) where
    pub opening_more : Steps (opening room) old new r → Steps (tuple_opening room v) old new r
    unfolding tuple_opening
    opening_more = steps_from old old new (still old) (tuple_opening room v) (opening room) (rw (ne_eqb v 1 n)) r

    pub closing_more : Steps (token (41 ∷ [])) old new r → Steps (tuple_closing v) old new r
    unfolding tuple_closing bytes
    closing_more = steps_from old old new (still old) (tuple_closing v) (token (41 ∷ [])) (rw (ne_eqb v 1 n)) r

unfoldable pub tuple_parts : (room v x : ℕ) → Reader (List ℤ)
tuple_parts room v x = do
  _ ← tuple_opening room v
  ks ← read_unequals (v - 1) x
  _ ← tuple_closing v
  give ks

pub tuple-as : (room v x : ℕ) (t : Text) (p : ℕ) → read_tuple room v x t p ≡ tuple_parts room v x t p
unfolding read_tuple tuple_parts tuple_opening tuple_closing bytes give ◌>>=◌ onwards
tuple-as room v x t p = ⊎_elim one many (decide (eqb v 1))
  where
    self : (o : Outcome (Got (List ℤ))) → o ≡ onwards o (λ ks t p. passed (record { what = ks; rest = t; at = p }))
    self (refused q k) = refl
    self (passed g) = refl

    one : eqb v 1 ≡ true → read_tuple room v x t p ≡ tuple_parts room v x t p
    one e =
        let zero_left : 0 ≡ v - 1 = omega (arith, eqb-true v 1 e) in
        rw e (ap (λ (n : ℕ). read_unequals n x t p) zero_left ∙ self (read_unequals (v - 1) x t p))

    many : eqb v 1 ≡ false → read_tuple room v x t p ≡ tuple_parts room v x t p
    many e = rw e

-- a tuple takes a byte at least
pub tuple_strict :
    (room v x : ℕ) (old new : Cursor) (ks : List ℤ) → 1 ≤ v → from (read_tuple room v x) old ≡ got ks new →
    length new.rest.now < length old.rest.now
tuple_strict room v x old new ks h e =
    let g : Got (List ℤ) = record { what = ks; rest = new.rest.now; at = new.at } in
    let read = item_sound (excludes x) (good_tuple v) {told = ⊥} (tuple-reads room v x h) old.rest.now old.at g e in
    excludes_strict x ks old.rest.now new.rest.now read.stand

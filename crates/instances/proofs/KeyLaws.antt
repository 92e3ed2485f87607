-- Laws of tuples found by key: the sum over a tuple's words, entries put into a table, and the walk along the entries of one key,
-- which finds a tuple if it is among all.
use Prim.Native.Nat.{ℕ, zero, suc, ◌+◌, ◌*◌, ◌-◌, ◌/◌, ◌%◌, ◌^◌, ◌≤◌, ◌<◌}
use native.Mathlib.Nat.{add-zero, add-suc}
use native.Mathlib.Omega.{arith}
use mathlib.Core.Path.{◌≡◌, refl, sym, ap, ap₂, ◌∙◌, subst}
use mathlib.Core.Logic.{⊎_elim}
use mathlib.Core.Bool.{Bool, true, false, ◌||◌}
use mathlib.Core.List.{List, [], ◌∷◌}
use lib.ListN.{length, get_or, set, replicate, length-set, length-replicate, get_or-replicate}
use lib.Seq.{get_or-set_same, get_or-set_other}
use lib.Dec.{eqb, ltb}
use lib.IntN.{ℤ}
use borrow.Author.Tests.{eqb-true, eqb-false, leb-true}
use Rattle.model.specs.Words.{Words, word, equal_all}
use Rattle.words.specs.Offset.{from_least}
use Rattle.laws.specs.Words.Tests.{and_right, decide, equal_all-true}
use Rattle.laws.specs.Lists.Span.{side}
use Rattle.instances.specs.Keyed.{serves, added, key_from, key_of, among_first, Last, Keyed}
use Rattle.instances.proofs.InstanceLaws.{or_none}
use Rattle.words.proofs.PartLaws.{part_from, part-next, part-last}

-- the key of a part of words, from number i on
module _ (ws : Words) (at n : ℕ) where
  pub key_on :
      (i sum x : ℕ) → i < n → at + n ≤ length ws → x ≡ from_least (word ws (at + i)) →
      key_from sum (part_from ws at n i) ≡ key_from (sum % 2 ^ 32 * 1540483477 + x % 2 ^ 32 * 2654435761) (part_from ws at n (i + 1))
  unfolding key_from added word
  key_on i sum x h l e =
      ap (key_from sum) (part-next ws at n i h l)
      ∙ ap (λ (y : ℕ). key_from (sum % 2 ^ 32 * 1540483477 + y % 2 ^ 32 * 2654435761) (part_from ws at n (i + 1))) (sym e)

  pub key-last : (i sum : ℕ) → n ≤ i → key_from sum (part_from ws at n i) ≡ sum / 2 ^ 19 % 8192
  unfolding key_from
  key-last i sum h = ap (key_from sum) (part-last ws at n i h)

-- a key is one of the table's
pub key-small : (sum : ℕ) (τ : List ℤ) → key_from sum τ < 8192
unfolding key_from
key-small sum [] = omega arith
key-small sum (z ∷ τ) = key-small (added sum z) τ

-- links of entries whose tuples are the same
last-same : (f g : ℕ → List ℤ) (k n link : ℕ) → ((e : ℕ) → e < n → f e ≡ g e) → Last f k n link → Last g k n link
last-same f g k n link eq l =
    record {
      few = l.few;
      same = λ e q. ap (key_from 0) (sym (eq e (omega (arith, l.few)))) ∙ l.same e q;
      others = λ e b h q. l.others e b h (ap (key_from 0) (eq e h) ∙ q);
    }

pub keyed-same : (f g : ℕ → List ℤ) (n : ℕ) (heads links : List ℕ) → ((e : ℕ) → e < n → f e ≡ g e) → Keyed f n heads links → Keyed g n heads links
keyed-same f g n heads links eq t =
    record {
      keys = t.keys;
      room = t.room;
      head = λ k h. last-same f g k n (get_or heads k 0) eq (t.head k h);
      next = λ e h.
          subst (λ (k : ℕ). Last g k e (get_or links e 0)) (ap (key_from 0) (eq e h))
          (last-same f g (key_of (f e)) e (get_or links e 0) (λ j b. eq j (omega arith)) (t.next e h));
    }

-- an empty table
pub keyed-none : (f : ℕ → List ℤ) (total : ℕ) (heads links : List ℕ) → total ≡ 8192 → heads ≡ replicate {A = ℕ} total 0 → length links ≡ 8192 → Keyed f 0 heads links
keyed-none f total heads links all e room =
    record {
      keys = ap length e ∙ length-replicate {A = ℕ} total 0 ∙ all;
      room = room;
      head = λ k h.
          let none : get_or heads k 0 ≡ 0 = ap (λ (l : List ℕ). get_or l k 0) e ∙ get_or-replicate total k 0 0 (omega arith) in
          record { few = omega arith; same = λ j q. absurd (omega arith); others = λ j b l q. omega arith };
      next = λ j h. absurd (omega arith);
    }

-- one entry more, put in front of the chain of its key
module _ (f : ℕ → List ℤ) (n k : ℕ) (heads links : List ℕ) (few : n < 8192) (own : k ≡ key_of (f n)) (t : Keyed f n heads links) where
  key_fits : k < 8192
  key_fits = omega (arith, own, key-small 0 (f n))

  -- the last entry of its key is the new one, and that of another key is as before
  head-same : Last f k (n + 1) (get_or (set heads k (n + 1)) k 0)
  head-same =
      let here : get_or (set heads k (n + 1)) k 0 ≡ n + 1 = get_or-set_same heads k (n + 1) 0 (omega (arith, key_fits, t.keys)) in
      record {
        few = omega arith;
        same = λ e q. let there : e ≡ n = omega arith in ap (λ (i : ℕ). key_of (f i)) there ∙ sym own;
        others = λ e b h q. omega arith;
      }

  head-other : (j : ℕ) → j < 8192 → (k ≡ j → ⊥) → Last f j (n + 1) (get_or (set heads k (n + 1)) j 0)
  head-other j h other =
      let l = t.head j h in
      subst (λ (x : ℕ). Last f j (n + 1) x) (sym (get_or-set_other heads k j (n + 1) 0 (λ q. other (sym q))))
      (record {
        few = omega (arith, l.few);
        same = l.same;
        others = λ e b h q.
            ⊎_elim
            (λ s. l.others e b s q)
            (λ s. let there : n ≡ e = omega arith in other (own ∙ ap (λ (i : ℕ). key_of (f i)) there ∙ q))
            (side n e);
      })

  -- it links to what was the last entry of its key, and the entries before it are linked as before
  next-same : Last f (key_of (f n)) n (get_or (set links n (get_or heads k 0)) n 0)
  next-same =
      subst (λ (i : ℕ). Last f i n (get_or (set links n (get_or heads k 0)) n 0)) own
      (subst (λ (x : ℕ). Last f k n x) (sym (get_or-set_same links n (get_or heads k 0) 0 (omega (arith, t.room)))) (t.head k key_fits))

  next-other : (e : ℕ) → e < n → Last f (key_of (f e)) e (get_or (set links n (get_or heads k 0)) e 0)
  next-other e h =
      subst (λ (x : ℕ). Last f (key_of (f e)) e x) (sym (get_or-set_other links n e (get_or heads k 0) 0 (λ q. omega arith))) (t.next e h)

  keyed-more : Keyed f (n + 1) (set heads k (n + 1)) (set links n (get_or heads k 0))
  keyed-more =
      record {
        keys = simp length-set t.keys;
        room = simp length-set t.room;
        head = λ j h.
            ⊎_elim
            (λ q. subst (λ (i : ℕ). Last f i (n + 1) (get_or (set heads k (n + 1)) i 0)) (eqb-true k j q) head-same)
            (λ q. head-other j h (eqb-false k j q))
            (decide (eqb k j));
        next = λ e h.
            ⊎_elim
            (λ s. next-other e s)
            (λ s.
            let there : n ≡ e = omega arith in
            subst (λ (i : ℕ). Last f (key_of (f i)) i (get_or (set links n (get_or heads k 0)) i 0)) there next-same)
            (side n e);
      }

  pub keyed_entered : (heads' links' : List ℕ) → heads' ≡ set heads k (n + 1) → links' ≡ set links n (get_or heads k 0) → Keyed f (n + 1) heads' links'
  keyed_entered heads' links' p q =
      subst (λ (l : List ℕ). Keyed f (n + 1) heads' l) (sym q)
      (subst (λ (l : List ℕ). Keyed f (n + 1) l (set links n (get_or heads k 0))) (sym p) keyed-more)

pub keyed-count : (f : ℕ → List ℤ) (n j : ℕ) (heads links : List ℕ) → n ≡ j → Keyed f n heads links → Keyed f j heads links
keyed-count f n j heads links e t = subst (λ (i : ℕ). Keyed f i heads links) e t

-- a tuple among the first entries: entries that are the same, and entries behind others
pub among_same : (f g : ℕ → List ℤ) (τ : List ℤ) (n : ℕ) → ((e : ℕ) → e < n → f e ≡ g e) → among_first f τ n ≡ among_first g τ n
unfolding among_first
among_same f g τ zero eq = refl
among_same f g τ (suc n) eq =
    ap₂ (λ (a b : Bool). a || b) (ap (equal_all τ) (eq n (omega arith))) (among_same f g τ n (λ e h. eq e (omega arith)))

or_swap : (a b c : Bool) → (a || (b || c)) ≡ (b || (a || c))
or_swap true true c = refl
or_swap true false c = refl
or_swap false b c = refl

pub among_both : (f : ℕ → List ℤ) (τ : List ℤ) (m n : ℕ) → among_first f τ (m + n) ≡ (among_first f τ m || among_first (λ j. f (m + j)) τ n)
unfolding among_first
among_both f τ m zero = ap (among_first f τ) (add-zero m) ∙ or_none (among_first f τ m)
among_both f τ m (suc n) =
    ap (among_first f τ) (add-suc m n)
    ∙ ap (λ (b : Bool). equal_all τ (f (m + n)) || b) (among_both f τ m n)
    ∙ or_swap (equal_all τ (f (m + n))) (among_first f τ m) (among_first (λ j. f (m + j)) τ n)

-- the walk along the entries with the key of a tuple: what is left are the entries below a link
pub record Walking (f : ℕ → List ℤ) (τ : List ℤ) (n link : ℕ) : Type 0 where
  pub few : link ≤ n
  pub same : (e : ℕ) → link ≡ e + 1 → key_of (f e) ≡ key_of τ
  pub left : among_first f τ n ≡ among_first f τ link

module _ (f : ℕ → List ℤ) (τ : List ℤ) where
  -- a tuple with another key is another tuple
  unequal : (σ : List ℤ) → (key_of σ ≡ key_of τ → ⊥) → equal_all τ σ ≡ false
  unequal σ n = ⊎_elim (λ q. absurd (n (ap (key_from 0) (sym (equal_all-true τ σ q))))) (λ q. q) (decide (equal_all τ σ))

  skip_of : (d x : ℕ) → ((e : ℕ) → x ≤ e → e < x + d → key_of (f e) ≡ key_of τ → ⊥) → among_first f τ (x + d) ≡ among_first f τ x
  unfolding among_first
  skip_of zero x other = ap (among_first f τ) (add-zero x)
  skip_of (suc d) x other =
      ap (among_first f τ) (add-suc x d)
      ∙ ap (λ (b : Bool). b || among_first f τ (x + d)) (unequal (f (x + d)) (other (x + d) (omega arith) (omega arith)))
      ∙ skip_of d x (λ e h l. other e h (omega arith))

  -- the entries behind a link to the last one of the key are passed over
  skip : (n link : ℕ) → Last f (key_of τ) n link → among_first f τ n ≡ among_first f τ link
  skip n link l =
      let all : n ≡ link + (n - link) = omega (arith, l.few) in
      ap (among_first f τ) all ∙ skip_of (n - link) link (λ e h b. l.others e h (omega arith))

  module _ (n : ℕ) (heads links : List ℕ) (t : Keyed f n heads links) where
    pub walking_first : (k : ℕ) → k ≡ key_of τ → Walking f τ n (get_or heads k 0)
    walking_first k e =
        let l : Last f (key_of τ) n (get_or heads k 0) = subst (λ (j : ℕ). Last f j n (get_or heads k 0)) e (t.head k (omega (arith, e, key-small 0 τ))) in
        record { few = l.few; same = l.same; left = skip n (get_or heads k 0) l }

    -- what the comparison with the next entry says
    module _ (link e : ℕ) (at : link ≡ e + 1) (w : Walking f τ n link) (r : Bool) (told : r ≡ equal_all τ (f e)) where
      walking_next : among_first f τ n ≡ (r || among_first f τ e)
      unfolding among_first
      walking_next =
          let on : link ≡ suc e = omega arith in
          w.left ∙ ap (among_first f τ) on ∙ ap (λ (b : Bool). b || among_first f τ e) (sym told)

      pub walking_found : r ≡ true → true ≡ among_first f τ n
      walking_found q = sym (walking_next ∙ ap (λ (b : Bool). b || among_first f τ e) q)

      pub walking_on : r ≡ false → Walking f τ n (get_or links e 0)
      walking_on q =
          let l : Last f (key_of τ) e (get_or links e 0) =
          subst (λ (k : ℕ). Last f k e (get_or links e 0)) (w.same e at) (t.next e (omega (arith, w.few))) in
          record {
            few = omega (arith, l.few, w.few);
            same = l.same;
            left = walking_next ∙ ap (λ (b : Bool). b || among_first f τ e) q ∙ skip e (get_or links e 0) l;
          }

    pub walking_last : (link : ℕ) → link ≡ 0 → Walking f τ n link → false ≡ among_first f τ n
    unfolding among_first
    walking_last link z w = sym (w.left ∙ ap (among_first f τ) z)

-- a table serves for no more tuples than it has entries
pub serves-few : (n : ℕ) → serves n ≡ true → n ≤ 8192
unfolding serves
serves-few n e = leb-true n 8192 (and_right (ltb 32 n) _ e)

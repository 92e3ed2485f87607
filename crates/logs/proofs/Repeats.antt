-- Question 10 at a row: the first row of the log that holds its atom is earlier, or it is the row; and a row that is the first of
-- its key repeats none.
use Prim.Native.Nat.{ℕ, zero, suc, ◌+◌, ◌*◌, ◌-◌, ◌/◌, ◌≤◌, ◌<◌}
use native.Mathlib.Nat.{zero-add, add-zero, sub-zero, eq-or-lt_of_le}
use native.Mathlib.Omega.{arith}
use mathlib.Core.Path.{◌≡◌, refl, sym, ap, ap₂, ◌∙◌}
use mathlib.Core.Bool.{Bool, true, false, ◌&&◌, ◌||◌, cond}
use mathlib.Core.List.{List, [], ◌∷◌, Memᴰ}
use mathlib.Core.Logic.{⊎_elim}
use lib.Dec.{eqb, ltb}
use borrow.Author.Tests.{eqb-true, eqb-false, eq-eqb, ne_eqb, lt-ltb, le-ltb}
use Rattle.laws.specs.Words.Tests.{decide}
use Rattle.laws.specs.Words.Standing.{at_least-value}
use lib.ListN.{length, get_or, take, drop, length-take, length-drop}
use lib.Seq.{take_all}
use lib.IntN.{ℤ, pos, negsuc}
use Rattle.model.specs.Words.{Words, word, value, at_least, equal, equal_all}
use Rattle.model.specs.Lists.{span, any}
use Rattle.model.specs.Log.{row_count, row_at, arguments, holds, same_atom}
use Rattle.laws.specs.Lists.Span.{span_mem}
use Rattle.std.specs.Prelude.{Option, Some, None}
use Rattle.chains.specs.Search.{first_row}
use Rattle.logs.specs.Log.{repeats_at}
use Rattle.chains.specs.Chain.{chain, Chained}
use Rattle.chains.specs.Key.{row_key, atom_keys}
use Rattle.chains.proofs.Chains.{link-small}
use Rattle.chains.proofs.Rows.{row_word, row-six, row-part, own_row}
use Rattle.chains.proofs.Keys.{own_key, row_small}
use Rattle.chains.proofs.Searches.{Searching, first-chain, search_first}

-- equality of numbers and of lists is symmetric
eqb-sym : (a b : ℕ) → eqb a b ≡ eqb b a
eqb-sym a b =
    ⊎_elim
    (λ e. e ∙ sym (eq-eqb b a (sym (eqb-true a b e))))
    (λ e. e ∙ sym (ne_eqb b a (λ q. eqb-false a b e (sym q))))
    (decide (eqb a b))

equal-sym : (x y : ℤ) → equal x y ≡ equal y x
unfolding equal
equal-sym (pos a) (pos b) = eqb-sym a b
equal-sym (pos a) (negsuc b) = refl
equal-sym (negsuc a) (pos b) = refl
equal-sym (negsuc a) (negsuc b) = eqb-sym a b

equal_all-sym : (xs ys : List ℤ) → equal_all xs ys ≡ equal_all ys xs
unfolding equal_all
equal_all-sym [] [] = refl
equal_all-sym [] (y ∷ ys) = refl
equal_all-sym (x ∷ xs) [] = refl
equal_all-sym (x ∷ xs) (y ∷ ys) = ap₂ (λ (a b : Bool). a && b) (equal-sym x y) (equal_all-sym xs ys)

-- a search found a row
abbrev pub is_at : (found : Option ℕ) → Bool
is_at (Some i) = true
is_at None = false

or_at : (b : Bool) (q : ℕ) (x : Bool) (f : Option ℕ) → x ≡ is_at f → (b || x) ≡ is_at (cond b (Some q) f)
or_at true q x f e = refl
or_at false q x f e = e

-- a row holds the atom of another row whose predicate is a number exactly if it has the same atom
module _ (log : Words) (r : ℕ) (within : 8 * r + 8 ≤ length log) (number : at_least 0 (word log (8 * r)) ≡ true) where
  same-holds :
      (q : ℕ) → q < r →
      same_atom (row_at log r) (row_at log q) ≡ holds (value log (8 * r)) (arguments (row_at log r)) (row_at log q)
  unfolding same_atom holds value
  same-holds q h =
      ap₂ (λ (a b : Bool). a && b)
      (equal-sym (word (row_at log r) 0) (word (row_at log q) 0)
      ∙ ap (equal (word (row_at log q) 0))
      (row_word log r 0 (omega arith) ∙ ap (word log) (add-zero (8 * r)) ∙ (at_least-value 0 (word log (8 * r)) number).0))
      (equal_all-sym (arguments (row_at log r)) (arguments (row_at log q))
      ∙ ap (λ (l : List ℤ). equal_all l (arguments (row_at log r)))
      (sym (take_all (length (arguments (row_at log r))) (arguments (row_at log q))
      (omega (arith, row-six log r within, row-six log q (omega arith))))))

  any-first :
      (qs : List ℕ) →
      ((q : ℕ) → Memᴰ q qs → q < r) →
      any (λ earlier. same_atom (row_at log r) (row_at log earlier)) qs
      ≡ is_at (first_row log (value log (8 * r)) (arguments (row_at log r)) qs)
  unfolding any first_row
  any-first [] h = refl
  any-first (q ∷ qs) h =
      rw (same-holds q (h q (Memᴰ.head refl)))
      (or_at (holds (value log (8 * r)) (arguments (row_at log r)) (row_at log q)) q _
      (first_row log (value log (8 * r)) (arguments (row_at log r)) qs)
      (any-first qs (λ k m. h k (Memᴰ.tail m))))

  pub repeats_search :
      {f : Option ℕ} →
      f ≡ first_row log (value log (8 * r)) (take 6 (drop (8 * r + 2) log)) (span 0 r) →
      repeats_at log r ≡ is_at f
  unfolding repeats_at
  repeats_search e =
      any-first (span 0 r) (λ q m. let k = (span_mem 0 r m).1 in omega (arith, zero-add r))
      ∙ ap is_at (sym (e ∙ ap (λ (ns : List ℤ). first_row log (value log (8 * r)) ns (span 0 r)) (row-part log r)))

-- the row that a search found is earlier than a row
abbrev pub earlier : (r : ℕ) (found : Option ℕ) → Bool
earlier r (Some q) = ltb q r
earlier r None = false

-- a search through rows up to one that holds the atom, and through those before that row
first-before :
    (log : Words) (p : ℕ) (ns : List ℤ) (r n i : ℕ) →
    i ≤ r →
    r < i + n →
    holds p ns (row_at log r) ≡ true →
    is_at (first_row log p ns (span i (r - i))) ≡ earlier r (first_row log p ns (span i n))
unfolding first_row span
first-before log p ns r zero i l h k = absurd (omega arith)
first-before log p ns r (suc n) i l h k =
    ⊎_elim
    (λ e.
    let none : r - i ≡ 0 = omega arith in
    let here : holds p ns (row_at log i) ≡ true = ap (λ (q : ℕ). holds p ns (row_at log q)) e ∙ k in
    rw (none, here) (sym (le-ltb i r (omega arith))))
    (λ l.
    let more : r - i ≡ suc (r - suc i) = omega arith in
    let later : r < suc i + n = omega arith in
    let ih = first-before log p ns r n (suc i) l later k in
    rw more (go l (holds p ns (row_at log i)) ih))
    (eq-or-lt_of_le l)
  where
    go :
        i < r → (b : Bool) →
        is_at (first_row log p ns (span (suc i) (r - suc i))) ≡ earlier r (first_row log p ns (span (suc i) n)) →
        is_at (cond b (Some i) (first_row log p ns (span (suc i) (r - suc i)))) ≡ earlier r (cond b (Some i) (first_row log p ns (span (suc i) n)))
    go l true ih = sym (lt-ltb i r l)
    go l false ih = ih

-- an earlier row repeats a row's atom exactly if the first row of the log that holds it is earlier
module _ (log : Words) (r : ℕ) (inside : r < row_count log) (number : at_least 0 (word log (8 * r)) ≡ true) where
  pub repeats-first :
      {f : Option ℕ} →
      f ≡ first_row log (value log (8 * r)) (take 6 (drop (8 * r + 2) log)) (span 0 (row_count log)) →
      repeats_at log r ≡ earlier r f
  unfolding row_count
  repeats-first e =
      let p = value log (8 * r) in
      let ns = arguments (row_at log r) in
      repeats_search log r (omega arith) number refl
      ∙ ap (λ (l : List ℤ). is_at (first_row log p l (span 0 r))) (row-part log r)
      ∙ ap (λ (k : ℕ). is_at (first_row log p ns (span 0 k))) (sym (sub-zero r))
      ∙ first-before log p ns r (length log / 8) 0 (omega arith) (omega arith) (own_row log r inside number)
      ∙ ap (earlier r) (sym (e ∙ ap (λ (l : List ℤ). first_row log p l (span 0 (length log / 8))) (row-part log r)))

-- the chain of a row's own key: its link, and that the first row of it repeats no earlier one
module _ (log : Words) (links : List ℕ) (c : Chained (row_key log) atom_keys (row_count log) links) (row k : ℕ) (own : k ≡ row_key log row) where
  small : k < atom_keys
  small = let b = row_small log row in omega arith

  pub own-link : get_or links k 0 ≤ row_count log
  own-link =
      let b = link-small (row_key log) k 0 (row_count log) (get_or links k 0) (c.heads k small) in
      omega arith

  module _ (inside : row < row_count log) (number : at_least 0 (word log (8 * row)) ≡ true) where
    abbrev own-predicate : ℕ
    own-predicate = value log (8 * row)

    abbrev own-arguments : List ℤ
    own-arguments = take 6 (drop (8 * row + 2) log)

    own_search : Searching log own-predicate own-arguments k (row_count log) 0 (get_or links k 0)
    unfolding row_count
    own_search = record {
      linked = c.heads k small;
      left = first-chain log own-predicate own-arguments (simp (length-take, length-drop) (omega (arith, inside))) (row_count log) (omega arith)
          ∙ ap (λ (j : ℕ). first_row log own-predicate own-arguments (chain (row_key log) j 0 (row_count log))) (sym (own ∙ own_key log row inside number));
    }

    pub own_first : row_count log - get_or links k 0 ≡ row → repeats_at log row ≡ false
    own_first e =
        repeats-first log row inside number
        (search_first own_search (λ z. omega arith) row e
        (ap (λ (ns : List ℤ). holds own-predicate ns (row_at log row)) (row-part log row) ∙ own_row log row inside number))
        ∙ le-ltb row row (omega arith)

-- Question 9 at a row: its unused arguments, and its tests one by one.
use Prim.Native.Nat.{ℕ, ◌+◌, ◌*◌, ◌≤◌, ◌<◌, max}
use native.Mathlib.Numerals.{add-one}
use native.Mathlib.Omega.{arith}
use mathlib.Core.Path.{◌≡◌, refl, ap}
use mathlib.Core.Bool.{Bool, true, false, ◌&&◌}
use mathlib.Core.Logic.{⊎_elim}
use lib.Dec.{leb}
use borrow.Author.Tests.{le-leb, lt-leb}
use Rattle.laws.specs.Words.Tests.{and_left}
use lib.ListN.{length, get_or, drop_of_length-le, length-drop}
use lib.Seq.{drop-cons, get_or-drop}
use lib.IntN.{pos}
use lib.Signed.{le_z}
use Rattle.model.specs.Words.{Words, word, value, at_least, within, below, equal}
use Rattle.model.specs.Table.{predicates, arity}
use Rattle.model.specs.Lists.{all}
use Rattle.model.specs.Log.{row_at, arguments, good_row}
use Rattle.laws.specs.Lists.Span.{side}
use Rattle.logs.specs.Log.{unused_from}
use Rattle.chains.proofs.Rows.{row_first}

-- the arguments of a row's words, from one index on
argument_of : (row : Words) (i : ℕ) → get_or (arguments row) i (pos 0) ≡ word row (2 + i)
unfolding arguments word
argument_of row i = get_or-drop 2 row i (pos 0)

module _ (row : Words) (h : length row ≡ 8) (i : ℕ) where
  six : length (arguments row) ≡ 6
  unfolding arguments
  six = simp length-drop (omega arith)

  unused-cons : i < 6 → unused_from row i ≡ (equal (word row (2 + i)) (pos 0) && unused_from row (i + 1))
  unfolding unused_from all
  unused-cons k =
      rw (drop-cons (arguments row) i (pos 0) (rw six k), argument_of row i, add-one i) refl

  unused_end : 6 ≤ i → unused_from row i ≡ true
  unfolding unused_from all
  unused_end k = rw (drop_of_length-le (arguments row) {i = i} (rw six k))

-- the arguments from the n-th on, looked at from the first argument on: `used` is the index behind the last one so far that is
-- not 0
pub unused-start : (row : Words) (n : ℕ) → unused_from row n ≡ (leb 0 n && unused_from row (max n 0))
unused-start row n = let e : n ≡ max n 0 = omega arith in rw (le-leb 0 n (omega arith)) (ap (unused_from row) e)

and-true : (a : Bool) → (a && true) ≡ a
and-true true = refl
and-true false = refl

and-false : (a : Bool) → (a && false) ≡ false
and-false true = refl
and-false false = refl

module _ (row : Words) (h : length row ≡ 8) (n i used : ℕ) where
  pub unused-zero :
      i < 6 →
      equal (word row (2 + i)) (pos 0) ≡ true →
      (leb used n && unused_from row (max n i)) ≡ (leb used n && unused_from row (max n (i + 1)))
  unused-zero k e =
      ⊎_elim
      (λ l. let same : max n i ≡ max n (i + 1) = omega arith in rw same)
      (λ l.
      let here : max n i ≡ i = omega arith in
      let next : max n (i + 1) ≡ i + 1 = omega arith in
      rw (here, next, unused-cons row h i k, e))
      (side n i)

  pub unused-word :
      i < 6 →
      used ≤ i →
      equal (word row (2 + i)) (pos 0) ≡ false →
      (leb used n && unused_from row (max n i)) ≡ (leb (i + 1) n && unused_from row (max n (i + 1)))
  unused-word k b e =
      ⊎_elim
      (λ l. let same : max n i ≡ max n (i + 1) = omega arith in rw (same, le-leb used n (omega arith), le-leb (i + 1) n (omega arith)))
      (λ l. let here : max n i ≡ i = omega arith in rw (here, lt-leb (i + 1) n (omega arith), unused-cons row h i k, e) (and-false (leb used n)))
      (side n i)

  pub unused-last : 6 ≤ i → (leb used n && unused_from row (max n i)) ≡ leb used n
  unused-last k = rw (unused_end row h (max n i) (omega arith)) (and-true (leb used n))

-- question 9, test by test
module _ (table row : Words) where
  pub good-first : below (predicates table) (word row 0) ≡ false → false ≡ good_row table row
  unfolding good_row
  good-first e = rw e

  pub good-second : below (predicates table) (word row 0) ≡ true → within 0 1 (word row 1) ≡ false → false ≡ good_row table row
  unfolding good_row
  good-second e f = rw (e, f)

  pub good-third :
      below (predicates table) (word row 0) ≡ true →
      within 0 1 (word row 1) ≡ true →
      unused_from row (arity table (value row 0)) ≡ good_row table row
  unfolding good_row unused_from
  good-third e f = rw (e, f)

-- the predicate of a good row is a number
module _ (table log : Words) (r : ℕ) where
  pub good-number : good_row table (row_at log r) ≡ true → at_least 0 (word log (8 * r)) ≡ true
  unfolding good_row below at_least
  good-number e =
      let first : below (predicates table) (word (row_at log r) 0) ≡ true = and_left _ _ (and_left _ _ e) in
      let word_first : le_z (pos 0) (word (row_at log r) 0) ≡ true = and_left _ _ first in
      rw (row_first log r) at word_first

-- Rows of a log by index: a row's words and arguments, and its atom compared argument by argument.
use Prim.Native.Nat.{ℕ, suc, ◌+◌, ◌*◌, ◌-◌, ◌≤◌, ◌<◌}
use native.Mathlib.Nat.{add-zero, sub-zero, add_assoc}
use native.Mathlib.Numerals.{add-one}
use native.Mathlib.Omega.{arith}
use mathlib.Core.Path.{◌≡◌, refl, sym, ap, ◌∙◌}
use mathlib.Core.Bool.{Bool, true, false, ◌&&◌}
use mathlib.Core.List.{List}
use Rattle.laws.specs.Words.Standing.{at_least-value}
use lib.ListN.{length, get_or, take, drop, drop_of_length-le, length-take, length-drop}
use lib.Seq.{drop-cons, drop-drop, get_or-drop, get_or-take, take-take, take_all}
use lib.IntN.{ℤ, pos, nat_abs}
use Rattle.model.specs.Words.{Words, word, value, at_least, equal, equal_all}
use Rattle.model.specs.Log.{row_count, row_at, arguments, holds}
use Rattle.laws.specs.Lists.Span.{drop-take}
use Rattle.laws.specs.Log.{holds_intro}

-- the words of a row stand in the log
pub row_word : (log : Words) (r i : ℕ) → i < 8 → word (row_at log r) i ≡ word log (8 * r + i)
unfolding word row_at
row_word log r i h = get_or-take 8 (drop (8 * r) log) i (pos 0) h ∙ get_or-drop (8 * r) log i (pos 0)

pub row_first : (log : Words) (r : ℕ) → word (row_at log r) 0 ≡ word log (8 * r)
row_first log r = row_word log r 0 (omega arith) ∙ ap (word log) (add-zero (8 * r))

pub row-arguments : (log : Words) (r n : ℕ) → n ≤ 6 → take n (arguments (row_at log r)) ≡ take n (drop (8 * r + 2) log)
unfolding arguments row_at
row-arguments log r n h =
    ap (take n) (drop-take 2 6 (drop (8 * r) log) ∙ ap (take 6) (drop-drop 2 (8 * r) log))
    ∙ take-take n 6 (drop (8 * r + 2) log) h

-- a row with the atom's predicate holds the atom exactly if its first arguments are the atom's
pub holds-here :
    (log : Words) (p : ℕ) (ns : List ℤ) (r : ℕ) →
    length ns ≤ 6 →
    equal (word log (8 * r)) (pos p) ≡ true →
    holds p ns (row_at log r) ≡ equal_all (take (length ns) (drop (8 * r + 2) log)) ns
unfolding holds
holds-here log p ns r h e =
    rw (row_word log r 0 (omega arith), add-zero (8 * r), e)
    (ap (λ (l : List ℤ). equal_all l ns) (row-arguments log r (length ns) h))

pub holds_not : (log : Words) (p : ℕ) (ns : List ℤ) (r : ℕ) → equal (word log (8 * r)) (pos p) ≡ false → holds p ns (row_at log r) ≡ false
unfolding holds
holds_not log p ns r e = rw (row_word log r 0 (omega arith), add-zero (8 * r), e)

-- two lists compared from an index on: b is where the first begins in the log
abbrev pub Rest : (log : Words) (b : ℕ) (ns : List ℤ) (i : ℕ) → Bool
Rest log b ns i = equal_all (take (length ns - i) (drop (b + i) log)) (drop i ns)

module _ (log : Words) (b : ℕ) (ns : List ℤ) (i : ℕ) where
  pub rest-start : Rest log b ns 0 ≡ equal_all (take (length ns) (drop b log)) ns
  rest-start = rw (sub-zero (length ns), add-zero b)

  rest-cons : i < length ns → b + i < length log → Rest log b ns i ≡ (equal (word log (b + i)) (word ns i) && Rest log b ns (i + 1))
  unfolding equal_all word
  rest-cons h k =
      rw (drop-cons ns i (pos 0) h, drop-cons log (b + i) (pos 0) k)
      (let e : length ns - i ≡ suc (length ns - (i + 1)) = omega arith in
      rw e (rw (← add-one (b + i), ← add-one i, add_assoc b i 1) refl))

  pub rest-step : i < length ns → b + i < length log → equal (word log (b + i)) (word ns i) ≡ true → Rest log b ns i ≡ Rest log b ns (i + 1)
  rest-step h k e = rest-cons h k ∙ ap (λ (x : Bool). x && Rest log b ns (i + 1)) e

  pub rest-stop : i < length ns → b + i < length log → equal (word log (b + i)) (word ns i) ≡ false → Rest log b ns i ≡ false
  rest-stop h k e = rest-cons h k ∙ ap (λ (x : Bool). x && Rest log b ns (i + 1)) e

  pub rest_end : length ns ≤ i → Rest log b ns i ≡ true
  unfolding equal_all
  rest_end h = let e : length ns - i ≡ 0 = omega arith in rw (e, drop_of_length-le ns h)

-- a row within the log has six arguments, and they stand behind its first two words
pub row-six : (log : Words) (r : ℕ) → 8 * r + 8 ≤ length log → length (arguments (row_at log r)) ≡ 6
unfolding arguments row_at
row-six log r h = simp (length-drop, length-take) (omega arith)

pub argument_word : (log : Words) (r i : ℕ) → i < 6 → get_or (arguments (row_at log r)) i (pos 0) ≡ word log (8 * r + 2 + i)
unfolding arguments row_at word
argument_word log r i h =
    get_or-drop 2 (take 8 (drop (8 * r) log)) i (pos 0)
    ∙ get_or-take 8 (drop (8 * r) log) (2 + i) (pos 0) (omega arith)
    ∙ get_or-drop (8 * r) log (2 + i) (pos 0)
    ∙ ap (λ (k : ℕ). get_or log k (pos 0)) (sym (add_assoc (8 * r) 2 i))

-- the six arguments of a row, as a part of the log
pub row-part : (log : Words) (r : ℕ) → take 6 (drop (8 * r + 2) log) ≡ arguments (row_at log r)
unfolding arguments row_at
row-part log r = sym (drop-take 2 6 (drop (8 * r) log) ∙ ap (take 6) (drop-drop 2 (8 * r) log))

-- a row whose predicate is a number holds its own atom
module _ (log : Words) (r : ℕ) (inside : r < row_count log) (number : at_least 0 (word log (8 * r)) ≡ true) where
  pub own_row : holds (value log (8 * r)) (arguments (row_at log r)) (row_at log r) ≡ true
  unfolding value
  own_row =
      holds_intro (nat_abs (word log (8 * r))) (arguments (row_at log r)) (row_at log r)
      (row_first log r ∙ (at_least-value 0 (word log (8 * r)) number).0)
      (take_all (length (arguments (row_at log r))) (arguments (row_at log r)) (omega arith))

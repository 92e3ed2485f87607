-- The value of an atom by the row that a search for it found: the search finds the row that decides the atom.
use Prim.Native.Nat.{ℕ, zero, suc, ◌+◌, ◌*◌, ◌-◌, ◌≤◌, ◌<◌}
use native.Mathlib.Omega.{arith}
use mathlib.Core.Path.{◌≡◌, refl, sym, ap, ◌∙◌}
use mathlib.Core.Logic.{⊎_elim}
use mathlib.Core.Bool.{Bool, true, false, cond}
use mathlib.Core.List.{List, [], ◌∷◌, ◌++◌, map}
use lib.ListN.{length, replicate, length-append, length-replicate}
use lib.IntN.{ℤ, pos}
use Rattle.model.specs.Words.{Words, word, equal}
use Rattle.model.specs.Lists.{span}
use Rattle.model.specs.Answer.{passed}
use Rattle.model.specs.Table.{arity, complete}
use Rattle.model.specs.Log.{Value, known, unknown, row_count, row_at, rows, says_true, holds, ask_log, value_in}
use Rattle.laws.specs.Words.Tests.{decide}
use Rattle.laws.specs.Log.{value-filled}
use Rattle.std.specs.Prelude.{Option, Some, None}
use Rattle.chains.specs.Search.{first_row}
use Rattle.chains.proofs.Keys.{says}

-- the value that the row found gives an atom: the row's truth; with no row, false if the predicate is complete, else unknown
unfoldable pub value_by : Words → Words → ℕ → Option ℕ → Value
value_by table log p (Some r) = known (says_true (row_at log r))
value_by table log p None = cond (complete table p) (known false) unknown

by_test : (b : Bool) (table log : Words) (p r : ℕ) (v : Value) (f : Option ℕ) → v ≡ value_by table log p f → cond b (known (says_true (row_at log r))) v ≡ value_by table log p (cond b (Some r) f)
unfolding value_by
by_test true table log p r v f e = refl
by_test false table log p r v f e = e

rows-value :
    (table log : Words) (p : ℕ) (ns : List ℤ) (rs : List ℕ) →
    value_in table (map (row_at log) rs) p ns ≡ value_by table log p (first_row log p ns rs)
unfolding value_in first_row value_by
rows-value table log p ns [] = refl
rows-value table log p ns (r ∷ rs) =
    by_test (holds p ns (row_at log r)) table log p r
    (value_in table (map (row_at log) rs) p ns)
    (first_row log p ns rs)
    (rows-value table log p ns rs)

-- a row found is a row of the log
pub first-inside : (log : Words) (p : ℕ) (ns : List ℤ) (q n i : ℕ) → first_row log p ns (span i n) ≡ Some q → q < i + n
unfolding first_row span
first-inside log p ns q zero i e = let z : ◌≡◌ {A = ℕ} 0 1 = cc in absurd (omega arith)
first-inside log p ns q (suc n) i e =
    ⊎_elim
    (λ h. let same : Some i ≡ Some q = rw h at e in let k : i ≡ q = cc in omega arith)
    (λ h. let b = first-inside log p ns q n (suc i) (rw h at e) in omega arith)
    (decide (holds p ns (row_at log i)))

-- the search through all rows finds the row that decides the atom
pub search_value :
    (table log : Words) (p : ℕ) (ns : List ℤ) →
    value_in table (rows log) p ns ≡ value_by table log p (first_row log p ns (span 0 (row_count log)))
unfolding rows
search_value table log p ns = rows-value table log p ns (span 0 (row_count log))

module _ (table log : Words) (p : ℕ) where
  -- an atom's arguments are its numbers, filled up to six with 0: its value is that of the row that holds them
  pub value_found :
      ask_log table log ≡ passed tt →
      (given : List ℤ) →
      length given ≡ 6 →
      {f : Option ℕ} {v : Value} →
      f ≡ first_row log p given (span 0 (row_count log)) →
      value_by table log p f ≡ v →
      (ns : List ℤ) →
      length ns ≡ arity table p →
      given ≡ ns ++ replicate (6 - length ns) (pos 0) →
      v ≡ value_in table (rows log) p ns
  value_found ok given six e is ns long filled =
      let few : length ns ≤ 6 =
      omega (arith, ap length filled ∙ length-append ns (replicate (6 - length ns) (pos 0)), length-replicate (6 - length ns) (pos 0)) in
      sym
      (value-filled table log p ns ok long few
      ∙ ap (value_in table (rows log) p) (sym filled)
      ∙ search_value table log p given
      ∙ ap (value_by table log p) (sym e)
      ∙ is)

  -- what the row says; with no row, what completeness says
  pub by_row : {f : Option ℕ} (r : ℕ) (b : Bool) → f ≡ Some r → equal (word log (8 * r + 1)) (pos 1) ≡ b → value_by table log p f ≡ known b
  unfolding value_by
  by_row r b e s = ap (value_by table log p) e ∙ ap known (says log r ∙ s)

  pub by_complete : {f : Option ℕ} → f ≡ None → complete table p ≡ true → value_by table log p f ≡ known false
  unfolding value_by
  by_complete e s = ap (value_by table log p) e ∙ rw s

  pub by_nothing : {f : Option ℕ} → f ≡ None → complete table p ≡ false → value_by table log p f ≡ unknown
  unfolding value_by
  by_nothing e s = ap (value_by table log p) e ∙ rw s

-- `tables::table::index` meets its contract: past the end of the table both words are 0.
use Prim.Native.Nat.{ℕ, ◌+◌, ◌*◌, ◌≤◌}
use native.Mathlib.Omega.{arith}
use mathlib.Core.Path.{◌≡◌, sym, ◌∙◌}
use lib.ListN.{length, get_or-eq_default}
use lib.IntN.{pos}
use Rattle.model.specs.Words.{Words, record_words, word}
use Rattle.tables.proofs.table.index.Goals as goal

-- the word at an index past the end
past : (words : Words) (i : ℕ) → length words ≤ i → word words i ≡ pos 0
unfolding word
past words i h = get_or-eq_default words (pos 0) h

no_record : (table : Words) (p k : ℕ) → length table ≤ p → word table p ≡ word table (record_words * p + k)
no_record table p k h = past table p h ∙ sym (past table (record_words * p + k) (omega arith))

pub returns-then-table-p : goal.returns-then-table-p
returns-then-table-p c = let a = c.args in no_record a.table.now a.p a.k c.if-table-p.true

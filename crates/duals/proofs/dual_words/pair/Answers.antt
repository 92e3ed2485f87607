-- `duals::dual_words::pair` meets its contract, tag by tag.
use Prim.Native.Nat.{ℕ, ◌+◌, ◌≤◌}
use native.Mathlib.Nat.{add-zero}
use native.Mathlib.Omega.{arith}
use mathlib.Core.Path.{◌≡◌, ap, ◌∙◌}
use mathlib.Core.Bool.{Bool, true, false, not, cond}
use lib.IntN.{ℤ, pos}
use mir.Syntax.{w32}
use mir.Val.{SFits, to_z, of_z, bool_byte}
use mir.Facts.{to_z-of_z}
use Rattle.std.specs.Prelude.{◌+ℤ◌}
use Rattle.laws.specs.Words.Standing.{code}
use Rattle.duals.specs.Dual.{paired}
use Rattle.duals.proofs.dual_words.pair.Goals as goal

-- a small number is stored as it is
stored : (n : ℕ) → n ≤ 11 → to_z w32 (of_z w32 (pos n)) ≡ pos n
stored n h = let fits : SFits w32 (pos n) = record { sfits = omega arith } in to_z-of_z (fits)

-- the second of a pair is one more than the first
second : (b : Bool) (k : ℕ) (r : ℤ) → k ≤ 10 → r ≡ pos (bool_byte b) → to_z w32 (of_z w32 (pos k +ℤ to_z w32 (of_z w32 r))) ≡ pos (cond (not b) k (k + 1))
second true k r h e = ap (λ (z : ℤ). to_z w32 (of_z w32 (pos k +ℤ to_z w32 (of_z w32 z)))) e ∙ stored (k + 1) (omega arith)
second false k r h e = ap (λ (z : ℤ). to_z w32 (of_z w32 (pos k +ℤ to_z w32 (of_z w32 z)))) e ∙ ap (λ (n : ℕ). to_z w32 (of_z w32 (pos n))) (add-zero k) ∙ stored k (omega arith)

first : (b : Bool) (r : ℤ) → r ≡ pos (bool_byte b) → to_z w32 (of_z w32 r) ≡ pos (cond b 1 0)
first true r e = ap (λ (z : ℤ). to_z w32 (of_z w32 z)) e
first false r e = ap (λ (z : ℤ). to_z w32 (of_z w32 z)) e

pub returns-in-Plain : goal.returns-in-Plain
unfolding code paired
returns-in-Plain c = rw c.in-Plain.is (first (not c.in-Plain.b) _ c.from.ensures)

pub returns-in-Atom : goal.returns-in-Atom
unfolding code paired
returns-in-Atom c = rw c.in-Atom.is (second c.in-Atom.b 2 _ (omega arith) c.from-in-Atom.ensures)

pub returns-in-Compare : goal.returns-in-Compare
unfolding code paired
returns-in-Compare c = rw c.in-Compare.is (second c.in-Compare.b 4 _ (omega arith) c.from-in-Compare.ensures)

pub returns-in-Join : goal.returns-in-Join
unfolding code paired
returns-in-Join c = rw c.in-Join.is (second c.in-Join.b 6 _ (omega arith) c.from-in-Join.ensures)

pub returns-in-Quantifier : goal.returns-in-Quantifier
unfolding code paired
returns-in-Quantifier c = rw c.in-Quantifier.is (second c.in-Quantifier.b 8 _ (omega arith) c.from-in-Quantifier.ensures)

pub returns-in-Some : goal.returns-in-Some
unfolding code paired
returns-in-Some c = rw c.in-Some.is

pub returns-in-Unused : goal.returns-in-Unused
unfolding code paired
returns-in-Unused c = rw c.in-Unused.is

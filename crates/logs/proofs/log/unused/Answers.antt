-- `logs::log::unused` meets its contract. The invariant: the test comes to whether the arguments that are not 0 so far stand
-- before the n-th, and the test of those from i on that are unused.
use Prim.Native.Nat.{ℕ, ◌+◌, max}
use native.Mathlib.Omega.{arith}
use mathlib.Core.Path.{sym, ap, ◌∙◌}
use mathlib.Core.Bool.{◌&&◌}
use lib.Dec.{leb}
use Rattle.logs.specs.Log.{unused_from}
use Rattle.logs.proofs.Rows.{unused-zero, unused-word, unused-last}
use Rattle.logs.proofs.log.unused.Goals as goal
use Rattle.logs.proofs.log.unused.Goals.{then-not-zero, else-not-zero}

pub loop-i-preserved : goal.loop-i-preserved
loop-i-preserved c =
    let a = c.args in
    elim c.if-not-zero.branch [
      | then-not-zero w ↦ let now = w.used-is in (
        omega arith,
        omega arith,
        c.loop-i.invariant.2 ∙ unused-word a.row.now c.requires a.n c.loop-i.i c.loop-i.used
            c.loop-i-test.true c.loop-i.invariant.1 (sym c.zero.ensures ∙ w.if-not-zero.true) ∙ ap
            (λ (u : ℕ). leb u a.n && unused_from a.row.now (max a.n (c.loop-i.i + 1))) (sym now),
      )
      | else-not-zero w ↦ let now = w.used-is in (
        omega arith,
        omega (arith, c.loop-i.invariant.1),
        c.loop-i.invariant.2 ∙ unused-zero a.row.now c.requires a.n c.loop-i.i
            c.loop-i.used c.loop-i-test.true (sym c.zero.ensures ∙ w.if-not-zero.false) ∙ ap
            (λ (u : ℕ). leb u a.n && unused_from a.row.now (max a.n (c.loop-i.i + 1))) (sym now),
      )
    ]

pub returns : goal.returns
returns c =
    let a = c.args in
    sym (c.loop-i.invariant.2 ∙ unused-last a.row.now c.requires a.n c.loop-i.i c.loop-i.used c.loop-i-test.false)

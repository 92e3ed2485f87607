-- `words::negative` meets its contract: past the end stands 0.
use mathlib.Core.Path.{◌≡◌, ap, sym}
use borrow.Author.Rules.{rules}
use lib.ListN.{get_or, get_or-eq_default}
use lib.IntN.{ℤ, pos}
use lib.Signed.{lt_z}
use mir.Syntax.{w32}
use mir.Val.{to_z, of_z}
use Rattle.model.specs.Words.{word}
use Rattle.words.proofs.negative.Goals as goal

pub returns-then-i-s : goal.returns-then-i-s
unfolding word
returns-then-i-s c =
    let z = get_or c.args.s.now c.args.i (pos 0) in
    let back : to_z w32 (of_z w32 z) ≡ z = search rules in
    ap (λ (x : ℤ). lt_z x (pos 0)) back

pub returns-else-i-s : goal.returns-else-i-s
unfolding word
returns-else-i-s c = ap (λ (z : ℤ). lt_z z (pos 0)) (sym (get_or-eq_default c.args.s.now (pos 0) c.if-i-s.false))

-- `words::value` meets its contract: past the end stands 0.
use mathlib.Core.Path.{◌≡◌, ◌∙◌, ap, sym}
use borrow.Author.Rules.{rules}
use lib.ListN.{get_or, get_or-eq_default}
use lib.IntN.{pos, nat_abs}
use mir.Syntax.{w32}
use mir.Val.{to_z, of_z}
use Rattle.model.specs.Words.{word, value}
use Rattle.words.proofs.value.Goals as goal

pub returns-then-i-s : goal.returns-then-i-s
unfolding word value
returns-then-i-s c =
    let z = get_or c.args.s.now c.args.i (pos 0) in
    let back : to_z w32 (of_z w32 z) ≡ z = search rules in
    c.magnitude.ensures ∙ ap nat_abs back

pub returns-else-i-s : goal.returns-else-i-s
unfolding word value
returns-else-i-s c = ap nat_abs (sym (get_or-eq_default c.args.s.now (pos 0) c.if-i-s.false))

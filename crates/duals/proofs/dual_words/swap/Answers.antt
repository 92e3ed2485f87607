-- `duals::dual_words::swap` meets its contract. The loop's invariant: words of the dual, then the old words, where the formulas that are
-- left stand.
use native.Mathlib.Omega.{arith}
use mathlib.Core.Path.{◌≡◌, ◌∙◌}
use borrow.Author.Rules.{rules}
use mir.Syntax.{w32}
use mir.Val.{to_z, of_z}
use Rattle.duals.proofs.DualSwap.{front_long, swap_start, swap_word, swap_ahead, swap_fits, swap_more, swap_end}
use Rattle.duals.proofs.dual_words.swap.Goals as goal

pub loop-walk-init : goal.loop-walk-init
loop-walk-init c = swap_start c.args.words.now _ c.args.buffer.now c.requires.0 _ c.new-walk.ensures

pub bounds-buffer-walk : goal.bounds-buffer-walk
bounds-buffer-walk c =
    let there = swap_word _ _ c.loop-walk.walk c.loop-walk.buffer c.loop-walk-test.true c.loop-walk.invariant c.requires.1 in
    omega (arith, front_long c.args.words.now _ c.args.buffer.now c.requires.0, c.loop-walk.auto.buffer)

pub past_kept-walk-requires : goal.past_kept-walk-requires
past_kept-walk-requires c = (
  c.tag_at-tag.ensures,
  (_, swap_ahead _ _ c.loop-walk.walk c.loop-walk.buffer c.loop-walk-test.true c.loop-walk.invariant c.requires.1),
)

pub loop-walk-smaller : goal.loop-walk-smaller
loop-walk-smaller c =
    let fits =
    swap_fits _ _ c.loop-walk.walk c.loop-walk.buffer c.loop-walk-test.true _ c.tag_at-tag.ensures _ c.past_kept-walk.ensures
    c.loop-walk.invariant c.requires.1 in
    omega arith

pub loop-walk-preserved : goal.loop-walk-preserved
loop-walk-preserved c =
    let back : to_z w32 (of_z w32 c.pair.result) ≡ c.pair.result = search rules in
    swap_more _ _ c.loop-walk.walk c.loop-walk.buffer c.loop-walk-test.true _ c.tag_at-tag.ensures _ c.past_kept-walk.ensures _
    (back ∙ c.pair.ensures) c.loop-walk.invariant

pub returns : goal.returns
returns c = swap_end _ _ c.loop-walk.walk c.loop-walk.buffer c.loop-walk-test.false c.loop-walk.invariant

-- `words::offset` meets its contract: the word read is the word passed on.
use mathlib.Core.Path.{◌≡◌, ◌∙◌, ap}
use lib.ListN.{get_or}
use lib.IntN.{pos}
use mir.Syntax.{w32}
use mir.Val.{to_z, of_z}
use Rattle.model.specs.Words.{word}
use Rattle.words.specs.Offset.{from_least}
use borrow.Author.Rules.{rules}
use Rattle.words.proofs.offset.Goals as goal

pub returns : goal.returns
unfolding word
returns c =
    let z = get_or c.args.s.now c.args.i (pos 0) in
    let back : to_z w32 (of_z w32 z) ≡ z = search rules in
    c.from_least.ensures ∙ ap from_least back

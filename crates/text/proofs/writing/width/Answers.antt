-- `text::writing::width` meets its contract, by how many of the powers of ten the number reaches.
use mathlib.Core.Path.{◌∙◌}
use lib.Dec.{leb}
use Rattle.std.proofs.Common.{rules, tests}
use Rattle.std.proofs.lemmas.Iterator.{YieldsList-from_slice}
use Rattle.std.proofs.lemmas.Iterator.Consumers.{count_from_yields_List}
use Rattle.std.proofs.lemmas.Iterator.Search.{YieldsList-from_take_while}
use Rattle.std.proofs.lemmas.List.Folds.{length-prefix_len}
use Rattle.text.proofs.WritingLaws.{powers, width_reached}
use Rattle.text.proofs.writing.width.Goals as goal

pub returns : goal.returns
returns c =
    let n = c.args.n in
    let t = c.take_while in
    width_reached n c.count.result
    (count_from_yields_List t.result _ c.count.ensures.ran
    (YieldsList-from_take_while _ (λ p. leb p n) (YieldsList-from_slice (powers 0 9) cc) t.ensures.closure t.ensures.done
    (λ x b q k. search (rules, tests)))
    ∙ length-prefix_len (λ p. leb p n) (powers 0 9))

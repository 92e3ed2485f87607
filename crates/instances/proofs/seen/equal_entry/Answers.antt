-- `instances::seen::equal_entry` meets its contract: an excluded tuple, or an instance found.
use mathlib.Core.Path.{sym, ap, ◌∙◌}
use lib.ListN.{take, drop}
use Rattle.model.specs.Words.{equal_all}
use Rattle.instances.proofs.SeenLaws.{entry_excluded, entry_found}
use Rattle.instances.proofs.seen.equal_entry.Goals as goal

pub returns-then-e-excluded : goal.returns-then-e-excluded
returns-then-e-excluded c =
    let a = c.args in
    c.equal_words.ensures ∙ ap (equal_all (take a.excluded.v (drop a.at a.scratch.now)))
    (sym
    (entry_excluded a.excluded.words.now a.excluded.from a.excluded.m a.excluded.v a.scratch.now a.start a.e c.if-e-excluded.true))

pub returns : goal.returns
returns c =
    let a = c.args in
    c.equal_words-2.ensures ∙ ap (equal_all (take a.excluded.v (drop a.at a.scratch.now)))
    (sym
    (entry_found a.excluded.words.now a.excluded.from a.excluded.m a.excluded.v a.scratch.now a.start a.e c.if-e-excluded.false))

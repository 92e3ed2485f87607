-- `text::reading::natural` meets its contract.
use mathlib.Core.Path.{sym, ◌∙◌}
use Rattle.text.proofs.ReadingLaws.{natural-at}
use Rattle.text.proofs.reading.natural.Goals as goal

pub returns-then-not-plain : goal.returns-then-not-plain
returns-then-not-plain c =
    natural-at c.args.here.now c.pass.new.self c.leading-count.result _ c.leading-count.ensures c.pass.ensures.rest c.pass.ensures.at
    (λ f. sym c.plain.ensures ∙ c.if-not-plain.true)

pub returns : goal.returns
returns c =
    natural-at c.args.here.now c.pass.new.self c.leading-count.result _ c.leading-count.ensures c.pass.ensures.rest c.pass.ensures.at
    (λ f. (sym c.plain.ensures ∙ c.if-not-plain.false, f))

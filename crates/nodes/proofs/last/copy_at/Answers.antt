-- `nodes::last::copy_at` meets its contract: the part behind the index is lent, and the copy stands at its front.
use lib.ListN.{take}
use Rattle.nodes.proofs.LastLaws.{copy_laid}
use Rattle.nodes.proofs.last.copy_at.Goals as goal

pub returns : goal.returns
returns c =
    let a = c.args in
    copy_laid a.words.now a.at a.to a.out.now (take a.scope a.environment.numbers) _ c.copy.ensures

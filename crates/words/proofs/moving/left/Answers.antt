-- `words::moving::left` meets its contract: the words moved are laid over the old ones.
use Rattle.std.proofs.Common.{refl, ◌∙◌, ◌+◌}
use Rattle.words.proofs.LayingLaws.{laid-copied}
use Rattle.words.proofs.moving.left.Goals as goal

pub returns : goal.returns
returns c =
    let a = c.args in
    c.copy_within.ensures.after ∙ laid-copied a.out.now (a.at + 2) _ a.n a.at refl c.requires

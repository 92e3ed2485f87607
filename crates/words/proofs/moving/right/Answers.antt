-- `words::moving::right` meets its contract: the words moved are laid over the old ones.
use Rattle.std.proofs.Common.{arith, ◌∙◌}
use Rattle.words.proofs.LayingLaws.{laid-copied}
use Rattle.words.proofs.moving.right.Goals as goal

pub returns : goal.returns
returns c =
    let a = c.args in
    c.copy_within.ensures.after ∙ laid-copied a.out.now 0 a.n a.n 2 (omega arith) (omega (arith, c.requires))

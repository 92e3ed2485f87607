-- `nodes::ground::compare` meets its contract: the comparison of the numbers of its terms under the outer variables.
use native.Mathlib.Omega.{arith}
use Rattle.nodes.proofs.GroundLaws.{compare_asks, reduces_compare}
use Rattle.nodes.proofs.ground.compare.Goals as goal

pub compare-requires : goal.compare-requires
compare-requires c = compare_asks _ _ _ (omega arith) c.requires

pub returns : goal.returns
returns c = reduces_compare _ _ _ _ _ c.compare.ensures

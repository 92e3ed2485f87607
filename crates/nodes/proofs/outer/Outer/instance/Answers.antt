-- `nodes::outer::Outer::instance` meets its contract.
use Rattle.nodes.proofs.GroundLaws.{outer-own}
use Rattle.nodes.proofs.outer.Outer.instance.Goals as goal

pub invariant_of-result : goal.invariant_of-result
invariant_of-result c = record {
  scopes = c.requires.0;
  bound = outer-own _ c.requires.0 (c.instance.ensures _ c.args.self.now.bound);
}

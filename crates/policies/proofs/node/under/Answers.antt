-- `policies::node::under` meets its contract, by the role.
use Rattle.model.specs.Level.{under}
use Rattle.policies.proofs.node.under.Goals as goal

pub returns-in-Restriction : goal.returns-in-Restriction
unfolding under
returns-in-Restriction c = rw c.in-Restriction.is

pub returns-in-Formula : goal.returns-in-Formula
unfolding under
returns-in-Formula c = rw c.in-Formula.is

pub returns-in-Operand : goal.returns-in-Operand
unfolding under
returns-in-Operand c = rw c.in-Operand.is

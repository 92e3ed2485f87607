-- `policies::node::in_scope` meets its contract: by the kind of the term.
use mathlib.Core.Path.{sym, ◌∙◌}
use Rattle.model.specs.Reading.{in_scope}
use Rattle.policies.proofs.node.in_scope.Goals as goal

pub returns-then-is : goal.returns-then-is
unfolding in_scope
returns-then-is c = rw (sym c.is.ensures ∙ c.if-is.true)

pub returns : goal.returns
unfolding in_scope
returns c = rw (sym c.is.ensures ∙ c.if-is.false) c.below.ensures

-- `tptp_state::state::ask_leaf` meets its contract.
use mathlib.Core.Path.{ap, ◌∙◌}
use Rattle.model.specs.Answer.{◌>>=◌}
use Rattle.model.specs.Tag.{Tag}
use Rattle.model.specs.Reading.{questions}
use Rattle.laws.specs.Answer.{passed_on}
use Rattle.policies.specs.Node.{as_role}
use Rattle.tptp_state.specs.Told.{moved}
use Rattle.tptp_state.proofs.state.ask_leaf.Goals as goal

pub returns-in_err-before : goal.returns-in_err-before
unfolding ◌>>=◌
returns-in_err-before c = rw (passed_on _ c.from_residual.ensures.1, c.in_err-before.was)

pub returns : goal.returns
unfolding ◌>>=◌
returns c =
    let a = c.args in
    rw c.in_ok-before.was
    (c.at_place.ensures ∙ ap (moved a.place)
    (c.questions-asked.ensures ∙ ap
    (λ (g : Tag). questions a.table.now a.own.now g (as_role a.role) a.above a.scope 0)
    c.tag_at-tag.ensures))

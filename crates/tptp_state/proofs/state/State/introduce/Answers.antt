-- `tptp_state::state::State::introduce` meets its contract.
use native.Mathlib.Omega.{arith}
use mathlib.Core.Path.{ap, ◌∙◌}
use mathlib.Core.Bool.{Bool}
use Rattle.model.specs.Answer.{ask, ◌>>=◌}
use Rattle.model.specs.declared.Refusal.TheVariants.{Mode}
use Rattle.tables.specs.Checked.{outcome}
use Rattle.tptp_state.proofs.StateLaws.{introduces}
use Rattle.tptp_state.proofs.state.State.introduce.Goals as goal

pub returns : goal.returns
returns c =
    let a = c.args in
    introduces a.self.now a.scope a.v _ a.w c.then_ask-self.result
    (c.then_ask-self.ensures ∙ ap (λ (b : Bool). outcome a.self.now.moded >>= λ _. ask b Mode a.w) c.introduced-bound.ensures) (omega arith)
    (omega (arith, c.if-scope-v-gt-SCOPE_LIMIT.false))

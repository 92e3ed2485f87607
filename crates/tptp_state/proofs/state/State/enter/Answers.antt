-- `tptp_state::state::State::enter` meets its contract.
use mathlib.Core.Path.{refl, ap, ◌∙◌}
use Rattle.model.specs.Answer.{Outcome, ask, ◌>>=◌}
use Rattle.model.specs.declared.Refusal.TheVariants.{Variable}
use Rattle.laws.specs.Answer.{then_assoc}
use Rattle.tables.specs.Checked.{outcome}
use Rattle.tptp_state.proofs.state.State.enter.Goals as goal

pub returns : goal.returns
returns c =
    let a = c.args in
    let before = a.self.now in
    record {
      words = c.more_words-self.ensures;
      asked =
          c.then_ask-self.ensures
          ∙ ap (λ (x : Outcome (Unit {0})). x >>= λ _. ask a.range Variable before.words) c.then_ask-leveled.ensures
          ∙ then_assoc (outcome before.asked) _ _;
      moded = refl;
      set = refl;
    }

-- `tptp_binders::binder::variable` meets its contract.
use mathlib.Core.Path.{subst}
use Rattle.model.specs.Bytes.{Text}
use Rattle.model.specs.TptpReading.{token}
use Rattle.tptp_tokens.specs.Steps.{Steps}
use Rattle.tptp_binders.proofs.BinderLaws.{variable-short}
use Rattle.tptp_binders.proofs.binder.variable.Goals as goal

pub returns-then-x-lt10 : goal.returns-then-x-lt10
returns-then-x-lt10 c =
    let a = c.args in
    subst (λ (word : Text). Steps (token word) a.here.now c.token.new.here c.token.result) (variable-short a.x c.if-x-lt10.true)
    c.token.ensures

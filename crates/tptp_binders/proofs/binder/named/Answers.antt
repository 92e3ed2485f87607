-- `tptp_binders::binder::named` meets its contract.
use mathlib.Core.Path.{subst}
use Rattle.model.specs.Bytes.{Text}
use Rattle.model.specs.TptpReading.{token}
use Rattle.tptp_tokens.specs.Steps.{Steps}
use Rattle.tptp_binders.proofs.BinderLaws.{never-full, variable-word}
use Rattle.tptp_binders.proofs.binder.named.Goals as goal

pub returns-in_default : goal.returns-in_default
returns-in_default c = absurd (never-full c.args.x c.args.word.now c.requires.0 c.in_default.ensures)

pub returns : goal.returns
returns c =
    let a = c.args in
    subst (λ (word : Text). Steps (token word) a.here.now c.token.new.here c.token.result)
    (variable-word a.x c.in-Some.n a.word.now c.put_natural-put.new.out c.requires.1 c.in-Some.ensures) c.token.ensures

-- `log_texts::no_room` meets its contract, from the questions asked of the rows.
use mathlib.Core.Path.{sym, ap, ◌∙◌}
use Rattle.laws.specs.Answer.{passed_on}
use Rattle.tables.specs.Checked.{outcome}
use Rattle.log_texts.proofs.LogReading.{settled-refused, settled-short}
use Rattle.log_texts.proofs.no_room.Goals as goal

pub returns-in_err-ask_apart : goal.returns-in_err-ask_apart
returns-in_err-ask_apart c =
    λ log room e h.
    passed_on _ c.from_residual.ensures.1
    ∙ settled-refused c.args.table.words.now room log (sym (c.ask_apart.ensures log e) ∙ ap outcome c.in_err-ask_apart.was)

pub returns : goal.returns
returns c =
    λ log room e h. settled-short c.args.table.words.now room log (sym (c.ask_apart.ensures log e) ∙ ap outcome c.in_ok-ask_apart.was) h

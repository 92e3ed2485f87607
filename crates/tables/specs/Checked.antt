-- What the code's answer to questions says, as an outcome of model.
use Rattle.std.specs.Prelude.{Result, Ok, Err}
use Rattle.model.specs.Answer.{Outcome, passed, refused}
use Rattle.model.specs.declared.Refused.{Refused}

abbrev pub outcome : Result (Unit {0}) Refused → Outcome (Unit {0})
outcome (Ok _) = passed tt
outcome (Err e) = refused e.0 e.1

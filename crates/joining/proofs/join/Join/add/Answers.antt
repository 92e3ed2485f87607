-- `joining::join::Join::add` meets its contract, by the answer: what each makes of the state is said in Adding.
use mathlib.Core.Path.{◌≡◌}
use mathlib.Core.Bool.{true, false}
use Rattle.model.specs.Words.{same}
use Rattle.joining.proofs.Adding as A
use Rattle.joining.proofs.join.Join.add.Goals as goal

pub returns-then-value-self : goal.returns-then-value-self
returns-then-value-self c =
    let e : same c.in-Plain.value c.args.self.kind ≡ true = c.if-value-self.true in
    λ a. A.add_vanishing c.in-Plain.value (A.retold c.in-Plain.is a) e

pub returns-in-Short : goal.returns-in-Short
returns-in-Short c = λ a. A.add_short (A.retold c.in-Short.is a)

pub returns-else-value-self : goal.returns-else-value-self
returns-else-value-self c =
    let e : same c.in-Plain.value c.args.self.kind ≡ false = c.if-value-self.false in
    λ a. A.add_deciding c.in-Plain.value (A.retold c.in-Plain.is a) e _ c.max-self.ensures

pub returns-in-Long : goal.returns-in-Long
returns-in-Long c = λ a. A.add_long (A.retold c.in-Long.is a) _ c.max-self-in-Long.ensures

pub returns-in-Part : goal.returns-in-Part
returns-in-Part c = λ a. c.keep.ensures (A.retold c.in-Part.is a)

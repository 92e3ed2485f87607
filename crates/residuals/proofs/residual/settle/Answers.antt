-- `residuals::residual::settle` meets its contract, answer by answer.
use mathlib.Core.Path.{subst}
use Rattle.residuals.specs.Residual.{Walked}
use Rattle.residuals.proofs.ReduceSettling.{settle-short, settle-plain, settle-long, settle-part}
use Rattle.residuals.proofs.residual.settle.Goals as goal

pub returns-in-Short : goal.returns-in-Short
returns-in-Short c =
    let a = c.args in
    λ places need t w. settle-short places need t a.buffer.now
    (subst (Walked places need t a.buffer.now) c.in-Short.is w)

pub returns-in-Plain : goal.returns-in-Plain
returns-in-Plain c =
    let a = c.args in
    λ places need t w. settle-plain places need t a.buffer.now _ _ _
    (subst (Walked places need t a.buffer.now) c.in-Plain.is w) c.write_plain.ensures

pub returns-in-Long : goal.returns-in-Long
returns-in-Long c =
    let a = c.args in
    λ places need t w. settle-long places need t a.buffer.now
    (subst (Walked places need t a.buffer.now) c.in-Long.is w)

pub returns-in-Part : goal.returns-in-Part
returns-in-Part c =
    let a = c.args in
    λ places need t w. settle-part places need t a.buffer.now _
    (subst (Walked places need t a.buffer.now) c.in-Part.is w)

-- `joining::join::Join::finish` meets its contract, test by test: what each answer says is in Finishing.
use native.Mathlib.Omega.{arith}
use Rattle.joining.proofs.Finishing as F
use Rattle.joining.proofs.join.Join.finish.Goals as goal

pub returns-in-Short : goal.returns-in-Short
returns-in-Short c = λ b ts need places s. F.finish-short s c.in-Short.is

pub returns-in-Decided : goal.returns-in-Decided
returns-in-Decided c = λ b ts need places s. F.finish-decided s c.in-Decided.is

pub returns-in-Long : goal.returns-in-Long
returns-in-Long c = λ b ts need places s. F.finish-long s c.in-Long.is

pub returns-then-self-eq0 : goal.returns-then-self-eq0
returns-then-self-eq0 c = λ b ts need places s. F.finish-none s c.in-Open.is c.if-self-eq0.true

pub returns-then-self-eq1 : goal.returns-then-self-eq1
returns-then-self-eq1 c = λ b ts need places s. F.finish-one s c.in-Open.is c.if-self-eq1.true

pub head-requires : goal.head-requires
head-requires c =
    omega (arith, c.requires.1.4.within, c.requires.0, F.few-parts c.requires.1.4 c.in-Open.is, c.if-out-self-ge2.true)

pub returns-then-out-self-ge2 : goal.returns-then-out-self-ge2
returns-then-out-self-ge2 c =
    λ b ts need places s. F.finish-part s c.in-Open.is c.if-self-eq0.false c.if-self-eq1.false _ c.head.auto.out
    (omega (arith, s.within, c.if-out-self-ge2.true)) c.head.ensures

pub returns : goal.returns
returns c = λ b ts need places s. F.finish-over s c.in-Open.is c.if-self-eq0.false c.if-self-eq1.false c.if-out-self-ge2.false

-- `policy_texts::settle` meets its contract.
use mathlib.Core.Path.{◌∙◌}
use Rattle.laws.specs.Answer.{passed_on}
use Rattle.policy_texts.proofs.PolicyReading.{settle-long, settle-asked, settle-moded, settle-short, settle-passed}
use Rattle.policy_texts.proofs.settle.Goals as goal

pub returns-then-state-gt-POLICY_LIMIT : goal.returns-then-state-gt-POLICY_LIMIT
returns-then-state-gt-POLICY_LIMIT c = settle-long c.args.room c.args.state c.if-state-gt-POLICY_LIMIT.true

pub returns-in_err-state : goal.returns-in_err-state
returns-in_err-state c =
    let a = c.args in
    passed_on _ c.from_residual.ensures.1 ∙ settle-asked a.room a.state c.if-state-gt-POLICY_LIMIT.false c.in_err-state.was

pub returns-in_err-state-2 : goal.returns-in_err-state-2
returns-in_err-state-2 c =
    let a = c.args in
    passed_on _ c.from_residual-in_err-state-2.ensures.1
    ∙ settle-moded a.room a.state c.if-state-gt-POLICY_LIMIT.false c.in_ok-state.was c.in_err-state-2.was

pub returns-then-room-state : goal.returns-then-room-state
returns-then-room-state c =
    let a = c.args in
    settle-short a.room a.state c.if-state-gt-POLICY_LIMIT.false c.in_ok-state.was c.in_ok-state-2.was c.if-room-state.true

pub returns : goal.returns
returns c =
    let a = c.args in
    settle-passed a.room a.state c.if-state-gt-POLICY_LIMIT.false c.in_ok-state.was c.in_ok-state-2.was c.if-room-state.false

-- `tptp_state::state::State::bind_leaf` meets its contract.
use Rattle.tptp_state.proofs.StateLaws.{bound-moded, bound-leaf, bound_refused}
use Rattle.tptp_state.proofs.state.State.bind_leaf.Goals as goal

pub returns-in-Err-moded : goal.returns-in-Err-moded
returns-in-Err-moded c =
    let a = c.args in
    bound-moded a.table.now a.own.now a.above a.scope a.self.now c.in-Err-moded.is

pub returns-in-Ok : goal.returns-in-Ok
returns-in-Ok c =
    let a = c.args in
    bound-leaf a.table.now a.own.now a.above a.scope a.self.now c.in_default.is c.in_default-moded.is
    c.in-Ok.behind c.in-Ok.ensures

pub returns-in-Err-bound : goal.returns-in-Err-bound
returns-in-Err-bound c =
    let a = c.args in
    bound_refused a.table.now a.own.now a.above a.scope a.self.now c.in_default.is c.in_default-moded.is
    c.in-Err-bound.field-0 c.in-Err-bound.ensures

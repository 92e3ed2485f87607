-- `tptp_state::state::at_place` meets its contract.
use native.Mathlib.Omega.{arith}
use Rattle.tptp_state.proofs.StateLaws.{refused_there}
use Rattle.tptp_state.proofs.state.at_place.Goals as goal

pub returns : goal.returns
returns c =
    let a = c.args in
    refused_there a.place a.asked c.map_err.result _ c.map_err.ensures.cases (λ e d l. grind arith)

-- `tptp_reading::policy::policy` meets its contract: the place of a text's first byte is 0.
use Rattle.tptp_reading.proofs.PolicyLaws.{policy-from, policy-to}
use Rattle.tptp_reading.proofs.policy.policy.Goals as goal

pub returns-in-Ok : goal.returns-in-Ok
returns-in-Ok c =
    let (t, reads, told) = c.in-Ok.ensures in
    (t, policy-to c.args.text.now c.new-here.result c.new-here.ensures.rest c.new-here.ensures.at t reads, told)

pub returns-in-Err : goal.returns-in-Err
returns-in-Err c = policy-from c.args.text.now c.new-here.result c.new-here.ensures.rest c.new-here.ensures.at c.in-Err.ensures

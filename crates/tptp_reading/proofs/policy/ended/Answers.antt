-- `tptp_reading::policy::ended` meets its contract.
use borrow.Author.Rules.{rules}
use Rattle.tptp_reading.proofs.PolicyLaws.{ended-other, ended-over}
use Rattle.tptp_reading.proofs.policy.ended.Goals as goal

pub returns-then-not-is_empty : goal.returns-then-not-is_empty
returns-then-not-is_empty c = ended-other c.args.here.now c.skip.new.here c.skip.ensures (search rules)

pub returns : goal.returns
returns c =
    record {
      moved = c.skip.ensures.reads.moved;
      reads = ended-over c.args.here.now c.skip.new.here c.skip.ensures (search rules);
    }

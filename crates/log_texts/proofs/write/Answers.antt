-- `log_texts::write` meets its contract, from the log's check and the writing of its rows.
use Rattle.laws.specs.Answer.{passed_on}
use Rattle.log_texts.proofs.LogWriting.{log-refused, log-passed, log-written}
use Rattle.log_texts.proofs.write.Goals as goal

pub returns-in_err-check_log : goal.returns-in_err-check_log
returns-in_err-check_log c =
    rw (passed_on _ c.from_residual.ensures.1) (log-refused _ _ c.check_log.ensures.same c.in_err-check_log.was)

pub invariant_of-write_rows : goal.invariant_of-write_rows
invariant_of-write_rows c = record { accepted = (log-passed _ _ c.check_log.ensures.same c.in_ok-check_log.was).0 }

pub write_rows-requires : goal.write_rows-requires
write_rows-requires c = (log-passed _ _ c.check_log.ensures.same c.in_ok-check_log.was).1

pub returns : goal.returns
returns c = log-written _ _ c.check_log.ensures.same c.in_ok-check_log.was c.write_rows.ensures c.written.ensures

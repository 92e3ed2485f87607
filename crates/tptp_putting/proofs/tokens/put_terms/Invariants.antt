-- `tptp_putting::tokens::put_terms` meets its contract: the first term, and those behind it. The loop's invariant: the terms behind the
-- first stand up to the one reached.
use Rattle.text.proofs.PutLaws.{Left}
use Rattle.tptp_putting.proofs.TextLaws.{runs, next_term}
use Rattle.tptp_putting.proofs.tokens.put_terms.Given as goal

abbrev pub invariant-loop-i : goal.invariant-loop-i
invariant-loop-i l =
    Left (runs (next_term l.words l.first) 1 l.n) (runs (next_term l.words l.first) l.i l.n) l.initial.w l.w

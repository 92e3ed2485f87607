-- `text::writer::put_bytes` meets its contract. The loop's invariant: the first bytes are copied up to the index reached.
use Rattle.text.proofs.PutLaws.{Copied}
use Rattle.text.proofs.writer.put_bytes.Given as goal

abbrev pub invariant-loop-i : goal.invariant-loop-i
invariant-loop-i l = Copied l.initial.out l.at l.bytes l.out l.i

-- `text::writer::put_bytes` meets its contract. The loop's invariant: the first bytes are copied up to the index reached.
use Rattle.std.proofs.Common.{rules}
use Rattle.text.proofs.PutLaws.{copied_none, copied_more, copied_all}
use Rattle.text.proofs.writer.put_bytes.Goals as goal

pub loop-i-init : goal.loop-i-init
loop-i-init c = copied_none

pub loop-i-preserved : goal.loop-i-preserved
loop-i-preserved c = copied_more c.loop-i.invariant c.requires _ c.loop-i-test.true (search rules)

pub returns : goal.returns
returns c = copied_all c.loop-i.invariant c.requires c.loop-i-test.false

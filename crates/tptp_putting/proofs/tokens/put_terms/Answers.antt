-- `tptp_putting::tokens::put_terms` meets its contract: the first term, and those behind it. The loop's invariant: the terms behind the
-- first stand up to the one reached.
use Rattle.model.specs.Bytes.{bytes}
use Rattle.text.proofs.PutLaws.{adds_then, adds_is, left_more, left_end}
use Rattle.tptp_putting.proofs.TextLaws.{runs_more, runs_none, next_term, terms_first}
use Rattle.tptp_putting.proofs.tokens.put_terms.Goals as goal

pub loop-i-preserved : goal.loop-i-preserved
unfolding bytes
loop-i-preserved c =
    let a = c.args in
    left_more c.loop-i.invariant _ _ (runs_more (next_term a.words.now a.first) c.loop-i.i a.n c.loop-i-test.true)
    (adds_then c.bytes.ensures c.put_term-in-loop-i.ensures)

pub returns : goal.returns
returns c =
    let a = c.args in
    let rest = left_end c.loop-i.invariant (runs_none (next_term a.words.now a.first) c.loop-i.i a.n c.loop-i-test.false) in
    adds_is (terms_first a.words.now a.first a.n c.requires.0) (adds_then c.put_term.ensures rest)

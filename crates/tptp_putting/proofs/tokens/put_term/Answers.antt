-- `tptp_putting::tokens::put_term` meets its contract, by the first word of the term.
use mathlib.Core.Path.{sym, ◌∙◌}
use Rattle.model.specs.Bytes.{bytes}
use Rattle.text.proofs.PutLaws.{adds_then, adds_is}
use Rattle.tptp_putting.proofs.TextLaws.{constant_text, variable_text}
use Rattle.tptp_putting.proofs.tokens.put_term.Goals as goal

pub returns-then-zero : goal.returns-then-zero
returns-then-zero c = adds_is (constant_text c.args.words.now c.args.i (sym c.zero.ensures ∙ c.if-zero.true)) c.word.ensures

pub returns : goal.returns
unfolding bytes
returns c =
    adds_is (variable_text c.args.words.now c.args.i (sym c.zero.ensures ∙ c.if-zero.false) ∙ rw c.value.ensures)
    (adds_then c.bytes.ensures c.natural.ensures)

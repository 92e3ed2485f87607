-- `tptp_leaves::terms::term` meets its contract.
use borrow.Author.Rules.{rules}
use Rattle.tptp_leaves.proofs.TermLaws.{term-variable, term-constant}
use Rattle.tptp_leaves.proofs.terms.term.Goals as goal

pub returns-then-eq : goal.returns-then-eq
returns-then-eq c =
    term-variable c.args.here.now c.skip.new.here c.skip.ensures c.variable.new.here c.variable.result (search rules)
    c.pass.new.self c.pass.ensures.rest c.pass.ensures.at c.variable.ensures

pub returns : goal.returns
returns c = term-constant c.args.here.now c.skip.new.here c.skip.ensures c.constant.new.here c.constant.result (search rules) c.constant.ensures

-- `instances::closing::complete` meets its contract, case by case.
use Rattle.instances.proofs.ClosedLaws.{complete-atom, complete-other}
use Rattle.instances.proofs.closing.complete.Goals as goal

pub returns-in-Atom : goal.returns-in-Atom
returns-in-Atom c =
    let a = c.args in
    complete-atom a.table.now a.words.now a.at a.tag _ c.value.result c.complete.result
    c.in-Atom.is c.value.ensures c.complete.ensures

pub returns-in_default : goal.returns-in_default
returns-in_default c = let a = c.args in complete-other a.table.now a.words.now a.at a.tag c.in_default.not-Atom

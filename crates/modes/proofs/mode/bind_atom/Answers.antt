-- `modes::mode::bind_atom` meets its contract, by the tests on its terms.
use mathlib.Core.Path.{sym, ◌∙◌}
use Rattle.modes.proofs.ModeAtoms.{atom_inputs_no, atom_inputs_yes, atom-all-no, atom-all-yes}
use Rattle.modes.proofs.mode.bind_atom.Goals as goal

pub returns-then-not-inputs_bound : goal.returns-then-not-inputs_bound
returns-then-not-inputs_bound c =
    atom_inputs_no c.args.table.now c.args.words.now c.args.bound c.args.at
    c.value-p.result c.value-n.result c.value-p.ensures c.value-n.ensures c.args.holds
    c.if-holds.true
    (sym c.inputs_bound.ensures ∙ c.if-not-inputs_bound.true)

pub returns-then-holds : goal.returns-then-holds
returns-then-holds c =
    atom_inputs_yes c.args.table.now c.args.words.now c.args.bound c.args.at
    c.value-p.result c.value-n.result c.value-p.ensures c.value-n.ensures c.args.holds
    c.if-holds.true
    (sym c.inputs_bound.ensures ∙ c.if-not-inputs_bound.false)
    c.with_terms-set.result
    c.with_terms-set.ensures

pub returns-then-not-all_bound : goal.returns-then-not-all_bound
returns-then-not-all_bound c =
    atom-all-no c.args.table.now c.args.words.now c.args.bound c.args.at
    c.value-p.result c.value-n.result c.value-p.ensures c.value-n.ensures c.args.holds
    c.if-holds.false
    (sym c.all_bound.ensures ∙ c.if-not-all_bound.true)

pub returns : goal.returns
returns c =
    atom-all-yes c.args.table.now c.args.words.now c.args.bound c.args.at
    c.value-p.result c.value-n.result c.value-p.ensures c.value-n.ensures c.args.holds
    c.if-holds.false
    (sym c.all_bound.ensures ∙ c.if-not-all_bound.false)

-- `matching::lookup::value_at` meets its contract: the arguments are the numbers of the atom's terms, with zeros behind, and the
-- value is that of the atom.
use Rattle.matching.proofs.LookupLaws.{atom-value}
use Rattle.matching.proofs.lookup.value_at.Goals as goal

pub returns : goal.returns
returns c =
    let a = c.args in
    atom-value a.log.now.table.now a.words.now a.log.now.rows.now a.environment a.at
    c.value-predicate.result c.value-n.result _ c.value_of.result
    c.value-predicate.ensures c.value-n.ensures (λ e h. c.arguments.ensures e h.numbers) c.value_of.ensures

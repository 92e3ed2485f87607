-- `nodes::ground::atom` meets its contract, by the value found.
use native.Mathlib.Omega.{arith}
use Rattle.nodes.proofs.GroundLaws.{atom_asks, atom_grown, reduces_known, reduces_open}
use Rattle.nodes.proofs.ground.atom.Goals as goal

pub value_at-found-requires : goal.value_at-found-requires
value_at-found-requires c = atom_asks _ _ _ _ _ c.requires.0 (omega arith) c.requires.1

pub stay-requires : goal.stay-requires
stay-requires c = (c.requires.0, atom_grown _ _ _ _ _ c.requires.1)

pub returns-in-Some : goal.returns-in-Some
returns-in-Some c =
    let a = c.args in
    reduces_known a.log.now.table.now a.words.now a.log.now.rows.now a.environment a.scope a.holds a.at
    _ c.value_at-found.ensures c.in-Some.value _ c.in-Some.is (grind arith) a.out.now

pub returns-in-None : goal.returns-in-None
returns-in-None c =
    let a = c.args in
    reduces_open _ _ a.log.now.rows.now _ a.scope _ _ _ c.value_at-found.ensures c.in-None.is _ _ _ c.stay.ensures

-- `chains::chain::fill` meets its contract. The invariant: the rows from `row` on are linked, and their keys kept.
use Rattle.chains.specs.Key as K
use Rattle.chains.proofs.Chains as C
use Rattle.chains.proofs.chain.fill.Given as goal

abbrev pub invariant-loop-row : goal.invariant-loop-row
invariant-loop-row l = C.Filling (K.key_by l.kind l.log) l.heads l.rows l.row l.keys l.links

-- `environments::lists::release_all` meets its contract. The loop's invariant: of every list that stands there, the variable is
-- dropped in the first i environments.
use native.Mathlib.Omega.{arith}
use mathlib.Core.Path.{◌≡◌}
use lib.ListN.{length, take}
use lib.Seq.{length-take-le}
use Rattle.environments.proofs.ListedLaws.{environment_of}
use Rattle.environments.proofs.ListsLaws.{listed-take, released_next, released_on}
use Rattle.environments.proofs.lists.release_all.Goals as goal

pub loop-i-preserved : goal.loop-i-preserved
loop-i-preserved c = λ es k n.
    let a = c.args in
    let i = c.loop-i.i in
    let few : length (take i es) ≡ i = length-take-le i es (omega arith) in
    let so_far = c.loop-i.invariant (take i es) (listed-take a.scratch.now a.from es k i) few in
    let next = released_next a.variable a.scratch.now c.loop-i.scratch a.from i es k n so_far in
    released_on a.variable a.scratch.now c.loop-i.scratch a.from i es k n so_far (omega (arith, c.requires)) _
    (c.store.ensures _ (c.release-released.ensures _ (c.read-environment.ensures (environment_of es i) next)))

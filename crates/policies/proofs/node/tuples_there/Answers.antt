-- `policies::node::tuples_there` meets its contract: no more tuples than words are left are multiplied out, which fits.
use Prim.Native.Nat.{◌+◌, ◌*◌, ◌-◌, ◌^◌, ◌≤◌, ◌<◌}
use native.Mathlib.Omega.{arith}
use mathlib.Core.Path.{sym}
use borrow.Author.Tests.{lt-leb}
use lib.ListN.{length}
use Rattle.model.specs.Words.{value}
use Rattle.model.specs.Reading.{own}
use Rattle.laws.specs.Words.Standing.{within-value}
use Rattle.policies.proofs.NodeShape.{fitting_same, too_many, four_times}
use Rattle.policies.proofs.node.tuples_there.Goals as goal

pub returns-then-left-m : goal.returns-then-left-m
unfolding own value
returns-then-left-m c b role scope =
    let few : (1 ≤ c.value-v.result) × (c.value-v.result ≤ 4) = let range = within-value 1 4 _ c.requires in rw c.value-v.ensures (range.1, range.2) in
    let n = length c.args.spot.words.now in
    let many = too_many c.value-v.result c.value-m.result (n - c.args.spot.at) (few).0 c.if-left-m.true in
    rw (← c.value-v.ensures, ← c.value-m.ensures)
    (sym (lt-leb (c.args.spot.at + (3 + c.value-v.result * c.value-m.result)) n (omega (arith, many, c.args.spot.within))))

pub overflow_mul-result : goal.overflow_mul-result
unfolding value
overflow_mul-result c =
    let few : (1 ≤ c.value-v.result) × (c.value-v.result ≤ 4) = let range = within-value 1 4 _ c.requires in rw c.value-v.ensures (range.1, range.2) in
    let fits : 3 + c.value-v.result * c.value-m.result < 2 ^ 64 = four_times c.value-v.result c.value-m.result (length c.args.spot.words.now - c.args.spot.at)
    (few).1
    c.if-left-m.false
    (omega (arith)) in
    omega (arith, fits)

pub overflow_add-result : goal.overflow_add-result
unfolding value
overflow_add-result c =
    let few : (1 ≤ c.value-v.result) × (c.value-v.result ≤ 4) = let range = within-value 1 4 _ c.requires in rw c.value-v.ensures (range.1, range.2) in
    let fits : 3 + c.value-v.result * c.value-m.result < 2 ^ 64 = four_times c.value-v.result c.value-m.result (length c.args.spot.words.now - c.args.spot.at)
    (few).1
    c.if-left-m.false
    (omega (arith)) in
    omega (arith, fits)

pub returns : goal.returns
unfolding own
returns c b role scope =
    rw (← c.value-v.ensures, ← c.value-m.ensures)
    (fitting_same (3 + c.value-v.result * c.value-m.result) c.args.spot.at (length c.args.spot.words.now) c.args.spot.within)

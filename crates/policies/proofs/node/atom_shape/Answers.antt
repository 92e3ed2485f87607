-- `policies::node::atom_shape` meets its contract: the count's range, the room for the terms, and then their kinds.
use Prim.Native.Nat.{◌≤◌, ◌+◌}
use native.Mathlib.Omega.{arith}
use mathlib.Core.Path.{◌≡◌, sym, ◌∙◌}
use mathlib.Core.Bool.{true}
use Rattle.model.specs.Words.{word, value, within}
use Rattle.model.specs.Tag.{Tag}
use Rattle.model.specs.Lists.{all}
use Rattle.model.specs.Reading.{places, good_kind, own}
use Rattle.laws.specs.Words.Standing.{within-value}
use Rattle.policies.proofs.NodeShape.{short, enough}
use Rattle.policies.proofs.node.atom_shape.Goals as goal

pub returns-then-not-within : goal.returns-then-not-within
unfolding own
returns-then-not-within c b role scope = rw (sym c.within.ensures ∙ c.if-not-within.true)

pub overflow_mul-n : goal.overflow_mul-n
unfolding value
overflow_mul-n c =
    let in_range : within 1 6 (word c.args.spot.words.now (c.args.spot.at + 2)) ≡ true = sym c.within.ensures ∙ c.if-not-within.false in
    let few : c.value-n.result ≤ 6 = omega (arith, within-value 1 6 _ (in_range), c.value-n.ensures) in
    omega (arith, few)

pub overflow_add-n : goal.overflow_add-n
unfolding value
overflow_add-n c =
    let in_range : within 1 6 (word c.args.spot.words.now (c.args.spot.at + 2)) ≡ true = sym c.within.ensures ∙ c.if-not-within.false in
    let few : c.value-n.result ≤ 6 = omega (arith, within-value 1 6 _ (in_range), c.value-n.ensures) in
    omega (arith, few)

pub returns-then-words-at : goal.returns-then-words-at
unfolding own
returns-then-words-at c b role scope =
    short c.args.spot.words.now (Tag.atom b) role scope c.args.spot.at c.args.spot.within (rw c.value-n.ensures at c.if-words-at.true)

pub returns : goal.returns
unfolding own
returns c b role scope =
    let in_range : within 1 6 (word c.args.spot.words.now (c.args.spot.at + 2)) ≡ true = sym c.within.ensures ∙ c.if-not-within.false in
    let words = c.args.spot.words.now in
    let at = c.args.spot.at in
    let same : all (good_kind words) (places (at + 3) c.value-n.result) ≡ (own words (Tag.atom b) role scope at).shape =
    rw (c.value-n.ensures, in_range) in
    let fits = rw c.value-n.ensures at c.if-words-at.false in
    c.kinds.ensures ∙ same ∙ enough words (Tag.atom b) role scope at c.args.spot.within fits

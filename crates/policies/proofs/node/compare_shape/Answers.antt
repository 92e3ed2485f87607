-- `policies::node::compare_shape` meets its contract: the room for six words, and then the kinds of the two terms.
use mathlib.Core.Path.{◌∙◌}
use Rattle.model.specs.Tag.{Tag}
use Rattle.model.specs.Reading.{own}
use Rattle.policies.proofs.NodeShape.{short, enough}
use Rattle.policies.proofs.node.compare_shape.Goals as goal

pub returns-then-words-at-lt6 : goal.returns-then-words-at-lt6
unfolding own
returns-then-words-at-lt6 c b role scope =
    short c.args.spot.words.now (Tag.compare b) role scope c.args.spot.at c.args.spot.within c.if-words-at-lt6.true

pub returns : goal.returns
unfolding own
returns c b role scope =
    c.kinds.ensures ∙ enough c.args.spot.words.now (Tag.compare b) role scope c.args.spot.at c.args.spot.within c.if-words-at-lt6.false

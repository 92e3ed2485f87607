-- `policies::node::join_shape` meets its contract: the room for two words, and then the count.
use mathlib.Core.Path.{◌∙◌}
use Rattle.model.specs.Tag.{Tag}
use Rattle.model.specs.Reading.{own}
use Rattle.policies.proofs.NodeShape.{short, enough}
use Rattle.policies.proofs.node.join_shape.Goals as goal

pub returns-then-words-at-lt2 : goal.returns-then-words-at-lt2
unfolding own
returns-then-words-at-lt2 c b role scope =
    short c.args.spot.words.now (Tag.join b) role scope c.args.spot.at c.args.spot.within c.if-words-at-lt2.true

pub returns : goal.returns
unfolding own
returns c b role scope =
    c.at_least.ensures ∙ enough c.args.spot.words.now (Tag.join b) role scope c.args.spot.at c.args.spot.within c.if-words-at-lt2.false

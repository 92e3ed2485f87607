-- `duals::dual_words::past_kept` meets its contract, by whether a restriction stands below the node.
use Rattle.duals.proofs.DualAfter.{restricts-some, restricts-none, kept-own, restriction-there, some-left, kept-restriction}
use Rattle.duals.proofs.dual_words.past_kept.Goals as goal

pub tree_end-requires : goal.tree_end-requires
tree_end-requires c =
    restriction-there _ c.args.walk _ c.requires.0 _ c.past-behind.ensures (restricts-some c.args.tag c.in-Quantifier.is) c.requires.1

pub overflow_sub-result : goal.overflow_sub-result
overflow_sub-result c =
    some-left _ c.args.walk _ c.requires.0 _ c.past-behind.ensures (restricts-some c.args.tag c.in-Quantifier.is)

pub returns-in-Quantifier : goal.returns-in-Quantifier
returns-in-Quantifier c =
    kept-restriction _ c.args.walk _ c.requires.0 _ c.past-behind.ensures (restricts-some c.args.tag c.in-Quantifier.is) _
    c.tree_end.ensures

pub returns-in_default : goal.returns-in_default
returns-in_default c =
    kept-own _ c.args.walk _ c.requires.0 _ c.past-behind.ensures
    (restricts-none c.args.tag c.in_default.not-Quantifier c.in_default.not-Some)

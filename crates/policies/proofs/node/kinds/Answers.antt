-- `policies::node::kinds` meets its contract.
use Prim.Native.Nat.{◌+◌, ◌*◌}
use native.Mathlib.Omega.{arith}
use mathlib.Core.Path.{◌∙◌}
use borrow.Author.Rules.{rules}
use borrow.Author.Tests.{tests}
use Rattle.std.proofs.lemmas.Iterator.{YieldsList-from_range}
use Rattle.std.proofs.lemmas.Iterator.Search.{all_from_yields_List}
use Rattle.model.specs.Reading.{good_kind}
use Rattle.policies.proofs.NodeTerms.{all_places}
use Rattle.policies.proofs.node.kinds.Goals as goal

pub returns : goal.returns
unfolding good_kind
returns c =
    let a = c.args in
    all_from_yields_List (λ i. good_kind a.words.now (a.first + 2 * i)) _ _ _ c.all.ensures.ran
    (YieldsList-from_range 0 a.n a.n (cc) (omega arith))
    (λ x b q k. search (rules, tests))
    ∙ all_places (good_kind a.words.now) a.first a.n

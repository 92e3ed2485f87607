-- `instances::choosing::stands` meets its contract: some tuple of those at even distances is the one looked for.
use native.Mathlib.Omega.{arith}
use mathlib.Core.Path.{◌∙◌}
use lib.ListN.{take, drop}
use Prim.Native.Nat.{◌+◌, ◌*◌}
use borrow.Author.Rules.{rules}
use borrow.Author.Tests.{tests}
use Rattle.std.proofs.lemmas.Iterator.{YieldsList-from_range}
use Rattle.std.proofs.lemmas.Iterator.Search.{any_from_yields_List}
use Rattle.model.specs.Words.{equal_all}
use Rattle.instances.proofs.InstanceLaws.{among_all}
use Rattle.instances.proofs.choosing.stands.Goals as goal

pub returns : goal.returns
returns c =
    let a_2 = c.args in
    let τ = take a_2.v (drop a_2.at a_2.a.now) in
    any_from_yields_List (λ i. equal_all τ (take a_2.v (drop (a_2.from + a_2.step * i) a_2.b.now))) _ _ _ c.any.ensures.ran
    (YieldsList-from_range 0 a_2.m a_2.m (cc) (omega arith))
    (λ x b q k. search (rules, tests))
    ∙ among_all τ a_2.b.now a_2.v a_2.from a_2.step a_2.m

-- `modes::marks::Marks::introduced` meets its contract.
use Prim.Native.Nat.{◌+◌}
use native.Mathlib.Omega.{arith}
use mathlib.Core.Path.{◌∙◌}
use borrow.Author.Rules.{rules}
use borrow.Author.Tests.{tests}
use Rattle.std.proofs.lemmas.Iterator.{YieldsList-from_range}
use Rattle.std.proofs.lemmas.Iterator.Search.{all_from_yields_List}
use Rattle.modes.specs.Mode.{set_of}
use Rattle.policies.proofs.NodeTerms.{all_range}
use Rattle.modes.proofs.marks.Marks.introduced.Goals as goal

pub returns : goal.returns
returns c =
    let a = c.args in
    all_from_yields_List (set_of a.self) _ _ _ c.all.ensures.ran
    (YieldsList-from_range a.scope (a.scope + a.v) a.v (cc) (omega arith))
    (λ x b q k. search (rules, tests))
    ∙ all_range (set_of a.self) a.scope a.v

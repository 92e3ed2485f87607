-- `environments::environment::Environment::bind` meets its contract: a number and a mark are set, as `bind` changes one slot.
use mathlib.Core.Path.{◌≡◌, sym, subst}
use mathlib.Core.Bool.{true}
use lib.ListN.{set}
use lib.IntN.{ℤ}
use mir.Syntax.{w32}
use mir.Val.{to_z, of_z}
use borrow.Author.Rules.{rules}
use Rattle.environments.specs.Environment.{Holds}
use Rattle.model.specs.Listing.{bind}
use Rattle.environments.proofs.Places.{held-bind}
use Rattle.environments.proofs.environment.Environment.bind.Goals as goal

pub returns : goal.returns
returns c =
    λ e h. let k = c.args.number in let back : to_z w32 (of_z w32 k) ≡ k = search rules in subst
    (λ (z : ℤ). Holds
    (record {
      numbers = set c.args.self.numbers c.args.variable z;
      marks = set c.args.self.marks c.args.variable
          true;
    }) (bind e c.args.variable k)) (sym back) (held-bind h c.args.variable k)

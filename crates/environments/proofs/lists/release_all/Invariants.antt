-- `environments::lists::release_all` meets its contract. The loop's invariant: of every list that stands there, the variable is
-- dropped in the first i environments.
use mathlib.Core.Path.{◌≡◌}
use mathlib.Core.List.{List}
use lib.ListN.{length}
use Rattle.model.specs.Listing.{Environment}
use Rattle.environments.specs.Listed.{Listed}
use Rattle.environments.specs.Lists.{Released}
use Rattle.environments.proofs.lists.release_all.Given as goal

abbrev pub invariant-loop-i : goal.invariant-loop-i
invariant-loop-i l =
    (es : List Environment) → Listed l.initial.scratch l.from es → length es ≡ l.i → Released l.variable l.initial.scratch l.scratch l.from es

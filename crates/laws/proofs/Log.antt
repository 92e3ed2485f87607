-- A log extends its front part, if no row behind makes true an atom of a complete predicate.
use Rattle.std.specs.Prelude.{ℕ, ◌≡◌, true, not, ◌&&◌, drop}
use Rattle.std.proofs.Common.{sym, subst}
use mathlib.Core.List.{List}
use Rattle.model.specs.Words.{Words, value}
use Rattle.model.specs.Lists.{all}
use Rattle.model.specs.Table.{complete}
use Rattle.model.specs.Log.{rows, front, says_true}
use Rattle.model.specs.Log.{value_in}
use Rattle.model.specs.Truth.{Extends}
use Rattle.laws.specs.Log.{rows-front, front-extends}

-- the same of a log and its front part
pub log-extends :
    (table log : Words) (k : ℕ) →
    all (λ row. not (says_true row && complete table (value row 0))) (drop k (rows log)) ≡ true →
    Extends table (value_in table (rows (front k log))) (value_in table (rows log))
log-extends table log k e =
    subst (λ (l : List Words). Extends table (value_in table l) (value_in table (rows log))) (sym (rows-front log k))
    (front-extends table (rows log) k e)

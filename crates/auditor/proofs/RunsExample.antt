-- The theorem about runs, applied to the run of three served calls of specs/RunsExample.antt.
use Rattle.std.specs.Prelude.{◌≡◌, ◌↔◌, Bool}
use Rattle.std.proofs.Common.{sym, subst}
use mathlib.Core.List.{[], append-nil, Memᴰ}
use Rattle.model.specs.Words.{Words}
use Rattle.model.specs.Answer.{passed}
use Rattle.model.specs.Tree.{Tree}
use Rattle.model.specs.Truth.{structure, Is}
use Rattle.model.specs.Calls.{ask_policy}
use Rattle.model.specs.Examples.{T}
use Rattle.laws.proofs.Runs.Example.{log, policy, log-accepted, policy-accepted, extensions, extends}
use Rattle.auditor.specs.Runs.{kept, ServedClaim, every_served_run}
use Rattle.auditor.specs.RunsExample.{calls, serves, meets_proviso}

pub claim : ServedClaim T log policy calls
claim = every_served_run T log policy calls log-accepted policy-accepted serves

-- the policy that the caller holds at the end is true, and false, as the first policy is: in the log, and in extensions with a row in
-- front, with the rows in reverse order, and with a number beyond 32 bits
pub same_in_extensions :
    (before after : Tree) →
    ask_policy T policy ≡ passed before →
    ask_policy T (kept T log policy calls) ≡ passed after →
    (larger : Words) →
    Memᴰ larger extensions →
    (truth : Bool) →
    Is after (structure T larger) truth [] ↔ Is before (structure T larger) truth []
same_in_extensions before after b a larger m =
    claim.run.truth meets_proviso (structure T larger) (extends larger m) before after b
    (subst (λ (p : Words). ask_policy T p ≡ passed after) (claim.holds calls [] (sym (append-nil calls))) a)

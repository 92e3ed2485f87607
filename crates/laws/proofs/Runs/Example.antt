-- A run to which the run claim is applied, so that its premises are seen to be met: a refused call, a call over the first
-- two rows, a call over the whole log. The log is log A and one more row. Its extensions are the log itself, one with a row in front
-- of the first one, one with the rows in reverse order, and one with a number beyond 32 bits.
use Rattle.std.specs.Prelude.{ℕ, ◌≡◌, refl, ◌↔◌, Bool, true, not, ◌&&◌, ◌||◌}
use mathlib.Core.List.{List, [], ◌∷◌, ◌++◌, Memᴰ}
use Rattle.model.specs.Words.{Words, value, member}
use Rattle.model.specs.Lists.{all}
use Rattle.model.specs.Answer.{number, passed}
use Rattle.model.specs.Table.{complete}
use Rattle.model.specs.Log.{rows, says_true, ask_log}
use Rattle.model.specs.Tree.{Tree}
use Rattle.model.specs.Truth.{structure, Extends, Is}
use Rattle.model.specs.Calls.{ask_policy, check_policy, check_log}
use Rattle.model.specs.Runs.{Call, accepted, leaves, after, held, proviso, RunClaim, EveryRun}
use Rattle.model.specs.Examples.{words, T, A, F, computing}
use Rattle.laws.specs.Log.{sound}
use Rattle.laws.specs.Truth.Logs.{rows_extend}
use Rattle.laws.proofs.Runs.Claim.{every-run}

unfoldable pub log : Words
log = words (A ++ 0 ∷ 1 ∷ 7 ∷ 8 ∷ 101 ∷ 0 ∷ 0 ∷ 0 ∷ [])

unfoldable pub policy : Words
policy = words F

-- too little scratch; log A; the whole log
pub calls : List Call
calls =
    record { part = 3; scratch = 33; buffer = 100 }
    ∷ record { part = 2; scratch = 34; buffer = 27 }
    ∷ record { part = 3; scratch = 51; buffer = 50 }
    ∷ []

-- the numbers of the answers, each call given the policy held by then
pub numbers : Words → List Call → List ℕ
numbers held [] = []
numbers held (call ∷ rest) = number (leaves T log held call).answer ∷ numbers (after T log held call) rest

pub answers : numbers policy calls ≡ 11 ∷ 0 ∷ 0 ∷ []
unfolding computing log policy calls numbers
answers = refl

pub meets_proviso : proviso T log policy calls ≡ true
unfolding computing log policy calls
meets_proviso = refl

pub log-accepted : accepted (check_log T log) ≡ true
unfolding computing log
log-accepted = refl

pub policy-accepted : accepted (check_policy T policy) ≡ true
unfolding computing policy
policy-accepted = refl

pub claim : RunClaim T log policy calls
unfolding EveryRun
claim = every-run T log policy calls log-accepted policy-accepted

-- a false row of send that begins as the first row does stands in front of it
unfoldable pub in_front : Words
in_front = words (0 ∷ 0 ∷ 7 ∷ 9 ∷ 101 ∷ 0 ∷ 0 ∷ 0 ∷ []) ++ log

unfoldable pub reversed : Words
reversed = words (0 ∷ 1 ∷ 7 ∷ 8 ∷ 101 ∷ 0 ∷ 0 ∷ 0 ∷ 1 ∷ 1 ∷ 9 ∷ 50 ∷ 0 ∷ 0 ∷ 0 ∷ 0 ∷ 0 ∷ 1 ∷ 7 ∷ 9 ∷ 100 ∷ 0 ∷ 0 ∷ 0 ∷ [])

-- 9 believes, and 7 sent to 9 at 2^32 + 1, among the other rows
unfoldable pub wide : Words
wide = words (2 ∷ 1 ∷ 9 ∷ 0 ∷ 0 ∷ 0 ∷ 0 ∷ 0 ∷ []) ++ reversed ++ words (0 ∷ 1 ∷ 7 ∷ 9 ∷ 4294967297 ∷ 0 ∷ 0 ∷ 0 ∷ [])

unfoldable pub extensions : List Words
extensions = log ∷ in_front ∷ reversed ∷ wide ∷ []

-- each of them extends the log
accepted-extends :
    (larger : Words) →
    ask_log T larger ≡ passed tt →
    all (λ row. member row (rows larger)) (rows log) ≡ true →
    all (λ row. member row (rows log) || not (says_true row && complete T (value row 0))) (rows larger) ≡ true →
    Extends T (structure T log) (structure T larger)
accepted-extends larger ok = rows_extend T (rows log) (rows larger) (sound T larger ok)

pub extends : (larger : Words) → Memᴰ larger extensions → Extends T (structure T log) (structure T larger)
unfolding computing log in_front reversed wide extensions
extends larger (Memᴰ.head e) = rw e (accepted-extends log refl refl refl)
extends larger (Memᴰ.tail (Memᴰ.head e)) = rw e (accepted-extends in_front refl refl refl)
extends larger (Memᴰ.tail (Memᴰ.tail (Memᴰ.head e))) = rw e (accepted-extends reversed refl refl refl)
extends larger (Memᴰ.tail (Memᴰ.tail (Memᴰ.tail (Memᴰ.head e)))) =
    rw e (accepted-extends wide refl refl refl)
extends larger (Memᴰ.tail (Memᴰ.tail (Memᴰ.tail (Memᴰ.tail m)))) = elim m [ ]

-- the policy held at the end is true, and false, in each of them as the first policy is
pub same_in_extensions :
    (first last : Tree) →
    ask_policy T policy ≡ passed first →
    ask_policy T (held T log policy calls) ≡ passed last →
    (larger : Words) →
    Memᴰ larger extensions →
    (truth : Bool) →
    Is last (structure T larger) truth [] ↔ Is first (structure T larger) truth []
same_in_extensions first last e₁ e₂ larger m = claim.truth meets_proviso (structure T larger) (extends larger m) first last e₁ e₂

-- The words that stand for the calls in the input.
use Rattle.std.specs.Prelude.{◌≡◌, ◌≢◌, ℕ, List, codes, Result, MatchResult}
use Rattle.cases.specs.declared.call.Call.{Call}
use Rattle.cases.specs.declared.call.Call.TheVariants.{CheckPolicy, CheckLog, Dual, Reduce, ReadLog, ReadPolicy, WriteLog, WritePolicy}
use Rattle.cases.specs.declared.call.UnknownCall.{UnknownCall}

-- the word that stands for a call
abbrev pub name_of : Call → List ℕ
name_of CheckPolicy = codes "check_policy"
name_of CheckLog = codes "check_log"
name_of Dual = codes "dual"
name_of Reduce = codes "reduce"
name_of ReadLog = codes "read_log"
name_of ReadPolicy = codes "read_policy"
name_of WriteLog = codes "write_log"
name_of WritePolicy = codes "write_policy"

-- the result is the call that the word stands for, or an error, and the word stands for none
abbrev pub Names : List ℕ → Result Call UnknownCall → Type 0
Names word r = MatchResult r (λ call. name_of call ≡ word) (λ _. (call : Call) → name_of call ≢ word)

-- Texts of a log with more records than there are rows in a log, as one list of cases and one claim about the list.
use Rattle.std.specs.Prelude.{◌≡◌, refl, List, [], ◌∷◌, map}
use Rattle.model.specs.TextExamples.{TextCase, repeats, comes_out, must_come_out, computing_logs}

unfoldable pub cases : List TextCase
cases =
    -- 8, by one record; it is asked before 10, so that the records may all be the same
    repeats 4097 8 0
    ∷ []

-- the claim
pub log_limits : map comes_out cases ≡ map must_come_out cases
unfolding computing_logs cases
log_limits = refl

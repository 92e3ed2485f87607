-- The second number of an answer for other languages: the count, or the place if refused.
use Rattle.std.specs.Prelude.{ℕ, Ok, Err}
use Rattle.model.specs.Answer.{Answer}

unfoldable pub detailed : Answer → ℕ
detailed (Ok n) = n
detailed (Err e) = e.1

-- Chains along which the true rows of a predicate are walked: by predicate alone, or by its first argument too.
use Rattle.std.specs.Prelude.{ℕ, ◌<◌, ◌≡◌, cond, List, [], pos}
use Rattle.model.specs.Words.{Words, word, equal}
use Rattle.model.specs.Lists.{gather}
use Rattle.model.specs.Log.{row_count, row_at, rows, arguments}
use Rattle.model.specs.Tree.{Term}
use Rattle.model.specs.Listing.{Environment, fit, matches}
use Rattle.policies.specs.Standing.{terms_at}
use Rattle.chains.specs.Chain.{chain, Chained}
use Rattle.environments.specs.declared.environment.Environment.{Environment as Held}
use Rattle.environments.specs.Environment.{Holds}

-- what a row makes of an environment, if it is a row of the predicate
unfoldable pub found : Words → ℕ → List Term → Environment → ℕ → List Environment
found log p ts e r = cond (equal (word (row_at log r) 0) (pos p)) (fit ts (arguments (row_at log r)) e) []

-- links that chain the rows by some key, such that the chain of a key has all true rows of a predicate that can fit
pub record Leads (words log : Words) (links : List ℕ) (keys k p first n : ℕ) (held : Held) : Type 0 where
  pub key : ℕ → ℕ
  pub chained : Chained key keys (row_count log) links
  pub inside : k < keys
  pub whole :
      (e : Environment) →
      Holds held e →
      matches (rows log) p (terms_at words first n) e
      ≡ gather (found log p (terms_at words first n) e) (chain key k 0 (row_count log))

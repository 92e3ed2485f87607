-- What the reading of terms comes to.
use Rattle.std.specs.Prelude.{◌+◌, ◌*◌, ◌≤◌, ◌≡◌, List, ◌∷◌, [], ◌++◌, length, take, pos, Result, Ok, Err}
use Rattle.model.specs.Words.{Words}
use Rattle.model.specs.Lists.{gather}
use Rattle.model.specs.Answer.{refused}
use Rattle.model.specs.Tree.{Term, constant, variable, encode_term}
use Rattle.model.specs.TptpReading.{Reader, give, integer, natural, ◌>>=◌}
use Rattle.model.specs.declared.Refusal.{Refusal}
use Rattle.text.specs.declared.cursor.Cursor.{Cursor}
use Rattle.tptp_tokens.specs.Steps.{from, Value}
use Rattle.tptp_leaves.specs.declared.terms.TermWords.{TermWords}

-- a reader comes to a term with these words, or to a refusal
abbrev pub TermRead : (reader : Reader Term) (old new : Cursor) (r : Result TermWords Refusal) → Type 0
TermRead reader old new (Ok w) = Value reader (λ t. encode_term t ≡ w.kind ∷ w.number ∷ []) old new
TermRead reader old new (Err e) = from reader old ≡ refused e new.at

-- behind the letter of a variable; a constant
abbrev pub read_variable : Reader Term
read_variable = do
  x ← natural
  give (variable x)

abbrev pub read_constant : Reader Term
read_constant = do
  k ← integer
  give (constant k)

-- the number of terms, at most six, and their words stand behind two words
pub record TermsStand (own own' : Words) (ts : List Term) : Type 0 where
  pub most : length ts ≤ 6
  pub words : take (3 + 2 * length ts) own' ≡ take 2 own ++ pos (length ts) ∷ gather encode_term ts

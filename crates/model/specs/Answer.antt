-- AnswersAs: the number, the place and the count of each case, and the asking of questions in order.
use Rattle.std.specs.Prelude.{ℕ, ◌≡◌, Bool, true, false, get_or, Result, Ok, Err}
use mathlib.Core.List.{List, [], ◌∷◌}
use Rattle.model.specs.declared.Refusal.{Refusal}
use Rattle.model.specs.declared.Refusal.TheVariants.{Table, PolicyLength, Shape, Level, Predicate, Variable, Mode, LogLength, Row}
use Rattle.model.specs.declared.Refusal.TheVariants.{Repeat, Scratch, Room, Csv, Record, Tptp}
use Rattle.model.specs.declared.Refused.{Refused}

-- the number of the question that a refusal answers with no
unfoldable pub question : Refusal → ℕ
question Table = 1
question PolicyLength = 2
question Shape = 3
question Level = 4
question Predicate = 5
question Variable = 6
question Mode = 7
question LogLength = 8
question Row = 9
question Repeat = 10
question Scratch = 11
question Room = 12
question Csv = 13
question Record = 14
question Tptp = 15

-- the refusal of a question's number; of a number that no question has, the last
unfoldable pub in_order : List Refusal
in_order =
    Tptp ∷ Table ∷ PolicyLength ∷ Shape ∷ Level ∷ Predicate ∷ Variable ∷ Mode ∷ LogLength ∷ Row ∷ Repeat ∷ Scratch ∷ Room ∷ Csv ∷ Record ∷ []

unfoldable pub refusal_of : ℕ → Refusal
refusal_of n = get_or in_order n Tptp

-- a refusal with its place
abbrev pub refused_at : Refusal → ℕ → Refused
refused_at r p = record { 0 = r; 1 = p }

-- accepted with a count, or refused
abbrev pub Answer : Type 0
Answer = Result ℕ Refused

-- accepted is 0 with place 0; refused, the count is 0
unfoldable pub number : Answer → ℕ
number (Ok n) = 0
number (Err e) = question e.0

unfoldable pub place : Answer → ℕ
place (Ok n) = 0
place (Err e) = e.1

unfoldable pub count : Answer → ℕ
count (Ok n) = n
count (Err e) = 0

-- what a call promises of its answer: it is the one that is fixed for the call, and so are its number, its place and its count
pub record AnswersAs (fixed r : Answer) : Type 0 where
  pub same : r ≡ fixed
  pub numbered : number r ≡ number fixed
  pub placed : place r ≡ place fixed
  pub counted : count r ≡ count fixed

-- what comes of a list of questions: the first one refused, with its place, or what they were asked for
pub data Outcome (A : Type 0) : Type 0 where
  refused : Refusal → ℕ → Outcome A
  passed : A → Outcome A

-- one question
unfoldable pub ask : Bool → Refusal → ℕ → Outcome (Unit {0})
ask true r p = passed tt
ask false r p = refused r p

module _ {A B : Type 0} where
  -- the first questions, and, if they pass, the next ones
  infixl 20 ◌>>=◌
  unfoldable pub ◌>>=◌ : Outcome A → (A → Outcome B) → Outcome B
  refused r p >>= next = refused r p
  passed a >>= next = next a

module _ {A : Type 0} where
  -- the same questions at each element in turn
  unfoldable pub in_turn : (A → Outcome (Unit {0})) → List A → Outcome (Unit {0})
  unfolding ◌>>=◌
  in_turn questions [] = passed tt
  in_turn questions (x ∷ xs) = questions x >>= λ _. in_turn questions xs

  -- the answer, with the count that a call gives of what it accepts
  unfoldable pub answer : (A → ℕ) → Outcome A → Answer
  answer size (refused r p) = Err (refused_at r p)
  answer size (passed a) = Ok (size a)

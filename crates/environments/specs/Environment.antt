-- What the code's environments hold, as those of model, and the words of a place that stand for one.
use Rattle.std.specs.Prelude.{ℕ, zero, suc, ◌+◌, ◌*◌, ◌/◌, ◌%◌, ◌≡◌, Bool, true, false, cond, List, [], ◌∷◌, ◌++◌, map, take, drop, eqb, ℤ, pos}
use Rattle.model.specs.Words.{Words, scope_limit, place_words}
use Rattle.model.specs.Lists.{span}
use Rattle.model.specs.Listing.{Slot, bound, free, Environment, number_in}
use Rattle.environments.specs.declared.environment.Environment.{Environment as Held}

-- a variable has a number
unfoldable pub is_bound : Slot → Bool
is_bound (bound k) = true
is_bound free = false

-- the sixteen numbers of an environment, 0 for a free variable, and its sixteen marks
unfoldable pub numbers_of : Environment → List ℤ
numbers_of e = map (λ x. number_in (e x)) (span 0 scope_limit)

unfoldable pub marks_of : Environment → List Bool
marks_of e = map (λ x. is_bound (e x)) (span 0 scope_limit)

-- marks as the bits of a number, the first mark as bit 0
unfoldable pub bits : List Bool → ℕ
bits [] = 0
bits (b ∷ bs) = cond b 1 0 + 2 * bits bs

-- the words of a place that stand for an environment: its numbers, and the marks in one word
unfoldable pub place_of : Environment → Words
place_of e = numbers_of e ++ pos (bits (marks_of e)) ∷ []

-- the words of a place of scratch, and scratch with an environment stored in a place
abbrev pub place_at : (scratch : Words) (place : ℕ) → Words
place_at scratch place = take place_words (drop (place_words * place) scratch)

abbrev pub stored : (scratch : Words) (place : ℕ) (e : Environment) → Words
stored scratch place e = take (place_words * place) scratch ++ (place_of e ++ drop (place_words * place + place_words) scratch)

-- the first n bits of a number as marks
unfoldable pub unbits : ℕ → ℕ → List Bool
unbits zero w = []
unbits (suc n) w = eqb (w % 2) 1 ∷ unbits n (w / 2)

-- what the code's environment holds
pub record Holds (held : Held) (e : Environment) : Type 0 where
  pub numbers : held.numbers ≡ numbers_of e
  pub marks : held.marks ≡ marks_of e

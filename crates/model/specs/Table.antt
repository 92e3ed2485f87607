-- The predicate table, and question 1.
use Rattle.std.specs.Prelude.{ℕ, ◌+◌, ◌*◌, ◌-◌, ◌/◌, ◌%◌, ◌^◌, Bool, ◌&&◌, length, leb, eqb, pos}
use Rattle.model.specs.Words.{Words, word, value, within, equal, record_words, predicate_limit}
use Rattle.model.specs.Lists.{span}
use Rattle.model.specs.Answer.{Outcome, ask, in_turn, ◌>>=◌}
use Rattle.model.specs.declared.Refusal.TheVariants.{Table}

module _ (table : Words) where
  unfoldable pub predicates : ℕ
  predicates = length table / record_words

  unfoldable pub arity : ℕ → ℕ
  arity p = value table (record_words * p)

  -- argument i, counted from 0, is an input: bit i of the mode mask
  unfoldable pub input : ℕ → ℕ → Bool
  input p i = eqb (value table (record_words * p + 1) / 2 ^ i % 2) 1

  unfoldable pub complete : ℕ → Bool
  complete p = equal (word table (record_words * p + 2)) (pos 1)

  -- arity 1 to 6; no mode bit above the arity; complete 0 or 1
  unfoldable pub good_record : ℕ → Bool
  good_record p =
      within 1 6 (word table (record_words * p))
      && within 0 (2 ^ arity p - 1) (word table (record_words * p + 1))
      && within 0 1 (word table (record_words * p + 2))

  -- question 1
  unfoldable pub ask_table : Outcome (Unit {0})
  ask_table = do
    _ ← ask (eqb (length table % record_words) 0 && leb 1 predicates && leb predicates predicate_limit) Table 0
    in_turn (λ p. ask (good_record p) Table p) (span 0 predicates)

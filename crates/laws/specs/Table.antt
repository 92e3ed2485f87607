-- What an accepted table is: its length, and the records in it.
use Rattle.std.specs.Prelude.{ℕ, ◌%◌, ◌≤◌, ◌<◌, ◌≡◌, true, ◌&&◌, length, leb, eqb}
use Rattle.std.proofs.Common.{zero-add, arith, leb-true, eqb-true}
use Rattle.model.specs.declared.Refusal.TheVariants.{Table}
use Rattle.model.specs.Words.{Words, record_words, predicate_limit, value}
use Rattle.model.specs.Answer.{passed, ask}
use Rattle.model.specs.Table.{predicates, arity, good_record, ask_table}
use Rattle.laws.specs.Words.Tests.{and_left, and_right}
use Rattle.laws.specs.Answer.{ask-passed, then_passed, in_turn_mem}
use Rattle.laws.specs.Lists.Span.{mem_span}
use Rattle.laws.specs.Words.Standing.{within-value}

-- an accepted table
pub record Accepted (table : Words) : Type 0 where
  pub whole : length table % record_words ≡ 0
  pub some : 1 ≤ predicates table
  pub few : predicates table ≤ predicate_limit
  pub good : (p : ℕ) → p < predicates table → good_record table p ≡ true

pub accepted : (table : Words) → ask_table table ≡ passed tt → Accepted table
unfolding ask_table
accepted table e =
    let (u, first, rest) =
    then_passed (ask (eqb (length table % record_words) 0 && leb 1 (predicates table) && leb (predicates table) predicate_limit) Table 0) _ e
    in
    let tests = ask-passed _ _ _ first in
    record {
      whole = eqb-true _ 0 (and_left _ _ (and_left _ _ tests));
      some = leb-true 1 _ (and_right (eqb (length table % record_words) 0) _ (and_left _ _ tests));
      few = leb-true _ predicate_limit (and_right (eqb (length table % record_words) 0 && leb 1 (predicates table)) _ tests);
      good = λ p h.
          ask-passed _ _ _
          (in_turn_mem (λ q. ask (good_record table q) Table q) rest (mem_span 0 (predicates table) (omega arith) (omega (arith, zero-add (predicates table)))));
    }

-- the arity of each of its predicates
pub arity-range : (table : Words) → Accepted table → (p : ℕ) → p < predicates table → (1 ≤ arity table p) × (arity table p ≤ 6)
unfolding good_record arity value
arity-range table a p h =
    let r = within-value 1 6 _ (and_left _ _ (and_left _ _ (a.good p h))) in (r.1, r.2)

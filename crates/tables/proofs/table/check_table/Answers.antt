-- `tables::table::check_table` meets its contract. The loop's invariant: the records passed are good, so question 1 comes to
-- the questions at those left. The measure is their number.
use Prim.Native.Nat.{ℕ, ◌/◌, ◌%◌}
use native.Mathlib.Nat.{sub-zero}
use native.Mathlib.Omega.{arith}
use mathlib.Core.Path.{◌≡◌, sym, ap, ◌∙◌}
use mathlib.Core.Bool.{true, false}
use borrow.Author.Tests.{eq-eqb, ne_eqb, le-leb, lt-leb}
use lib.ListN.{length}
use lib.Dec.{eqb, leb}
use Rattle.model.specs.declared.Refusal.TheVariants.{Table}
use Rattle.model.specs.Words.{Words}
use Rattle.model.specs.Lists.{span}
use Rattle.model.specs.Answer.{passed, refused, ask, in_turn, ◌>>=◌}
use Rattle.model.specs.Table.{predicates, good_record, ask_table}
use Rattle.laws.specs.Answer.{turn_step, turn_stop, turn_end}
use Rattle.tables.proofs.table.check_table.Invariants.{record_question}
use Rattle.tables.proofs.table.check_table.Goals as goal

-- the table's length, as three tests
ask-none : (table : Words) → eqb (length table % 3) 0 ≡ false → refused Table 0 ≡ ask_table table
unfolding ask_table predicates ask ◌>>=◌
ask-none table e = rw e

ask-few : (table : Words) → eqb (length table % 3) 0 ≡ true → leb 1 (length table / 3) ≡ false → refused Table 0 ≡ ask_table table
unfolding ask_table predicates ask ◌>>=◌
ask-few table e f = rw (e, f)

ask-many :
    (table : Words) → eqb (length table % 3) 0 ≡ true → leb 1 (length table / 3) ≡ true → leb (length table / 3) 256 ≡ false →
    refused Table 0 ≡ ask_table table
unfolding ask_table predicates ask ◌>>=◌
ask-many table e f g = rw (e, f, g)

ask-records :
    (table : Words) → eqb (length table % 3) 0 ≡ true → leb 1 (length table / 3) ≡ true → leb (length table / 3) 256 ≡ true →
    ask_table table ≡ in_turn (record_question table) (span 0 (length table / 3))
unfolding ask_table predicates ask ◌>>=◌ record_question
ask-records table e f g = rw (e, f, g)

question-passed : (table : Words) (p : ℕ) → good_record table p ≡ true → record_question table p ≡ passed tt
unfolding record_question ask
question-passed table p e = rw e

question-refused : (table : Words) (p : ℕ) → good_record table p ≡ false → record_question table p ≡ refused Table p
unfolding record_question ask
question-refused table p e = rw e

pub returns-then-table-ne0 : goal.returns-then-table-ne0
returns-then-table-ne0 c = ask-none c.args.table.now (ne_eqb _ 0 c.if-table-ne0.true)

pub returns-then-n-lt1 : goal.returns-then-n-lt1
returns-then-n-lt1 c = ask-few c.args.table.now (eq-eqb _ 0 c.if-table-ne0.false) (lt-leb 1 _ c.if-n-lt1.true)

pub returns-then-n-gt-PREDICATE_LIMIT : goal.returns-then-n-gt-PREDICATE_LIMIT
returns-then-n-gt-PREDICATE_LIMIT c =
    let a = c.args in
    ask-many a.table.now (eq-eqb _ 0 c.if-table-ne0.false) (le-leb 1 _ c.if-n-lt1.false)
    (lt-leb _ 256 c.if-n-gt-PREDICATE_LIMIT.true)

pub loop-p-init : goal.loop-p-init
loop-p-init c = (
  omega arith,
  omega arith,
  ask-records c.args.table.now
      (eq-eqb _ 0 c.if-table-ne0.false)
      (le-leb 1 _ c.if-n-lt1.false)
      (le-leb _ 256 c.if-n-gt-PREDICATE_LIMIT.false)
      ∙ ap (λ (m : ℕ). in_turn (record_question c.args.table.now) (span 0 m)) (sym (sub-zero _)),
)

pub returns-then-not-good_record : goal.returns-then-not-good_record
returns-then-not-good_record c =
    let table = c.args.table.now in
    sym
    (c.loop-p.invariant.2
    ∙ turn_stop (record_question table) c.loop-p.p (length table / 3) c.loop-p-test.true
    (question-refused table c.loop-p.p (sym c.good_record.ensures ∙ c.if-not-good_record.true)))

pub loop-p-preserved : goal.loop-p-preserved
loop-p-preserved c =
    let table = c.args.table.now in (
      omega arith,
      omega arith,
      c.loop-p.invariant.2
          ∙ turn_step (record_question table) c.loop-p.p (length table / 3) c.loop-p-test.true
          (question-passed table c.loop-p.p (sym c.good_record.ensures ∙ c.if-not-good_record.false)),
    )

pub returns : goal.returns
returns c =
    let table = c.args.table.now in
    sym (c.loop-p.invariant.2 ∙ turn_end (record_question table) c.loop-p.p (length table / 3) c.loop-p-test.false)

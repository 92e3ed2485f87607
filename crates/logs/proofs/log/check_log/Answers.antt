-- `logs::log::check_log` meets its contract: question 8 is two tests; questions 9 and 10 are asked over the chained rows.
use Prim.Native.Nat.{ℕ, ◌/◌, ◌%◌}
use native.Mathlib.Omega.{arith}
use mathlib.Core.Path.{◌≡◌, sym, ◌∙◌}
use mathlib.Core.Bool.{true, false}
use borrow.Author.Tests.{eq-eqb, ne_eqb, le-leb, lt-leb}
use lib.ListN.{length}
use lib.Dec.{eqb, leb}
use Rattle.model.specs.declared.Refusal.TheVariants.{LogLength}
use Rattle.model.specs.Words.{Words}
use Rattle.model.specs.Answer.{refused, ask, ◌>>=◌}
use Rattle.model.specs.Log.{row_count, ask_log}
use Rattle.std.specs.Prelude.{Result, Ok, Err}
use Rattle.model.specs.declared.Refused.{Refused}
use Rattle.logs.specs.Log.{ask_rows, repeats_at}
use Rattle.chains.proofs.Keys.{zeros-empty}
use Rattle.logs.proofs.log.check_log.Goals as goal

module _ (table log : Words) where
  ask-whole : eqb (length log % 8) 0 ≡ false → refused LogLength 0 ≡ ask_log table log
  unfolding ask_log row_count ask ◌>>=◌
  ask-whole e = rw e

  ask-long : eqb (length log % 8) 0 ≡ true → leb (length log / 8) 4096 ≡ false → refused LogLength 0 ≡ ask_log table log
  unfolding ask_log row_count ask ◌>>=◌
  ask-long e f = rw (e, f)

  ask-rows : eqb (length log % 8) 0 ≡ true → leb (length log / 8) 4096 ≡ true → ask_log table log ≡ ask_rows table log
  unfolding ask_log row_count ask ◌>>=◌ ask_rows repeats_at
  ask-rows e f = rw (e, f)

-- a refusal is no pass
never : {X : Type 0} {f : Refused} → ◌≡◌ {A = Result (Unit {0}) Refused} (Err f) (Ok tt) → X
never e = let z : ◌≡◌ {A = ℕ} 0 1 = cc in absurd (omega arith)

pub returns-then-log-ne0 : goal.returns-then-log-ne0
returns-then-log-ne0 c =
    let a = c.args in
    record { asked = ask-whole a.table.now a.log.now (ne_eqb _ 0 c.if-log-ne0.true); chained = λ e. never e }

pub returns-then-log-gt4096 : goal.returns-then-log-gt4096
returns-then-log-gt4096 c =
    let a = c.args in
    record {
      asked = ask-long a.table.now a.log.now (eq-eqb _ 0 c.if-log-ne0.false) (lt-leb _ 4096 c.if-log-gt4096.true);
      chained = λ e. never e;
    }

pub chain_and_check-requires : goal.chain_and_check-requires
unfolding row_count
chain_and_check-requires c =
    let few = c.if-log-gt4096.false in
    let a = c.args in
    (few, few, zeros-empty 16384 (length a.log.now / 8) a.links.now 20480 c.requires (omega (arith, few)))

pub returns : goal.returns
returns c =
    let a = c.args in
    record {
      asked = c.chain_and_check.ensures.result_value ∙ sym
          (ask-rows a.table.now a.log.now (eq-eqb _ 0 c.if-log-ne0.false) (le-leb _ 4096 c.if-log-gt4096.false));
      chained = λ e. c.chain_and_check.ensures.chained;
    }

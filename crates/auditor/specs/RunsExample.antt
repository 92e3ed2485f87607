-- A run of three served calls that meets the premises of the theorem: one refused for scratch, one over the first two rows, one over
-- the whole log. The log is log A and one more row. The theorem is applied to it in proofs/RunsExample.antt.
use Rattle.model.specs.Answer.{refused_at}
use Rattle.std.specs.Prelude.{ℕ, ◌≡◌, refl, true, replicate, pos}
use mathlib.Core.List.{List, [], ◌∷◌, map}
use Rattle.std.specs.Prelude.{Ok, Err}
use Rattle.model.specs.declared.Refusal.TheVariants.{Scratch}
use Rattle.model.specs.Words.{Words}
use Rattle.model.specs.Calls.{zeros}
use Rattle.model.specs.Runs.{proviso}
use Rattle.model.specs.Examples.{words, T, computing}
use Rattle.laws.specs.Answer.{answers}
use Rattle.laws.proofs.Runs.Example.{log, policy}
use Rattle.auditor.specs.Runs.{Served, call_of, Serves}

-- what a caller lends, not cleared before
abbrev dirt : ℕ → Words
dirt n = replicate n (pos 5)

-- a word too little of scratch: F is held as it is
abbrev first : Served
first =
    record {
      part = 3;
      scratch = dirt 33;
      buffer = dirt 4;
      answer = Err (refused_at Scratch 0);
      scratch' = zeros 33;
      buffer' = zeros 4;
    }

-- 9 was sent to: believes (9), and F but for that instance
abbrev second : Served
second =
    record {
      part = 2;
      scratch = dirt 34;
      buffer = dirt 27;
      answer = Ok 27;
      scratch' = zeros 34;
      buffer' =
          words
          (6 ∷ 2 ∷ 2 ∷ 2 ∷ 1 ∷ 0 ∷ 9 ∷ 8 ∷ 3 ∷ 1 ∷ 7 ∷ 9 ∷ 100 ∷ 2 ∷ 0 ∷ 3 ∷ 1 ∷ 0 ∷ 1 ∷ 1 ∷ 1 ∷ 2 ∷ 2 ∷ 2 ∷ 1 ∷ 1 ∷ 1 ∷ []);
    }

-- 8 too: believes (9), believes (8), and F but for both
abbrev third : Served
third =
    record {
      part = 3;
      scratch = dirt 52;
      buffer = dirt 37;
      answer = Ok 35;
      scratch' = zeros 52;
      buffer' =
          words
          (6 ∷ 3 ∷ 2 ∷ 2 ∷ 1 ∷ 0 ∷ 9 ∷ 2 ∷ 2 ∷ 1 ∷ 0 ∷ 8 ∷ 8 ∷ 3 ∷ 2 ∷ 7 ∷ 9 ∷ 100 ∷ 7 ∷ 8 ∷ 101
          ∷ 2 ∷ 0 ∷ 3 ∷ 1 ∷ 0 ∷ 1 ∷ 1 ∷ 1 ∷ 2 ∷ 2 ∷ 2 ∷ 1 ∷ 1 ∷ 1 ∷ 0 ∷ 0 ∷ []);
    }

unfoldable pub calls : List Served
calls = first ∷ second ∷ third ∷ []

pub serves : Serves T log policy calls
unfolding Serves calls computing log policy
serves = (
  record { answered = answers refl; wrote = refl; cleared = refl },
  (
    record { answered = answers refl; wrote = refl; cleared = refl },
    (record { answered = answers refl; wrote = refl; cleared = refl }, tt),
  ),
)

pub meets_proviso : proviso T log policy (map call_of calls) ≡ true
unfolding calls call_of computing log policy
meets_proviso = refl

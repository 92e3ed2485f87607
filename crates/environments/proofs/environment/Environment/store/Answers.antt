-- `environments::environment::Environment::store` meets its contract. The loop's invariant: the first i numbers are there. The marks
-- stand behind them in one word.
use Prim.Native.Nat.{ℕ, ◌+◌, ◌*◌, ◌^◌, ◌<◌}
use native.Mathlib.Omega.{arith}
use native.Mathlib.Numerals.{add-one}
use mathlib.Core.Path.{◌≡◌, sym, ap, ap₂, ◌∙◌}
use mathlib.Core.Bool.{Bool}
use mathlib.Core.List.{List, [], ◌∷◌, ◌++◌}
use lib.ListN.{length, get_or, set, take, drop}
use lib.Seq.{paste, paste-suc}
use lib.IntN.{ℤ, pos}
use mir.Syntax.{w32}
use mir.Val.{to_z, of_z}
use mir.Facts.{to_z_pos}
use borrow.Author.Rules.{rules}
use Rattle.model.specs.Words.{Words}
use Rattle.environments.specs.Environment.{bits, marks_of, place_of}
use Rattle.environments.proofs.Places.{bits_small, place-stored}
use Rattle.environments.proofs.environment.Environment.store.Goals as goal

-- sixteen marks are a word of 32 bits
marks_fit : (marks : List Bool) (w : ℕ) → length marks ≡ 16 → w ≡ bits marks → w < 2 ^ 31
marks_fit marks w n e = let b = bits_small marks (omega arith) in omega arith

pub loop-i-preserved : goal.loop-i-preserved
loop-i-preserved c =
    let a = c.args in
    let at = 17 * a.place in
    let i = c.loop-i.i in
    let v = get_or a.self.numbers i (pos 0) in
    let sixteen : length a.self.numbers ≡ 16 = search rules in
    let back : to_z w32 (of_z w32 v) ≡ v = search rules in
    ap₂ (λ (s : Words) (k : ℤ). set s (at + i) k) c.loop-i.invariant back
    ∙ paste-suc a.scratch.now at a.self.numbers i (pos 0) (omega arith) (omega arith)
    ∙ ap (paste a.scratch.now at a.self.numbers) (sym (add-one i))

pub overflow_cast-scratch : goal.overflow_cast-scratch
overflow_cast-scratch c = record { sfits = marks_fit c.args.self.marks _ (search rules) c.marks_word.ensures }

pub returns : goal.returns
unfolding place_of
returns c = λ e h.
    let a = c.args in
    let at = 17 * a.place in
    let all : c.loop-i.i ≡ 16 = omega arith in
    let sixteen : length a.self.numbers ≡ 16 = search rules in
    let small = marks_fit a.self.marks _ (search rules) c.marks_word.ensures in
    let w = pos (bits (marks_of e)) in
    ap₂ (λ (s : Words) (k : ℤ). set s (at + 16) k)
    (c.loop-i.invariant ∙ ap (paste a.scratch.now at a.self.numbers) all)
    (to_z_pos w32 small ∙ ap pos (c.marks_word.ensures ∙ ap bits h.marks))
    ∙ place-stored a.scratch.now a.self.numbers at w (omega arith) sixteen
    ∙ ap (λ (ns : Words). take at a.scratch.now ++ ((ns ++ w ∷ []) ++ drop (at + 17) a.scratch.now)) h.numbers

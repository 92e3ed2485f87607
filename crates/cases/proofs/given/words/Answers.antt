-- `cases::given::words` meets its contract.
use Rattle.std.proofs.Common.{rules, arith, ◌≡◌, ◌<◌, ◌-◌, ◌∙◌, to_z, of_z, to_z-of_z, w32, refl, sym, ap₂, length}
use Rattle.cases.specs.Given.{numbers}
use Rattle.cases.proofs.Fronts.{given-count, given-whole, set-behind}
use Rattle.cases.proofs.Lengths.{words-filled, words-read, filled-count, filled-whole}
use Rattle.cases.proofs.Words.{numbers_more, numbers_stop, numbers_full}
use Rattle.cases.proofs.given.words.Goals as goal

pub returns-in-Some-clause-count : goal.returns-in-Some-clause-count
returns-in-Some-clause-count c = filled-count _ _ _ (words-filled _ c.args.filler _ _ c.in-Some.ensures.length)

pub returns-in-Some-clause-words : goal.returns-in-Some-clause-words
returns-in-Some-clause-words c =
    filled-whole _ _ _ (words-filled _ c.args.filler _ _ c.in-Some.ensures.length) c.args.words.now _ _ _ c.in-Some.ensures.most
    (c.fill.ensures.after (λ y e. e)) (to_z-of_z c.ranges.filler)

pub returns-in_default-integer-clause-count : goal.returns-in_default-integer-clause-count
returns-in_default-integer-clause-count c =
    let l = c.loop-n in
    let whole = words-read c.args.text.now c.args.filler (length c.args.words.now) c.in_default.ensures.length in
    let few : l.n < length l.words = omega (arith, l.auto.words, c.loop-n-test.true) in
    given-count l.words _ l.n (whole ∙ numbers_stop _ l.words _ l.n l.here l.invariant.0 c.loop-n-test.true _ _ c.in_default-integer.ensures) (omega (arith, few))

pub returns-in_default-integer-clause-words : goal.returns-in_default-integer-clause-words
returns-in_default-integer-clause-words c =
    let l = c.loop-n in
    let whole = words-read c.args.text.now c.args.filler (length c.args.words.now) c.in_default.ensures.length in
    given-whole l.words _ l.n (whole ∙ numbers_stop _ l.words _ l.n l.here l.invariant.0 c.loop-n-test.true _ _ c.in_default-integer.ensures) c.args.words.now l.invariant.1

pub loop-n-init : goal.loop-n-init
loop-n-init c =
    let none : length c.args.words.now - 0 ≡ length c.args.words.now = omega arith in
    (rw none (ap₂ (numbers (length c.args.words.now)) (sym c.new-here.ensures.rest) (sym c.new-here.ensures.at)), refl)

pub loop-n-preserved : goal.loop-n-preserved
loop-n-preserved c =
    let l = c.loop-n in
    let back : to_z w32 (of_z w32 c.in-Ok.number) ≡ c.in-Ok.number = search rules in
    let few : l.n < length l.words = omega (arith, l.auto.words, c.loop-n-test.true) in
    rw back (
      numbers_more _ l.words _ l.n l.here l.invariant.0 c.loop-n-test.true few c.in-Ok.number c.integer.new.here c.in-Ok.ensures.0.reads,
      set-behind l.words c.args.words.now l.n c.in-Ok.number l.invariant.1,
    )

pub returns-clause-count : goal.returns-clause-count
returns-clause-count c =
    let l = c.loop-n in
    let whole = words-read c.args.text.now c.args.filler (length c.args.words.now) c.in_default.ensures.length in
    let all : length l.words ≡ l.n = omega (arith, l.auto.words, l.auto.n-end, c.loop-n-test.false) in
    let full : length c.args.words.now ≡ l.n = omega (arith, l.auto.n-end, c.loop-n-test.false) in
    all ∙ given-count l.words _ l.n (whole ∙ numbers_full _ l.words _ l.n l.here l.invariant.0 full) (omega (arith, all))

pub returns-clause-words : goal.returns-clause-words
returns-clause-words c =
    let l = c.loop-n in
    let whole = words-read c.args.text.now c.args.filler (length c.args.words.now) c.in_default.ensures.length in
    let all : length l.words ≡ l.n = omega (arith, l.auto.words, l.auto.n-end, c.loop-n-test.false) in
    let full : length c.args.words.now ≡ l.n = omega (arith, l.auto.n-end, c.loop-n-test.false) in
    rw all (given-whole l.words _ l.n (whole ∙ numbers_full _ l.words _ l.n l.here l.invariant.0 full) c.args.words.now l.invariant.1)

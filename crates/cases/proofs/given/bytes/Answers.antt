-- `cases::given::bytes` meets its contract.
use Rattle.std.proofs.Common.{arith, rules, ◌≡◌, ◌<◌, ◌≤◌, ◌∙◌, refl, length}
use Rattle.cases.proofs.Fronts.{given-count, given-whole, set-behind}
use Rattle.cases.proofs.Lengths.{bytes-filled, bytes-read, filled-count, filled-whole}
use Rattle.cases.proofs.Bytes.{line_done, line_full, line_stops, line_escapes, line_more}
use Rattle.cases.proofs.given.bytes.Goals as goal

pub returns-in-Some-clause-count : goal.returns-in-Some-clause-count
returns-in-Some-clause-count c = filled-count _ _ _ (bytes-filled _ _ _ c.in-Some.ensures.length)

pub returns-in-Some-clause-bytes : goal.returns-in-Some-clause-bytes
returns-in-Some-clause-bytes c =
    filled-whole _ _ _ (bytes-filled _ _ _ c.in-Some.ensures.length) c.args.out.now _ _ _ c.in-Some.ensures.most (c.fill.ensures.after (λ y e. e)) refl

pub returns-then-b-eq10-clause-count : goal.returns-then-b-eq10-clause-count
returns-then-b-eq10-clause-count c =
    let l = c.loop-i in
    let whole = bytes-read c.args.text.now (length c.args.out.now) c.in_default.ensures.length in
    given-count l.out _ l.n (whole ∙ line_stops _ l.out _ l.n l.escaped _ l.i l.invariant.0 c.loop-i-test.true c.if-b-eq10.true) l.invariant.2

pub returns-then-b-eq10-clause-bytes : goal.returns-then-b-eq10-clause-bytes
returns-then-b-eq10-clause-bytes c =
    let l = c.loop-i in
    let whole = bytes-read c.args.text.now (length c.args.out.now) c.in_default.ensures.length in
    given-whole l.out _ l.n (whole ∙ line_stops _ l.out _ l.n l.escaped _ l.i l.invariant.0 c.loop-i-test.true c.if-b-eq10.true) c.args.out.now l.invariant.1

pub returns-then-out-n-clause-count : goal.returns-then-out-n-clause-count
returns-then-out-n-clause-count c =
    let l = c.loop-i in
    let whole = bytes-read c.args.text.now (length c.args.out.now) c.in_default.ensures.length in
    let full : length c.args.out.now ≤ l.n = omega (arith, l.auto.out, c.if-out-n.true) in
    given-count l.out _ l.n (whole ∙ line_full _ l.out _ l.n l.escaped c.args.text.now l.i l.invariant.0 full) l.invariant.2

pub returns-then-out-n-clause-bytes : goal.returns-then-out-n-clause-bytes
returns-then-out-n-clause-bytes c =
    let l = c.loop-i in
    let whole = bytes-read c.args.text.now (length c.args.out.now) c.in_default.ensures.length in
    let full : length c.args.out.now ≤ l.n = omega (arith, l.auto.out, c.if-out-n.true) in
    given-whole l.out _ l.n (whole ∙ line_full _ l.out _ l.n l.escaped c.args.text.now l.i l.invariant.0 full) c.args.out.now l.invariant.1

pub loop-i-preserved-then-b-eq92 : goal.loop-i-preserved-then-b-eq92
loop-i-preserved-then-b-eq92 c =
    let l = c.loop-i in
    (line_escapes _ l.out _ l.n l.escaped _ l.i l.invariant.0 c.loop-i-test.true c.if-b-eq92.true, l.invariant.1, l.invariant.2)

pub loop-i-preserved : goal.loop-i-preserved
loop-i-preserved c =
    let l = c.loop-i in
    let few : l.n < length c.args.out.now = omega (arith, l.auto.out, c.if-out-n.false) in (
      line_more _ l.out _ l.n l.escaped _ l.i l.invariant.0 c.loop-i-test.true few c.if-out-n.false _ c.if-b-eq10.false c.if-b-eq92.false c.meant.ensures,
      set-behind l.out c.args.out.now l.n _ l.invariant.1,
      search rules,
    )

pub returns-clause-count : goal.returns-clause-count
returns-clause-count c =
    let l = c.loop-i in
    let whole = bytes-read c.args.text.now (length c.args.out.now) c.in_default.ensures.length in
    let all : length c.args.text.now ≡ l.i = omega (arith, l.auto.i-end, c.loop-i-test.false) in
    given-count l.out _ l.n (whole ∙ line_done _ l.out _ l.n l.escaped _ l.i l.invariant.0 all) l.invariant.2

pub returns-clause-bytes : goal.returns-clause-bytes
returns-clause-bytes c =
    let l = c.loop-i in
    let whole = bytes-read c.args.text.now (length c.args.out.now) c.in_default.ensures.length in
    let all : length c.args.text.now ≡ l.i = omega (arith, l.auto.i-end, c.loop-i-test.false) in
    given-whole l.out _ l.n (whole ∙ line_done _ l.out _ l.n l.escaped _ l.i l.invariant.0 all) c.args.out.now l.invariant.1

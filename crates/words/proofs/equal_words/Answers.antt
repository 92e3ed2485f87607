-- `words::equal_words` meets its contract. The loop's invariant: the words are equal if those from number i on are.
use Prim.Native.Nat.{◌-◌}
use native.Mathlib.Omega.{arith}
use mathlib.Core.Path.{sym, ◌∙◌}
use borrow.Author.Rules.{rules}
use Rattle.words.proofs.Signed.{bits-equal, bits-unequal}
use Rattle.words.proofs.PartLaws.{equal_on, equal_off, equal-last}
use Rattle.words.proofs.equal_words.Goals as goal

pub returns-then-a-at : goal.returns-then-a-at
returns-then-a-at c =
    let a = c.args in
    sym
    (c.loop-i.invariant.1 ∙ equal_off a.a.now a.at a.b.now a.from a.n c.loop-i.i
    c.loop-i-test.true c.requires.0 c.requires.1
    (bits-unequal _ _ (search rules) (search rules) c.if-a-at.true))

pub loop-i-preserved : goal.loop-i-preserved
loop-i-preserved c =
    let a = c.args in (
      omega arith,
      c.loop-i.invariant.1 ∙ equal_on a.a.now a.at a.b.now a.from a.n c.loop-i.i
          c.loop-i-test.true c.requires.0 c.requires.1
          (bits-equal _ _ (search rules) (search rules) c.if-a-at.false),
    )

pub returns : goal.returns
returns c =
    let a = c.args in
    sym (c.loop-i.invariant.1 ∙ equal-last a.a.now a.at a.b.now a.from a.n c.loop-i.i c.loop-i-test.false)

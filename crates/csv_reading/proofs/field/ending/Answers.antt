-- `csv_reading::field::ending` meets its contract, byte by byte.
use mathlib.Core.Path.{◌≡◌}
use lib.ListN.{length}
use borrow.Author.Rules.{rules}
use Rattle.csv_reading.proofs.FieldLaws.{ends-text, ends-comma, ends_bad, ends-early, ends-line}
use Rattle.csv_reading.proofs.field.ending.Goals as goal

pub returns-then-passes : goal.returns-then-passes
returns-then-passes c = ends-comma c.args.here.now c.passes.new.here c.if-passes.ensures

pub returns-then-passes-3 : goal.returns-then-passes-3
returns-then-passes-3 c =
    ends-line c.args.here.now c.passes.new.here c.passes-2.new.here c.passes-then-passes-2.new.here c.if-passes.ensures.0 c.if-passes-2.ensures
    c.if-passes-3.ensures

pub returns-then-passes-2 : goal.returns-then-passes-2
returns-then-passes-2 c =
    ends-early c.args.here.now c.passes.new.here c.passes-2.new.here c.passes-then-passes-2.new.here c.if-passes.ensures.0 c.if-passes-2.ensures
    c.if-passes-3.ensures

pub returns-then-is_empty : goal.returns-then-is_empty
returns-then-is_empty c =
    let none : length c.passes-2.new.here.rest.now ≡ 0 = search rules in
    ends-text c.args.here.now c.passes.new.here c.passes-2.new.here c.if-passes.ensures.0 c.if-passes-2.ensures.0 none

pub returns : goal.returns
returns c = ends_bad c.args.here.now c.passes.new.here c.passes-2.new.here c.if-passes.ensures c.if-passes-2.ensures (search rules)

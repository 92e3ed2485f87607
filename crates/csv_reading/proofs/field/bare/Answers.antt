-- `csv_reading::field::bare` meets its contract: a comma comes first, or the bytes are counted.
use mathlib.Core.Path.{◌∙◌}
use borrow.Author.Rules.{rules}
use Rattle.std.proofs.Common.{tests}
use Rattle.std.proofs.lemmas.Iterator.{YieldsList-from_slice}
use Rattle.std.proofs.lemmas.Iterator.Consumers.{count_from_yields_List}
use Rattle.std.proofs.lemmas.Iterator.Search.{YieldsList-from_take_while}
use Rattle.std.proofs.lemmas.List.Folds.{length-prefix_len}
use Rattle.model.specs.Csv.{text_data}
use Rattle.csv_reading.proofs.FieldLaws.{bare-none, bare-passed}
use Rattle.csv_reading.proofs.field.bare.Goals as goal

pub returns-then-eq : goal.returns-then-eq
returns-then-eq c = bare-none c.args.here.now (search rules)

pub returns : goal.returns
returns c =
    let rest = c.args.here.now.rest.now in
    let t = c.take_while in
    bare-passed c.args.here.now c.pass.new.self _
    (count_from_yields_List t.result _ c.count-more.ensures.ran
    (YieldsList-from_take_while _ text_data (YieldsList-from_slice rest (search rules)) t.ensures.closure t.ensures.done
    (λ x b q k. search (rules, tests)))
    ∙ length-prefix_len text_data rest)
    c.pass.ensures.rest c.pass.ensures.at

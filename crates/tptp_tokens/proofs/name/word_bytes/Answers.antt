-- `tptp_tokens::name::word_bytes` meets its contract: the bytes of a word are counted.
use mathlib.Core.Path.{refl, ◌∙◌}
use Rattle.std.proofs.Common.{rules, tests}
use Rattle.std.proofs.lemmas.Iterator.{YieldsList-from_slice}
use Rattle.std.proofs.lemmas.Iterator.Consumers.{count_from_yields_List}
use Rattle.std.proofs.lemmas.Iterator.Search.{YieldsList-from_take_while}
use Rattle.std.proofs.lemmas.List.Folds.{length-prefix_len}
use Rattle.model.specs.Bytes.{word_byte}
use Rattle.model.specs.TptpReading.{word_bytes}
use Rattle.tptp_tokens.proofs.ScanLaws.{scans}
use Rattle.tptp_tokens.proofs.name.word_bytes.Goals as goal

pub returns : goal.returns
unfolding word_bytes
returns c =
    let old = c.args.here.now in
    let new = c.pass.new.self in
    let t = c.take_while in
    let rest = old.rest.now in
    let counted =
    count_from_yields_List t.result _ c.count.ensures.ran
    (YieldsList-from_take_while _ word_byte (YieldsList-from_slice rest (search rules)) t.ensures.closure t.ensures.done
    (λ x b q k. search (rules, tests)))
    ∙ length-prefix_len word_byte rest in
    scans word_byte word_bytes (λ p. refl) (λ b t p. refl) old new _ counted c.pass.ensures.rest c.pass.ensures.at

-- `tptp_tokens::tokens::skip` meets its contract: the blanks are counted.
use mathlib.Core.Path.{refl, ◌∙◌}
use Rattle.std.proofs.Common.{rules, tests}
use Rattle.std.proofs.lemmas.Iterator.{YieldsList-from_slice}
use Rattle.std.proofs.lemmas.Iterator.Consumers.{count_from_yields_List}
use Rattle.std.proofs.lemmas.Iterator.Search.{YieldsList-from_take_while}
use Rattle.std.proofs.lemmas.List.Folds.{length-prefix_len}
use Rattle.model.specs.Bytes.{blank}
use Rattle.model.specs.TptpReading.{blanks}
use Rattle.tptp_tokens.proofs.ScanLaws.{scans, scan_stops}
use Rattle.tptp_tokens.proofs.tokens.skip.Goals as goal

pub returns : goal.returns
unfolding blanks
returns c =
    let old = c.args.here.now in
    let new = c.pass.new.self in
    let t = c.take_while in
    let rest = old.rest.now in
    let counted =
    count_from_yields_List t.result _ c.count.ensures.ran
    (YieldsList-from_take_while _ blank (YieldsList-from_slice rest (search rules)) t.ensures.closure t.ensures.done
    (λ x b q k. search (rules, tests)))
    ∙ length-prefix_len blank rest in
    record {
      reads = scans blank blanks (λ p. refl) (λ b t p. refl) old new _ counted c.pass.ensures.rest c.pass.ensures.at;
      stop = scan_stops blank blanks (λ p. refl) (λ b t p. refl) old new _ counted c.pass.ensures.rest;
    }

-- `logs::links::check_and_link` meets its contract: the links by atom stand in front, those of the true rows behind them.
use mathlib.Core.Path.{◌≡◌, sym, ap, subst, ◌∙◌}
use lib.ListN.{length}
use Rattle.model.specs.Answer.{passed}
use Rattle.model.specs.Log.{row_count, ask_log}
use Rattle.laws.specs.Log.{accepted}
use Rattle.tables.specs.Checked.{outcome}
use Rattle.chains.specs.Chain.{Chained}
use Rattle.chains.specs.Key.{true_key, predicate_keys, first_key, first_keys}
use Rattle.logs.specs.Links.{behind}
use Rattle.logs.proofs.Linking.{behind-behind, first-length, second-zeros, first-chained, second-stands}
use Rattle.logs.proofs.links.check_and_link.Goals as goal

pub link_true-requires : goal.link_true-requires
link_true-requires c =
    let filled-length : length c.check_log.new.links ≡ 20480 = c.check_log.auto.links ∙ first-length 20480 12546 c.args.links.now c.requires in
    let log-passed : let a = c.args in passed tt ≡ ask_log a.table.now a.log.now = sym (ap outcome c.in_ok-check_log.was) ∙ c.check_log.ensures.asked in
    let a = c.args in (
      (accepted a.table.now a.log.now (sym (log-passed))).short,
      second-zeros 20480 12546 a.links.now c.requires c.check_log.new.links (filled-length),
    )

pub returns : goal.returns
returns c =
    let filled-length : length c.check_log.new.links ≡ 20480 = c.check_log.auto.links ∙ first-length 20480 12546 c.args.links.now c.requires in
    let log-passed : let a = c.args in passed tt ≡ ask_log a.table.now a.log.now = sym (ap outcome c.in_ok-check_log.was) ∙ c.check_log.ensures.asked in
    let a = c.args in
    let first = c.check_log.new.links in
    let second = c.link_true.new.links in
    let trues = c.link_true.ensures in
    let stands = second-stands 20480 12546 a.links.now c.requires first (filled-length) second in
    record {
      asked = log-passed;
      linked = λ e. record {
        by_atom = first-chained 20480 12546 a.links.now c.requires first (filled-length) second
            (c.check_log.ensures.chained c.in_ok-check_log.was);
        by_predicate = subst (Chained (true_key a.log.now) predicate_keys (row_count a.log.now)) (sym stands) trues.by_predicate;
        by_first = subst (Chained (first_key a.log.now) first_keys (row_count a.log.now))
            (ap (behind 4353) (sym stands) ∙ behind-behind 20480 4353 _) trues.by_first;
      };
    }

-- `logs::links::chain_true` meets its contract, from what the two calls leave in their parts of the links.
use native.Mathlib.Omega.{arith}
use mathlib.Core.Path.{◌≡◌, sym, subst, ◌∙◌}
use lib.ListN.{length}
use Rattle.model.specs.Log.{row_count}
use Rattle.chains.specs.Chain.{Chained}
use Rattle.chains.specs.Key.{first_key, first_keys}
use Rattle.chains.proofs.Keys.{zeros-empty}
use Rattle.logs.proofs.Linking.{first-zeros, first-length, second-zeros, first-chained, second-stands}
use Rattle.logs.proofs.links.chain_true.Goals as goal

pub fill-requires : goal.fill-requires
fill-requires c =
    let a = c.args in
    let few = c.requires.0 in (
      few,
      c.requires.1,
      zeros-empty 257 (row_count a.log.now) _ 4353 (first-zeros 4353 8193 a.links.now c.requires.2) (omega (arith, few)),
    )

pub fill-requires-2 : goal.fill-requires-2
fill-requires-2 c =
    let filled-length : length c.fill.new.links ≡ 4353 = c.fill.auto.links ∙ first-length 4353 8193 c.args.links.now c.requires.2 in
    let a = c.args in
    let few = c.requires.0 in
    let room = c.requires.1 in
    let zeros = second-zeros 4353 8193 a.links.now c.requires.2 c.fill.new.links (filled-length) in (
      few,
      omega (arith, room, c.fill.auto.keys),
      zeros-empty 4097 (row_count a.log.now) _ 8193 zeros (omega (arith, few)),
    )

pub returns : goal.returns
returns c =
    let filled-length : length c.fill.new.links ≡ 4353 = c.fill.auto.links ∙ first-length 4353 8193 c.args.links.now c.requires.2 in
    let a = c.args in
    let first = c.fill.new.links in
    let second = c.fill-2.new.links in
    let long = filled-length in
    record {
      by_predicate = first-chained 4353 8193 a.links.now c.requires.2 first long second c.fill.ensures.chained;
      by_first = subst (Chained (first_key a.log.now) first_keys (row_count a.log.now))
          (sym (second-stands 4353 8193 a.links.now c.requires.2 first long second)) c.fill-2.ensures.chained;
    }

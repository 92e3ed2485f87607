-- `matching::rows::match_rows` meets its contract: the rows are walked along the chain that leads to all that can fit.
use native.Mathlib.Omega.{arith}
use Rattle.matching.proofs.WayLaws.{leads_lent}
use Rattle.matching.proofs.rows.match_rows.Goals as goal

pub offset_bounds-links-from : goal.offset_bounds-links-from
offset_bounds-links-from c =
    let a = c.args in
    omega (arith, (c.lead-way.ensures a.log.now a.links.now c.requires.0).1, c.ranges)

pub slice_bounds-walk_rows-count : goal.slice_bounds-walk_rows-count
slice_bounds-walk_rows-count c = (c.lead-way.ensures c.args.log.now c.args.links.now c.requires.0).1

pub slice_bounds-walk_rows-start : goal.slice_bounds-walk_rows-start
slice_bounds-walk_rows-start c =
    let a = c.args in
    (c.lead-way.ensures a.log.now a.links.now c.requires.0).1

pub walk_rows-requires : goal.walk_rows-requires
walk_rows-requires c =
    let a = c.args in (
      leads_lent a.links.now c.lead-way.result.from
          (c.lead-way.ensures a.log.now a.links.now c.requires.0).0,
      c.requires.2,
    )

-- `listing::keeping::is_false` meets its contract, by the value found.
use Rattle.listing.proofs.KeepLaws.{false-value}
use Rattle.listing.proofs.keeping.is_false.Goals as goal

pub returns : goal.returns
returns c =
    let a = c.args in
    false-value a.log.now.table.now a.words.now a.log.now.rows.now a.environment a.at c.value_at.result c.value_at.ensures _ c.eq.ensures

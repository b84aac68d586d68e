-- `walk::network_tabled` meets its contract. Assumes nothing.
use Rattle.sheet.specs.Reading.{network_layout}
use Rattle.sheet.proofs.Readers.Refusals.{tabled_found}
use Rattle.sheet.proofs.walk.network_tabled.Goals as goal

pub returns : goal.returns
returns c = tabled_found network_layout _ _ c.requires _ _ c.lengths_hold.ensures c.pairs_hold.ensures

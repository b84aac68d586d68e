-- `read::network_roled` meets its contract. Assumes nothing.
use Rattle.sheet.proofs.Readers.Refusals.{network_roled_found}
use Rattle.sheet.proofs.read.network_roled.Goals as goal

pub returns : goal.returns
returns c =
    let f = c.requires.0 in
    network_roled_found _ c.requires.1 _ f.conditions _ c.conditions-conditions.ensures _ _ c.number.ensures.0 f.actions _ _ _ _ c.number-2.ensures.0 c.number-3.ensures.0 f.transitions _ _ _ c.actions_free.ensures f.last c.paired_suit.ensures c.templates_suit.ensures

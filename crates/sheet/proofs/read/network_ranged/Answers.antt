-- `read::network_ranged` meets its contract. Assumes nothing.
use Rattle.sheet.proofs.Readers.Refusals.{network_ranged_found}
use Rattle.sheet.proofs.read.network_ranged.Goals as goal

pub returns : goal.returns
returns c =
    let f = c.requires in
    network_ranged_found _ _ c.counts-c.ensures _ _ _ _ c.number.ensures.0 c.number-templates.ensures.0 f.transitions _ _ f.last c.paired_ranged.ensures c.templates_ranged.ensures

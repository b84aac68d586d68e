-- `read::sheet_ranged` meets its contract. Assumes nothing.
use Rattle.sheet.proofs.Readers.Refusals.{sheet_ranged_found}
use Rattle.sheet.proofs.read.sheet_ranged.Goals as goal

pub returns : goal.returns
returns c =
    let f = c.requires in
    sheet_ranged_found _ _ c.counts-c.ensures _ _ _ _ c.number.ensures.0 c.number-2.ensures.0 f.transitions _ _ f.last c.transitions_ranged.ensures c.triples_ranged.ensures

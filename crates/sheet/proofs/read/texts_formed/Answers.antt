-- `read::texts_formed` meets its contract. Assumes nothing.
use Rattle.sheet.proofs.Readers.Refusals.{formed_found}
use Rattle.sheet.proofs.read.texts_formed.Goals as goal

pub returns : goal.returns
returns c = formed_found _ _ c.lent-l.ensures _ c.has_wide.ensures _ _ _ _ _ _ c.number.ensures.0 c.number-2.ensures.0 c.requires.0 c.requires.1 c.conditions_formed.ensures c.actions_formed.ensures

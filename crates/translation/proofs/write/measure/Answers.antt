-- `write::measure` meets its contract. Assumes nothing.
use mathlib.Core.Path.{refl}
use Rattle.translation.proofs.Sheets.Filling.{measured}
use Rattle.translation.proofs.write.measure.Goals as goal

pub returns : goal.returns
returns c = measured c.requires _ _ _ refl _ c.tables.ensures

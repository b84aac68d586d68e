-- `sheet_places` meets its contract. Assumes nothing.
use mathlib.Core.Path.{◌∙◌}
use Rattle.sheet.specs.Reading.{sheet_layout}
use Rattle.sheet.proofs.Readers.Logs.{places_found}
use Rattle.sheet.proofs.sheet_places.Goals as goal

pub returns : goal.returns
returns c = c.places.ensures ∙ places_found sheet_layout _ _ c.sheet_tables.ensures

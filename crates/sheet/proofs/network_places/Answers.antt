-- `network_places` meets its contract. Assumes nothing.
use mathlib.Core.Path.{◌∙◌}
use Rattle.sheet.specs.Reading.{network_layout}
use Rattle.sheet.proofs.Readers.Logs.{places_found}
use Rattle.sheet.proofs.network_places.Goals as goal

pub returns : goal.returns
returns c = c.places.ensures ∙ places_found network_layout _ _ c.network_tables.ensures

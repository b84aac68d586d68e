-- `walk::sheet_tabled` meets its contract. Assumes nothing.
use mathlib.Core.Path.{refl, sym}
use mathlib.Core.Bool.{true}
use Rattle.sheet.specs.Reading.{sheet_layout, between}
use Rattle.sheet.proofs.Readers.Found.{every_always}
use Rattle.sheet.proofs.Readers.Refusals.{tabled_found}
use Rattle.sheet.proofs.walk.sheet_tabled.Goals as goal

pub returns : goal.returns
returns c = tabled_found sheet_layout _ _ c.requires _ true c.lengths_hold.ensures (sym (every_always (between 0 4) sheet_layout.pair_counts (λ u. refl) _ _))

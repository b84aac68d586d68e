-- `write::translate` meets its contract. Assumes nothing.
use native.Mathlib.Omega.{arith}
use Rattle.translation.proofs.Sheets.Filling.{prepared_with, too_short, long_enough}
use Rattle.translation.proofs.write.translate.Goals as goal

pub measure-size-requires : goal.measure-size-requires
measure-size-requires c = prepared_with _ c.requires _ c.header_of-h.ensures _ c.sheet_places-p.ensures

pub returns-then-out-size : goal.returns-then-out-size
returns-then-out-size c = too_short _ _ c.requires _ c.measure-size.ensures.size c.if-out-size.true

pub fill-requires : goal.fill-requires
fill-requires c = (prepared_with _ c.requires _ c.header_of-h.ensures _ c.sheet_places-p.ensures, c.measure-size.ensures, omega (arith, c.measure-size.ensures.size, c.if-out-size.false))

pub returns : goal.returns
returns c = long_enough _ _ c.requires _ c.measure-size.ensures.size c.if-out-size.false _ c.fill.ensures

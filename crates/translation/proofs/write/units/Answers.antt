-- `write::units` meets its contract. Assumes nothing.
use native.Mathlib.Omega.{arith}
use Rattle.translation.specs.Walk.{back_at}
use Rattle.translation.proofs.Sheets.Adding.{adding_start, adding_room, adding_many, adding_next, adding_end}
use Rattle.translation.proofs.write.units.Goals as goal

pub loop-unit-init : goal.loop-unit-init
loop-unit-init c = adding_start _ _ _ _

pub back-here-requires : goal.back-here-requires
back-here-requires c =
    let start = c in
    let a = start.args in
    let f = back_at a.s.now a.f a.state in
    let g = c.loop-unit.invariant in
    let h = c.loop-unit-test.true in
    (start.requires.0, adding_room f _ _ _ _ _ _ g h start.requires.1, omega (arith, adding_many f _ _ _ _ _ _ g h start.requires.2))

pub loop-unit-preserved : goal.loop-unit-preserved
loop-unit-preserved c =
    let a = c.args in
    adding_next (back_at a.s.now a.f a.state) _ _ _ _ _ _ c.loop-unit.invariant c.loop-unit-test.true _ _ c.back-here.ensures

pub returns : goal.returns
returns c = adding_end _ _ _ _ _ _ _ c.loop-unit.invariant c.loop-unit-test.false

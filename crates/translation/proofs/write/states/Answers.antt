-- `write::states` meets its contract. Assumes nothing.
use Rattle.translation.specs.Translate.{joined}
use Rattle.translation.specs.Walk.{back_at}
use Rattle.translation.proofs.Sheets.Adding.{adding_start, adding_room, adding_many, adding_next, adding_end}
use Rattle.translation.proofs.write.states.Goals as goal

pub loop-state-init : goal.loop-state-init
loop-state-init c = adding_start _ _ _ _

pub units-here-requires : goal.units-here-requires
units-here-requires c =
    let start = c in
    let a = start.args in
    let g = c.loop-state.invariant in
    let h = c.loop-state-test.true in
    (start.requires.0, adding_room (λ q. joined a.m (back_at a.s.now a.f q)) _ _ _ _ _ _ g h start.requires.1, adding_many (λ q. joined a.m (back_at a.s.now a.f q)) _ _ _ _ _ _ g h start.requires.2)

pub loop-state-preserved : goal.loop-state-preserved
loop-state-preserved c =
    let a = c.args in
    adding_next (λ q. joined a.m (back_at a.s.now a.f q)) _ _ _ _ _ _ c.loop-state.invariant c.loop-state-test.true _ _ c.units-here.ensures

pub returns : goal.returns
returns c = adding_end _ _ _ _ _ _ _ c.loop-state.invariant c.loop-state-test.false

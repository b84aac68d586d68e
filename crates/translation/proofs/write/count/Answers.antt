-- `write::count` meets its contract. Assumes nothing.
use Rattle.translation.proofs.Sheets.Pairing.{tally_start, tally_more, tally_same, tally_end}
use Rattle.translation.proofs.write.count.Goals as goal
use Rattle.translation.proofs.write.count.Goals.{else-t-state, then-t-state}

pub loop-init : goal.loop-init
loop-init c = tally_start _ _ _ _ _

pub loop-preserved : goal.loop-preserved
loop-preserved c =
    let g = c.loop.invariant in
    let h = c.loop-test.true in
    let e = c.triple_at-t.ensures in
    elim c.if-t-state.branch [ then-t-state w ↦ rw w.found-is (tally_more _ _ _ _ _ _ h _ e w.if-t-state.true _ _ g) | else-t-state w ↦ rw w.found-is (tally_same _ _ _ _ _ _ h _ e w.if-t-state.false _ _ g) ]

pub returns : goal.returns
returns c = tally_end _ _ _ _ _ _ _ _ c.loop.invariant c.loop-test.false

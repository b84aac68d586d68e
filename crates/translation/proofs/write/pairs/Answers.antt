-- `write::pairs` meets its contract. Assumes nothing.
use Rattle.translation.proofs.Sheets.Pairing.{listing_start, listing_room, listing_more, listing_same, listing_end}
use Rattle.translation.proofs.write.pairs.Goals as goal
use Rattle.translation.proofs.write.pairs.Goals.{else-t-state, then-t-state}

pub loop-i-init : goal.loop-i-init
loop-i-init c = listing_start _ _ _ _ _ _ _

pub put-here-requires : goal.put-here-requires
put-here-requires c =
    listing_room _ _ _ _ _ _ c.loop-i-test.true _ c.triple_at-t.ensures c.if-t-state.true _ _ _ _ _
    c.loop-i.invariant c.requires.1

pub loop-i-preserved : goal.loop-i-preserved
loop-i-preserved c =
    let g = c.loop-i.invariant in
    let h = c.loop-i-test.true in
    let e = c.triple_at-t.ensures in
    elim c.if-t-state.branch [ then-t-state w ↦ rw (w.out-is, w.here-is) (listing_more _ _ _ _ _ _ h _ e w.if-t-state.true _ _ _ _ _ g _ _ w.put-here.ensures) | else-t-state w ↦ rw (w.out-is, w.here-is) (listing_same _ _ _ _ _ _ h _ e w.if-t-state.false _ _ _ _ _ g) ]

pub returns : goal.returns
returns c = listing_end _ _ _ _ _ _ _ _ _ _ _ c.loop-i.invariant c.loop-i-test.false

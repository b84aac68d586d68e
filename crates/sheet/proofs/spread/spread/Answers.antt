-- `spread::spread` meets its contract. Assumes nothing.
use Rattle.sheet.proofs.Readers.Tallies.{tallying_start, tallying_below, tallying_next, tallying_full, tallying_end}
use Rattle.sheet.proofs.spread.spread.Goals as goal

pub loop-init : goal.loop-init
loop-init c = tallying_start _ _ _

pub bounds-counts-cell : goal.bounds-counts-cell
bounds-counts-cell c = tallying_below _ _ _ c.requires.2 _ _ _ c.loop.invariant c.loop-test.true _ _ _ c.triple-t.ensures c.from.ensures c.from-in-loop.ensures

pub returns-then-count-eq-MOST : goal.returns-then-count-eq-MOST
returns-then-count-eq-MOST c = tallying_full _ _ _ c.requires.2 _ _ _ c.loop.invariant c.loop-test.true _ _ _ c.triple-t.ensures c.from.ensures c.from-in-loop.ensures c.if-count-eq-MOST.true

pub loop-preserved : goal.loop-preserved
loop-preserved c = tallying_next _ _ _ c.requires.2 _ _ _ c.loop.invariant c.loop-test.true _ _ _ c.triple-t.ensures c.from.ensures c.from-in-loop.ensures c.if-count-eq-MOST.false

pub returns : goal.returns
returns c = tallying_end _ _ _ c.requires.2 _ _ _ c.loop.invariant c.loop-test.false

-- `event::find` meets its contract. Assumes nothing.
use borrow.Author.Rules.{rules}
use Rattle.engine.proofs.InWords.Chains.{seeking_start, seeking_fits, seeking_found, seeking_next, seeking_end}
use Rattle.engine.proofs.event.find.Goals as goal

pub loop-t-init : goal.loop-t-init
loop-t-init c = seeking_start _ _ _ _

pub overflow_add-count : goal.overflow_add-count
overflow_add-count c =
    let small = seeking_fits _ _ _ _ _ _ c.loop-t.invariant c.loop-t-test.true _ c.from-guard.ensures _ _ c.holds-held.ensures in
    search (rules, small)

pub returns-then-held : goal.returns-then-held
returns-then-held c = seeking_found _ _ _ _ _ _ c.loop-t.invariant c.loop-t-test.true _ c.from-guard.ensures _ _ c.holds-held.ensures c.if-held.true

pub loop-t-preserved : goal.loop-t-preserved
loop-t-preserved c = seeking_next _ _ _ _ _ _ c.loop-t.invariant c.loop-t-test.true _ c.from-guard.ensures _ _ c.holds-held.ensures c.if-held.false _ c.from.ensures

pub returns : goal.returns
returns c = seeking_end _ _ _ _ _ _ c.loop-t.invariant c.loop-t-test.false

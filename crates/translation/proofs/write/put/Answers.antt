-- `write::put` meets its contract. Assumes nothing.
use mathlib.Core.Logic.{inl, inr}
use Rattle.translation.proofs.Writing.{storing_start, storing_next, storing_end}
use Rattle.translation.proofs.write.put.Goals as goal
use Rattle.translation.proofs.write.put.Goals.{else-at-i, then-at-i}

pub loop-i-init : goal.loop-i-init
loop-i-init c = storing_start _ _ _

pub loop-i-preserved : goal.loop-i-preserved
loop-i-preserved c = storing_next _ _ _ _ _ _ c.loop-i.invariant c.loop-i-test.true (elim c.if-at-i.branch [ then-at-i w ↦ inl (w.if-at-i.true, w.out-is) | else-at-i w ↦ inr (w.if-at-i.false, w.out-is) ])

pub returns : goal.returns
returns c = storing_end _ _ _ _ _ c.loop-i.invariant c.loop-i-test.false

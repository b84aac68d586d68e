-- `action::is_run` meets its contract. Assumes nothing.
use Rattle.std.proofs.Common.{arith}
use Rattle.condition.proofs.Running.{left_all, any_run, judged_next, judged_end}
use Rattle.condition.proofs.action.is_run.Goals as goal

pub loop-at-init : goal.loop-at-init
loop-at-init c = left_all _ _ any_run

pub loop-at-smaller : goal.loop-at-smaller
loop-at-smaller c = omega (arith, c.skip_assignment-at.ensures.low)

pub loop-at-preserved : goal.loop-at-preserved
loop-at-preserved c = judged_next _ _ _ _ c.loop-at.invariant _ c.loop-at-test.true c.skip_assignment-at.ensures

pub returns : goal.returns
returns c = judged_end _ _ _ _ c.loop-at.invariant c.loop-at-test.false
